use Rattle.std.proofs.Common.{◌≡◌, ap, sym, ◌∙◌}
use Rattle.ns_world.specs.KernelTable.{rows_of}
use Rattle.ns_world.proofs.kernel_table.rows_of.Goals as goal

pub returns-in-Boolean-clause-rows : goal.returns-in-Boolean-clause-rows
returns-in-Boolean-clause-rows c = c.between-in-Boolean.ensures.rows ∙ ap rows_of (sym c.in-Boolean.is)

pub returns-in-Integer-clause-rows : goal.returns-in-Integer-clause-rows
returns-in-Integer-clause-rows c = c.between-in-Integer.ensures.rows ∙ ap rows_of (sym c.in-Integer.is)
