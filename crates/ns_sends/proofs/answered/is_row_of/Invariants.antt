use Rattle.std.proofs.Common.{◌≡◌, drop}
use Rattle.std.specs.Prelude.{is_some}
use Rattle.std.specs.List.{list_any}
use Rattle.ns_world.specs.KernelTable.{row_called}
use Rattle.ns_sends.proofs.answered.is_row_of.Given as goal

abbrev pub invariant-classes : goal.invariant-classes
invariant-classes l =
    list_any (λ class. is_some (row_called class l.text)) (drop l.class-index l.classes) ≡ list_any (λ class. is_some (row_called class l.text)) l.classes
