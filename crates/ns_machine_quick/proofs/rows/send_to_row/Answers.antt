use Rattle.std.proofs.Common.{◌∙◌, ap}
use Rattle.ns_kdata.specs.Arguments.{argument}
use Rattle.ns_machine_sends.specs.Going.{arguments_in}
use Rattle.ns_machine_quick.proofs.Valued.{first_there}
use Rattle.ns_machine_quick.proofs.rows.send_to_row.Goals as goal

pub value_of-requires-clause-first : goal.value_of-requires-clause-first
value_of-requires-clause-first c =
    first_there c.args.core.now.run.world.world.cells c.args.code.now (arguments_in c.args.core.now c.args.at c.args.sent) c.argument-first.result
    c.requires.can.selector.live (c.argument-first.ensures ∙ ap (λ values. argument values 0) c.from.ensures)
