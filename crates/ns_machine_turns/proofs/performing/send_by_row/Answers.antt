use Rattle.std.proofs.Common.{ap, ◌∙◌}
use Rattle.ns_machine_plan.specs.laws.Spelled.{integer_spelled, boolean_spelled, array_spelled}
use Rattle.ns_machine_turns.specs.Sent.{row_spelled}
use Rattle.ns_machine_turns.proofs.performing.send_by_row.Goals as goal

pub send_integer-requires-clause-row : goal.send_integer-requires-clause-row
send_integer-requires-clause-row c =
    integer_spelled c.args.code.now c.args.send.now.sel c.in-SendInteger.row (c.requires.spelled ∙ ap row_spelled c.in-SendInteger.is)

pub send_boolean-requires-clause-method : goal.send_boolean-requires-clause-method
send_boolean-requires-clause-method c =
    boolean_spelled c.args.code.now c.args.send.now.sel c.in-SendBoolean.method (c.requires.spelled ∙ ap row_spelled c.in-SendBoolean.is)

pub send_to_array-requires-clause-row : goal.send_to_array-requires-clause-row
send_to_array-requires-clause-row c =
    array_spelled c.args.code.now c.args.send.now.sel c.in-SendArray.row (c.requires.spelled ∙ ap row_spelled c.in-SendArray.is)
