use Rattle.ns_session.proofs.Beside.{turns_beside}
use Rattle.ns_session.proofs.robin_laws.turns_beside_a_board_are_a_function.Goals as goal

pub returns : goal.returns
returns c application =
    turns_beside application (c.turns_are_a_function.ensures application.code application.grants)
    (c.swaps_keep_valid.ensures application.code application.grants)
