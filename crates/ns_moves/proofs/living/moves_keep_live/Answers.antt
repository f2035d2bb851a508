use Rattle.ns_moves.proofs.LivesOn.{moves_live, turns_live}
use Rattle.ns_moves.proofs.living.moves_keep_live.Goals as goal

pub returns-clause-moves : goal.returns-clause-moves
returns-clause-moves c = λ code grants.
    moves_live code grants c.what_lives_stays.ensures.values (c.moves_go_onward.ensures code) (c.moves_keep_valid.ensures code grants)

pub returns-clause-turns : goal.returns-clause-turns
returns-clause-turns c = λ code grants.
    turns_live code grants (moves_live code grants c.what_lives_stays.ensures.values (c.moves_go_onward.ensures code) (c.moves_keep_valid.ensures code grants))
