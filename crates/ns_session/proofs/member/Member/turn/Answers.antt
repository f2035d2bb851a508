use Rattle.ns_session.specs.Kept.{member_shown}
use Rattle.ns_session.proofs.Keeping.{kept_turn}
use Rattle.ns_session.proofs.member.Member.turn.Goals as goal

pub invariant_of-self : goal.invariant_of-self
invariant_of-self c =
    let m = c.self.inside in
    let application = (member_shown m.machine m.grants m.limits).application in
    kept_turn m.machine c.turn_of-turn.new.machine m.grants m.limits m.ending c.ending-self-inside.result c.args.steps c.args.board.now
    c.turn_of-turn.new.board c.self.invariant (c.turns_stay_alone.ensures application) (c.applications_stay_in_reach.ensures.turns application)
    c.turn_of-turn.ensures.turn c.turn_of-turn.ensures.rest c.ending-self-inside.ensures.ending
