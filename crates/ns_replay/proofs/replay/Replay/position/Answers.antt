use Rattle.std.proofs.Common.{ap, subst, arith}
use Rattle.ns_moves.specs.laws.Worlds.{valid_lawful}
use Rattle.ns_replay.proofs.replay.Replay.position.Goals as goal
use Rattle.ns_replay.specs.Laws.{IsLeast}
use Rattle.ns_replay.specs.Replay.{ReplayView}
use Rattle.ns_world.specs.declared.ending.Counters.{Counters}

pub returns-clause-few : goal.returns-clause-few
returns-clause-few c =
    let m = c.self.inside in
    let within = (valid_lawful m.machine.code m.machine.grants m.machine.state c.idle-idle.ensures.valid).within in
    let used = ap (λ (counters : Counters). counters.steps) c.counters.ensures in
    omega (arith, used, within.steps, within.limits.0.1)

pub returns-clause-least : goal.returns-clause-least
returns-clause-least c =
    let m = c.self.inside in
    subst (λ (v : ReplayView). IsLeast v.code v.start v.asked v.state) c.self.view_is
    (c.positions_are_least.ensures m.machine.code m.machine.grants _ m.asked m.machine.state c.self.invariant.0.stands.valid c.self.invariant.0.unused c.self.invariant.0.here)
