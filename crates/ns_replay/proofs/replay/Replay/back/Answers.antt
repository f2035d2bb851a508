use Rattle.std.proofs.Common.{◌∙◌, ap}
use Rattle.ns_replay.proofs.PutBack.{shown_at}
use Rattle.ns_replay.proofs.replay.Replay.back.Goals as goal
use Rattle.ns_replay.specs.Replay.{ReplayView, gone_to}

pub returns-clause-replay : goal.returns-clause-replay
returns-clause-replay c =
    let m = c.self.inside in
    shown_at m.machine c.stand_before-self-inside.new.machine m.start m.kept m.asked c.stand_before-self-inside.result (c.turns_are_a_function.ensures m.machine.code m.machine.grants)
    c.stand_before-self-inside.ensures.same c.stand_before-self-inside.ensures.here
    ∙ ap (λ (v : ReplayView). gone_to v c.stand_before-self-inside.result) c.self.view_is
