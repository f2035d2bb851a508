use Rattle.std.proofs.Common.{◌∙◌, ◌≤◌, ap, sym, subst}
use Rattle.ns_replay.proofs.PutBack.{shown_at, stands_on}
use Rattle.ns_replay.proofs.replay.Replay.forth.Goals as goal
use Rattle.ns_replay.specs.Replay.{ReplayView, gone_to}

pub invariant_of-self : goal.invariant_of-self
invariant_of-self c =
    let m = c.self.inside in (
      stands_on m.machine c.turn-turn.new.self m.start m.kept m.asked c.args.step (c.turns_add.ensures.add m.machine.code) c.self.invariant.0
          (subst (λ (v : ReplayView). v.asked ≤ c.args.step) (sym c.self.view_is) c.requires) c.turn-turn.ensures.turns c.turn-turn.ensures.rest,
      c.self.invariant.1,
    )

pub returns : goal.returns
returns c =
    let m = c.self.inside in
    shown_at m.machine c.turn-turn.new.self m.start m.kept m.asked c.args.step (c.turns_are_a_function.ensures m.machine.code m.machine.grants) c.turn-turn.ensures.rest
    (stands_on m.machine c.turn-turn.new.self m.start m.kept m.asked c.args.step (c.turns_add.ensures.add m.machine.code) c.self.invariant.0
    (subst (λ (v : ReplayView). v.asked ≤ c.args.step) (sym c.self.view_is) c.requires) c.turn-turn.ensures.turns c.turn-turn.ensures.rest)
    ∙ ap (λ (v : ReplayView). gone_to v c.args.step) c.self.view_is
