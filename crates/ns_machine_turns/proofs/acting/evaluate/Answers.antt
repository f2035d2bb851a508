use Rattle.std.proofs.Common.{subst, sym}
use Rattle.ns_machine_frames.specs.Standing.{below}
use Rattle.ns_machine_core.specs.declared.state.Core.{Core}
use Rattle.ns_machine_core.specs.declared.state.Next.TheVariants.{On, Waits}
use Rattle.ns_machine_core.specs.Ready.{MakesMove}
use Rattle.ns_machine_returns.specs.Acting.{awaiting}
use Rattle.ns_machine_turns.specs.Looping.{BlockStands}
use Rattle.ns_world.specs.declared.value.Value.TheVariants.{Ref}
use Rattle.ns_machine_turns.proofs.Looped.{frame_moves, frame_place, frame_waits, topmost_loops, topmost_sends}
use Rattle.ns_machine_turns.proofs.acting.evaluate.Goals as goal

pub looping-frame-requires : goal.looping-frame-requires
looping-frame-requires c = topmost_loops c.requires.0 c.args.core.now.stack.frames.items c.requires.1.top

pub enter_at_once-requires-clause-waits : goal.enter_at_once-requires-clause-waits
enter_at_once-requires-clause-waits c =
    let frames = c.args.core.now.stack.frames.items in (
      c.requires.1.grants,
      frame_waits c.args.code.now c.args.core.now c.args.at c.requires.0 c.looping-frame.result c.args.cell c.requires.1
          (topmost_sends c.requires.0 c.looping-frame.result frames (below frames) c.looping-frame.ensures c.requires.1.top),
    )

pub enter_at_once-requires-clause-place : goal.enter_at_once-requires-clause-place
enter_at_once-requires-clause-place c =
    let frames = c.args.core.now.stack.frames.items in
    frame_place c.args.code.now c.args.core.now c.args.at c.requires.0 c.looping-frame.result c.args.cell c.requires.1
    (topmost_sends c.requires.0 c.looping-frame.result frames (below frames) c.looping-frame.ensures c.requires.1.top)

pub returns-in-Some : goal.returns-in-Some
returns-in-Some c = λ looping stands.
    let frames = c.args.core.now.stack.frames.items in
    frame_moves c.args.code.now c.args.core.now c.args.at looping c.looping-frame.result c.args.cell stands
    (topmost_sends looping c.looping-frame.result frames (below frames) c.looping-frame.ensures stands.top) c.enter_at_once.new.core (On c.in-Some.to) c.in-Some.ensures

pub evaluate_apart-requires : goal.evaluate_apart-requires
evaluate_apart-requires c = (
  c.requires.0,
  subst (λ (core : Core). BlockStands c.args.code.now core c.args.at c.requires.0 c.args.cell) (sym c.in-None.ensures) c.requires.1,
)

pub returns-in-None : goal.returns-in-None
returns-in-None c = λ looping stands.
    subst (λ (core : Core). MakesMove c.args.code.now (awaiting looping (Ref c.args.cell) core) (Waits c.args.at) c.evaluate_apart.new.core c.evaluate_apart.result)
    c.in-None.ensures
    (c.evaluate_apart.ensures looping
    (subst (λ (core : Core). BlockStands c.args.code.now core c.args.at looping c.args.cell) (sym c.in-None.ensures) stands))
