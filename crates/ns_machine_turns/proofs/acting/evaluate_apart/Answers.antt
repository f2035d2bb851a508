use Rattle.ns_machine_frames.specs.declared.registers.Registers.{Registers}
use Rattle.ns_machine_frames.specs.Standing.{below}
use Rattle.ns_machine_turns.proofs.Looped.{frame_moves, frame_place, frame_waits, topmost_loops, topmost_sends}
use Rattle.ns_machine_turns.proofs.acting.evaluate_apart.Goals as goal

pub looping-frame-requires : goal.looping-frame-requires
looping-frame-requires c = topmost_loops c.requires.0 c.args.core.now.stack.frames.items c.requires.1.top

pub evaluate_at_once-requires-clause-waits : goal.evaluate_at_once-requires-clause-waits
evaluate_at_once-requires-clause-waits c =
    let at : Registers = record { next = c.args.next; top = c.args.top; base = c.args.base } in
    let frames = c.args.core.now.stack.frames.items in (
      c.requires.1.grants,
      frame_waits c.args.code.now c.args.core.now at c.requires.0 c.looping-frame.result c.args.cell c.requires.1
          (topmost_sends c.requires.0 c.looping-frame.result frames (below frames) c.looping-frame.ensures c.requires.1.top),
    )

pub evaluate_at_once-requires-clause-place : goal.evaluate_at_once-requires-clause-place
evaluate_at_once-requires-clause-place c =
    let at : Registers = record { next = c.args.next; top = c.args.top; base = c.args.base } in
    let frames = c.args.core.now.stack.frames.items in
    frame_place c.args.code.now c.args.core.now at c.requires.0 c.looping-frame.result c.args.cell c.requires.1
    (topmost_sends c.requires.0 c.looping-frame.result frames (below frames) c.looping-frame.ensures c.requires.1.top)

pub returns : goal.returns
returns c = λ looping stands.
    let at : Registers = record { next = c.args.next; top = c.args.top; base = c.args.base } in
    let frames = c.args.core.now.stack.frames.items in
    frame_moves c.args.code.now c.args.core.now at looping c.looping-frame.result c.args.cell stands
    (topmost_sends looping c.looping-frame.result frames (below frames) c.looping-frame.ensures stands.top) c.evaluate_at_once.new.core c.evaluate_at_once.result
    c.evaluate_at_once.ensures
