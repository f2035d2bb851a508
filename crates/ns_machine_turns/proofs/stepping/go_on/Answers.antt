use Rattle.std.proofs.Common.{◌∷◌, ap, ◌∙◌}
use Rattle.ns_machine_frames.specs.declared.frame.Frame.{Frame}
use Rattle.ns_machine_frames.specs.Standing.{below}
use Rattle.ns_machine_turns.proofs.stepping.go_on.Goals as goal

pub act-requires-clause-can : goal.act-requires-clause-can
act-requires-clause-can c =
    c.topmost_methods_can_act.ensures c.args.code.now c.requires.can.grants c.args.core.now c.args.at c.in-Looping.field-0 c.requires.can.ready
    (c.topmost.ensures ∙ ap (λ (frame : Frame). frame ∷ below c.args.core.now.stack.frames.items) c.in-Looping.is)
