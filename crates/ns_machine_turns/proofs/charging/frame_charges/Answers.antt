use Rattle.std.proofs.Common.{◌∷◌, ap, ◌∙◌}
use Rattle.ns_machine_frames.specs.declared.frame.Frame.{Frame}
use Rattle.ns_machine_frames.specs.Standing.{below}
use Rattle.ns_machine_turns.proofs.Charged.{frame_told}
use Rattle.ns_machine_turns.proofs.charging.frame_charges.Goals as goal

pub returns-in-Running : goal.returns-in-Running
returns-in-Running c =
    c.step_charges.ensures
    ∙ frame_told c.jumps_go_back.ensures c.args.code.now (c.steps_lead_to_steps.ensures.target c.args.code.now) c.args.core.now c.args.at c.in-Running.frame
    c.fetch-step.result c.requires.can
    (c.topmost.ensures ∙ ap (λ (frame : Frame). frame ∷ below c.args.core.now.stack.frames.items) c.in-Running.is) c.fetch-step.ensures
