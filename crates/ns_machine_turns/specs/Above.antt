-- The member of a step.
use Rattle.std.specs.Prelude.{◌≡◌, List, ◌∷◌, Some, slice_get}
use Rattle.ns_code.specs.declared.program.CodeProgram.{CodeProgram}
use Rattle.ns_code.specs.declared.body.BodyCode.{BodyCode}
use Rattle.ns_machine_frames.specs.declared.frame.Frame.{Frame}
use Rattle.ns_machine_frames.specs.declared.frame.Frame.TheVariants.{Running}
use Rattle.ns_machine_frames.specs.declared.frame.RunningFrame.{RunningFrame}
use Rattle.ns_machine_plan.specs.declared.step.Step.{Step}
use Rattle.ns_machine_plan.specs.Steps.{HasItsMember}

-- A step of the body that runs in the topmost of frames has its member, where it is a private send.
abbrev pub HasMemberAbove : CodeProgram → List Frame → Step → Type 0
HasMemberAbove code frames step =
    (frame : RunningFrame) (others : List Frame) (b : BodyCode) → frames ≡ Running frame ∷ others → slice_get code.bodies frame.activation.body ≡ Some b
    → HasItsMember code b step
