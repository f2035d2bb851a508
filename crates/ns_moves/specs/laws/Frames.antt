-- The frames of a valid state, one by one.
use Rattle.std.proofs.Common.{List, ◌∷◌}
use Rattle.ns_code.specs.declared.program.CodeProgram.{CodeProgram}
use Rattle.ns_moves.specs.Control.{Progress}
use Rattle.ns_moves.specs.State.{Frame}
use Rattle.ns_moves.specs.ValidFrames.{Awaited, Nothing, SendValue, BlockValue, PartEnd, awaited_below}
use Rattle.ns_moves.specs.ValidFrames.{FrameIsValid, FramesAreValid}

-- The first of valid frames is valid.
pub first_valid : (code : CodeProgram) (p : Progress) (awaited : Awaited) (frame : Frame) (frames : List Frame) →
    FramesAreValid code p awaited (frame ∷ frames)
    → FrameIsValid code p awaited frame
first_valid code p Nothing frame frames valid = valid.0
first_valid code p SendValue frame frames valid = valid.0
first_valid code p BlockValue frame frames valid = valid.0
first_valid code p PartEnd frame frames valid = valid.0

-- The frames below a valid one are valid.
pub others_valid : (code : CodeProgram) (p : Progress) (awaited : Awaited) (frame : Frame) (frames : List Frame) →
    FramesAreValid code p awaited (frame ∷ frames)
    → FramesAreValid code p (awaited_below code frame) frames
others_valid code p Nothing frame frames valid = valid.1
others_valid code p SendValue frame frames valid = valid.1
others_valid code p BlockValue frame frames valid = valid.1
others_valid code p PartEnd frame frames valid = valid.1
