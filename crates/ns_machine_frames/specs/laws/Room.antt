-- Room for the values of frames.
use Rattle.std.proofs.Common.{◌≡◌, ◌*◌, ◌≤◌, ℕ, refl, List, [], ◌∷◌, length, arith}
use Rattle.std.proofs.lemmas.Nat.{mul-le}
use Rattle.ns_world.specs.declared.value.Value.{Value}
use Rattle.ns_machine_frames.specs.declared.frame.Frame.{Frame}
use Rattle.ns_machine_frames.specs.declared.frame.Frame.TheVariants.{Running, Looping}
use Rattle.ns_machine_frames.specs.Room.{bound, FramesFitWithin}
use Rattle.ns_machine_frames.specs.Standing.{at_next, below}
use Rattle.ns_machine_frames.specs.Leaving.{with_answer}

-- The next instruction of the topmost frame is no part of the height.
pub bound_next : (greatest next : ℕ) (frames : List Frame) → bound greatest (at_next next frames) ≡ bound greatest frames
bound_next greatest next [] = refl
bound_next greatest next (frame ∷ frames) = refl

-- So many frames are as high as so many of the greatest height.
pub bound_is : (greatest : ℕ) (frames : List Frame) → bound greatest frames ≡ length frames * greatest
bound_is greatest [] = grind arith
bound_is greatest (frame ∷ frames) = grind (arith, bound_is greatest frames)

-- Frames within the limit on depth reach no further than all of them may.
pub reach_all : (greatest depth : ℕ) (frames : List Frame) → length frames ≤ depth → bound greatest frames ≤ depth * greatest
reach_all greatest depth frames few =
    let more : length frames * greatest ≤ depth * greatest = mul-le (length frames) greatest depth greatest few (omega arith) in
    let same = bound_is greatest frames in
    omega (arith, more, same)

-- Frames that are within their room are within more.
pub within_more : (height : ℕ → ℕ) (greatest filled more : ℕ) (frames : List Frame) → filled ≤ more →
    FramesFitWithin height greatest filled frames
    → FramesFitWithin height greatest more frames
within_more height greatest filled more [] le within = tt
within_more height greatest filled more (frame ∷ frames) le within =
    (omega (arith, le, within.0), within.1, within_more height greatest filled more frames le within.2)

-- So are those below the topmost.
pub within_below : (height : ℕ → ℕ) (greatest filled : ℕ) (frames : List Frame) → FramesFitWithin height greatest filled frames
    → FramesFitWithin height greatest filled (below frames)
within_below height greatest filled [] within = tt
within_below height greatest filled (frame ∷ frames) within = within.2

-- The next instruction of the topmost frame changes nothing of it.
pub within_next : (height : ℕ → ℕ) (greatest filled next : ℕ) (frames : List Frame) → FramesFitWithin height greatest filled frames
    → FramesFitWithin height greatest filled (at_next next frames)
within_next height greatest filled next [] within = within
within_next height greatest filled next (Running frame ∷ frames) within = within
within_next height greatest filled next (Looping frame ∷ frames) within = within

-- Nor does an answer that waits in it.
pub within_answer : (height : ℕ → ℕ) (greatest filled : ℕ) (value : Value) (frames : List Frame) →
    FramesFitWithin height greatest filled frames
    → FramesFitWithin height greatest filled (with_answer value frames)
within_answer height greatest filled value [] within = within
within_answer height greatest filled value (Running frame ∷ frames) within = within
within_answer height greatest filled value (Looping frame ∷ frames) within = within
