-- How many frames stand, and how many are shown.
use Rattle.std.proofs.Common.{◌≡◌, ℕ, suc, List, [], ◌∷◌, length, take, ap, refl}
use Rattle.ns_base.specs.declared.place.Place.{Place as SourcePlace}
use Rattle.ns_code.specs.declared.program.CodeProgram.{CodeProgram}
use Rattle.ns_world.specs.declared.value.Value.{Value}
use Rattle.ns_machine_frames.specs.View.{frames_shown}
use Rattle.ns_machine_frames.specs.declared.frame.Frame.TheVariants.{Running, Looping}
use Rattle.ns_machine_frames.specs.declared.frame.Frame.{Frame}
use Rattle.ns_machine_frames.specs.Leaving.{frames_to}
use Rattle.ns_machine_frames.specs.Standing.{Stood, standing, at_next}

-- As many frames stand as there are.
pub many_stand : (frames : List Frame) (values : List Value) → length (standing frames values) ≡ length frames
many_stand [] values = refl
many_stand (Running frame ∷ frames) values = ap suc (many_stand frames (take frame.floor values))
many_stand (Looping frame ∷ frames) values = ap suc (many_stand frames (take frame.floor values))

-- As many frames stand where the next of one is set.
pub many_next : (next : ℕ) (frames : List Frame) → length (at_next next frames) ≡ length frames
many_next next [] = refl
many_next next (frame ∷ frames) = refl

-- As many frames are shown as stand.
pub many_shown : (code : CodeProgram) (places : List SourcePlace) (stood : List Stood) →
    length (frames_shown code places stood) ≡ length stood
many_shown code places [] = refl
many_shown code places (one ∷ stood) = ap suc (many_shown code places stood)

-- As many frames stand above a home where the next of one is set.
pub next_apart : (home next : ℕ) (frames : List Frame) → frames_to home (at_next next frames) ≡ frames_to home frames
next_apart home next [] = refl
next_apart home next (Running frame ∷ frames) = refl
next_apart home next (Looping frame ∷ frames) = refl
