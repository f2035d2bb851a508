-- Returns from homes, and homes that fall.
use Rattle.std.proofs.Common.{◌≡◌, ℕ, List, [], ◌∷◌, refl, Bool, true, false, cond}
use Rattle.ns_code.specs.declared.program.CodeProgram.{CodeProgram}
use Rattle.ns_world.specs.declared.value.Value.{Value}
use Rattle.ns_moves.specs.Control.{Progress, frame_left}
use Rattle.ns_moves.specs.State.{Frame, Phase}
use Rattle.ns_moves.specs.Returns.{delivered, is_home, has_home, unwound}
use Rattle.ns_moves.specs.Homes.{Landed}

-- A return from a home that is there is delivered to what stands below it.
pub return_lands : (code : CodeProgram) (phase : Phase) (home : ℕ) (value : Value) (frames : List Frame) (progress : Progress)
    → has_home home frames ≡ true → Landed code phase value (unwound code phase home value frames progress)
return_lands code phase home value [] progress h = absurd (cc)
return_lands code phase home value (frame ∷ frames) progress h =
    tested (is_home home frame) h (λ h'. return_lands code phase home value frames (frame_left progress) h')
  where
    tested : (b : Bool) → cond b true (has_home home frames) ≡ true
        → (has_home home frames ≡ true → Landed code phase value (unwound code phase home value frames (frame_left progress)))
        → Landed code phase value
        (cond b (delivered code phase value frames (frame_left progress)) (unwound code phase home value frames (frame_left progress)))
    tested true h below = record { below = frames; after = frame_left progress; is = refl }
    tested false h below = below h
