-- Homes that fall.
use Rattle.std.proofs.Common.{◌≡◌, ℕ, ◌<◌, List, [], ◌∷◌, refl, subst, arith, Bool, true, false, cond}
use Rattle.std.specs.Prelude.{nat_lt, ◌==◌, ◌&&◌}
use Rattle.std.proofs.lemmas.Bool.{eqb-true}
use Rattle.ns_code.specs.declared.program.CodeProgram.{CodeProgram}
use Rattle.ns_world.specs.declared.value.Value.{Value}
use Rattle.ns_moves.specs.Control.{Progress, FromMethod, FromBody, FromClause, frame_left}
use Rattle.ns_moves.specs.State.{Loud, Silent, Frame, Running, Looping, Phase}
use Rattle.ns_moves.specs.Returns.{delivered, has_home, unwound}
use Rattle.ns_moves.specs.Homes.{LandedBelow}
use Rattle.ns_moves.specs.ValidFrames.{homes_fall}

-- each home is below the bound
pub homes_below : (bound home : ℕ) (frames : List Frame) → homes_fall bound frames ≡ true → has_home home frames ≡ true → home < bound
homes_below bound home [] f h = absurd (cc)
homes_below bound home (Running (Loud FromMethod) activation locals rest stack ∷ frames) f h =
    let ih = homes_below activation.home home frames in grind (arith, ih)
homes_below bound home (Running (Loud FromBody) activation locals rest stack ∷ frames) f h = homes_below bound home frames f h
homes_below bound home (Running (Loud (FromClause object holder class)) activation locals rest stack ∷ frames) f h =
    homes_below bound home frames f h
homes_below bound home (Running Silent activation locals rest stack ∷ frames) f h = homes_below bound home frames f h
homes_below bound home (Looping method state site ∷ frames) f h = homes_below bound home frames f h

and_second : (b c : Bool) → (b && c) ≡ true → c ≡ true
and_second true c e = e
and_second false c e = absurd (cc)

-- what is left by a return has earlier homes
pub lands_below : (code : CodeProgram) (phase : Phase) (bound home : ℕ) (value : Value) (frames : List Frame) (p : Progress) →
    homes_fall bound frames ≡ true
    → has_home home frames ≡ true → LandedBelow code phase home value (unwound code phase home value frames p)
lands_below code phase bound home value [] p f h = absurd (cc)
lands_below code phase bound home value (Running (Loud FromMethod) a ls rest stack ∷ frames) p f h =
    let rest_falls : homes_fall a.home frames ≡ true = and_second (nat_lt a.home bound) (homes_fall a.home frames) f in
    tested (a.home == home) refl h rest_falls (λ h'. lands_below code phase a.home home value frames (frame_left p) rest_falls h')
  where
    tested : (b : Bool) → (a.home == home) ≡ b → cond b true (has_home home frames) ≡ true → homes_fall a.home frames ≡ true
        → (has_home home frames ≡ true → LandedBelow code phase home value (unwound code phase home value frames (frame_left p)))
        → LandedBelow code phase home value
        (cond b (delivered code phase value frames (frame_left p)) (unwound code phase home value frames (frame_left p)))
    tested true e h falls below =
        record { below = frames; after = frame_left p; is = refl; earlier = subst (λ n. homes_fall n frames ≡ true) (eqb-true a.home home e) falls }
    tested false e h falls below = below h
lands_below code phase bound home value (Running (Loud FromBody) a ls rest stack ∷ frames) p f h =
    lands_below code phase bound home value frames (frame_left p) f h
lands_below code phase bound home value (Running (Loud (FromClause object holder class)) a ls rest stack ∷ frames) p f h =
    lands_below code phase bound home value frames (frame_left p) f h
lands_below code phase bound home value (Running Silent a ls rest stack ∷ frames) p f h =
    lands_below code phase bound home value frames (frame_left p) f h
lands_below code phase bound home value (Looping method state site ∷ frames) p f h =
    lands_below code phase bound home value frames (frame_left p) f h
