-- Values that are delivered, and returns to homes.
use Rattle.std.proofs.Common.{◌≡◌, ℕ, suc, ◌+◌, ◌-◌, ◌==◌, List, [], ◌∷◌, drop, take, reverse, Option, Some, None, Bool, true, false, if◌then◌else◌, ap, sym, ◌∙◌, refl, arith}
use Rattle.std.proofs.lemmas.Option.{same_Some}
use Rattle.ns_base.specs.declared.place.Place.{Place as SourcePlace}
use Rattle.ns_code.specs.declared.program.CodeProgram.{CodeProgram}
use Rattle.ns_world.specs.declared.value.Value.{Value}
use Rattle.ns_moves.specs.Control.{Progress, frame_left}
use Rattle.ns_moves.specs.State.{Phase, Going}
use Rattle.ns_moves.specs.Returns as returns
use Rattle.ns_machine_frames.specs.declared.frame.Frame.{Frame}
use Rattle.ns_machine_frames.specs.declared.frame.Frame.TheVariants.{Running, Looping}
use Rattle.ns_machine_frames.specs.declared.frame.Leaving.{Leaving}
use Rattle.ns_machine_frames.specs.declared.frame.Leaving.TheVariants.{Method, Body, Clause, Part}
use Rattle.ns_machine_frames.specs.declared.frame.Activation.{Activation}
use Rattle.ns_machine_frames.specs.Standing.{Stood, Runs, Loops, standing, at_next}
use Rattle.ns_machine_frames.specs.Leaving.{delivered, frames_to, is_home, is_method, one_more}
use Rattle.ns_machine_frames.specs.View.{frames_shown, leaving_shown}
use Rattle.ns_machine_frames.specs.Stated.{parts_ended, is_there}
use Rattle.ns_machine_frames.specs.laws.Counts.{next_apart}

pub delivered_is : (code : CodeProgram) (places : List SourcePlace) (phase : Phase) (value : Value) (one : Stood) (stood : List Stood) (progress : Progress)
    → returns.delivered code phase value (frames_shown code places (one ∷ stood)) progress
    ≡ Going phase (frames_shown code places (delivered value (one ∷ stood))) progress
delivered_is code places phase value (Runs frame locals stack) stood progress = refl
delivered_is code places phase value (Loops frame) stood progress = refl

-- ---- homes

-- the end of a frame is that of a method with a home where it is kept as such
ends_at : (leaving : Leaving) (activation : Activation) (home : ℕ)
    → returns.ends_at (leaving_shown leaving activation) activation.home home ≡ (if is_method leaving then activation.home == home else false)
ends_at Method activation home = refl
ends_at Body activation home = refl
ends_at (Clause class) activation home = refl
ends_at Part activation home = refl

there_more : (found : Option ℕ) → is_there (one_more found) ≡ is_there found
there_more None = refl
there_more (Some count) = refl

there_tested : (test rest : Bool) (found : Option ℕ) → rest ≡ is_there found
    → (if test then true else rest) ≡ is_there (if test then Some 1 else one_more found)
there_tested true rest found is = refl
there_tested false rest found is = is ∙ sym (there_more found)

home_in : (code : CodeProgram) (places : List SourcePlace) (home : ℕ) (frames : List Frame) (values : List Value)
    → returns.has_home home (frames_shown code places (standing frames values)) ≡ is_there (frames_to home frames)
home_in code places home [] values = refl
home_in code places home (Running frame ∷ frames) values =
    ap (λ (test : Bool). if test then true else returns.has_home home (frames_shown code places (standing frames (take frame.floor values))))
    (ends_at frame.leaving frame.activation home)
    ∙ there_tested (is_home home (Running frame)) (returns.has_home home (frames_shown code places (standing frames (take frame.floor values)))) (frames_to home frames)
    (home_in code places home frames (take frame.floor values))
home_in code places home (Looping frame ∷ frames) values =
    home_in code places home frames (take frame.floor values) ∙ sym (there_more (frames_to home frames))

pub home_is : (code : CodeProgram) (places : List SourcePlace) (home next : ℕ) (frames : List Frame) (values : List Value)
    → returns.has_home home (frames_shown code places (standing (at_next next frames) values)) ≡ is_there (frames_to home frames)
home_is code places home next frames values =
    home_in code places home (at_next next frames) values ∙ ap is_there (next_apart home next frames)

-- ---- unwinding

-- where a return is delivered, by the test of the topmost frame
landed : (code : CodeProgram) (places : List SourcePlace) (phase : Phase) (home : ℕ) (value : Value) (one : Stood) (rest : List Stood) (progress : Progress)
    (test : Bool) (found : Option ℕ) (count : ℕ) → (if test then Some 1 else one_more found) ≡ Some count
    → ((number : ℕ) → found ≡ Some number
    → returns.unwound code phase home value (frames_shown code places rest) (frame_left progress)
    ≡ returns.delivered code phase value (frames_shown code places (drop number rest)) (parts_ended number (frame_left progress)))
    → (if test then returns.delivered code phase value (frames_shown code places rest) (frame_left progress)
    else returns.unwound code phase home value (frames_shown code places rest) (frame_left progress))
    ≡ returns.delivered code phase value (frames_shown code places (drop count (one ∷ rest))) (parts_ended count progress)
landed code places phase home value one rest progress true found count e further =
    ap (λ number. returns.delivered code phase value (frames_shown code places (drop number (one ∷ rest))) (parts_ended number progress)) (same_Some _ _ e)
landed code places phase home value one rest progress false None count e further = absurd (cc)
landed code places phase home value one rest progress false (Some number) count e further =
    let sum : number + 1 ≡ count = same_Some _ _ e in
    let last : suc number ≡ count = omega (arith, sum) in
    further number refl
    ∙ ap (λ end. returns.delivered code phase value (frames_shown code places (drop end (one ∷ rest))) (parts_ended end progress)) last

unwound_in : (code : CodeProgram) (places : List SourcePlace) (phase : Phase) (home count : ℕ) (value : Value) (frames : List Frame) (values : List Value)
    (progress : Progress) → frames_to home frames ≡ Some count
    → returns.unwound code phase home value (frames_shown code places (standing frames values)) progress
    ≡ returns.delivered code phase value (frames_shown code places (drop count (standing frames values))) (parts_ended count progress)
unwound_in code places phase home count value [] values progress e = absurd (cc)
unwound_in code places phase home count value (Running frame ∷ frames) values progress e =
    let rest = standing frames (take frame.floor values) in
    let one = Runs frame (take (frame.operands - frame.base) (drop frame.base values)) (reverse (drop frame.operands values)) in
    ap (λ (test : Bool). if test then returns.delivered code phase value (frames_shown code places rest) (frame_left progress)
    else returns.unwound code phase home value (frames_shown code places rest) (frame_left progress))
    (ends_at frame.leaving frame.activation home)
    ∙ landed code places phase home value one rest progress (is_home home (Running frame)) (frames_to home frames) count e
    (λ number is. unwound_in code places phase home number value frames (take frame.floor values) (frame_left progress) is)
unwound_in code places phase home count value (Looping frame ∷ frames) values progress e =
    let rest = standing frames (take frame.floor values) in
    landed code places phase home value (Loops frame) rest progress false (frames_to home frames) count e
    (λ number is. unwound_in code places phase home number value frames (take frame.floor values) (frame_left progress) is)

pub unwound_is : (code : CodeProgram) (places : List SourcePlace) (phase : Phase) (home next count : ℕ) (value : Value) (frames : List Frame)
    (values : List Value) (progress : Progress) → frames_to home frames ≡ Some count
    → returns.unwound code phase home value (frames_shown code places (standing (at_next next frames) values)) progress
    ≡ returns.delivered code phase value (frames_shown code places (drop count (standing (at_next next frames) values))) (parts_ended count progress)
unwound_is code places phase home next count value frames values progress e =
    unwound_in code places phase home count value (at_next next frames) values progress (next_apart home next frames ∙ e)
