-- The place of the superclass message, found along the steps of its body.
use Rattle.std.proofs.Common.{◌≡◌, ℕ, ◌+◌, ◌<◌, ◌≤◌, List, [], ◌∷◌, length, get_or, refl, ap, sym, subst, ◌∙◌, arith, Option, Some, None, slice_get}
use Rattle.std.proofs.lemmas.Option.{same_Some, slice_get_past, slice_get-get_or}
use Rattle.std.proofs.lemmas.List.{drop_all}
use Rattle.std.specs.Option.{option_map_or}
use Rattle.ns_base.specs.declared.place.Place.{Place as SourcePlace}
use Rattle.ns_code.specs.declared.program.CodeProgram.{CodeProgram}
use Rattle.ns_code.specs.declared.body.BodyCode.{BodyCode}
use Rattle.ns_code.specs.declared.instruction.Instr.TheVariants.{ReturnSelf}
use Rattle.ns_find.specs.declared.found.Sending.TheVariants.{Plain, Inner}
use Rattle.ns_moves.specs.Steps.{super_place, super_place_or, placed, steps_of, steps_from}
use Rattle.ns_machine_plan.specs.declared.step.Step.{Step}
use Rattle.ns_machine_plan.specs.declared.step.Step.TheVariants.{Send, InitSuper}
use Rattle.ns_machine_plan.specs.Plan.{IsStepAt}
use Rattle.ns_machine_plan.specs.Steps.{instr_of, place_of, places_of, no_place}
use Rattle.ns_machine_plan.specs.laws.Steps.{steps_count}
use Rattle.ns_machine.specs.Opening.{super_number}
use Rattle.ns_machine.specs.Places.{BeginsWithPlaces}

-- a step that is another is passed over
passed_over : (places : List SourcePlace) (later : Option SourcePlace) (step : Step) → super_number step ≡ None
    → super_place_or (instr_of step) (place_of places step) later ≡ later
passed_over places later (InitSuper argc place) is = absurd (cc)
passed_over places later (Send sel argc Plain place row) is = refl
passed_over places later (Send sel argc Inner place row) is = refl
passed_over places later step is = refl

-- the superclass message has its place
is_found : (places : List SourcePlace) (later : Option SourcePlace) (number : ℕ) (step : Step) → super_number step ≡ Some number
    → super_place_or (instr_of step) (place_of places step) later ≡ slice_get places number
is_found places later number (InitSuper argc place) is = ap (slice_get places) (same_Some _ _ is)
is_found places later number step is = absurd (cc)

pub on_over : (code : CodeProgram) (body next : ℕ) (step : Step) → IsStepAt code body next step → super_number step ≡ None
    → super_place (steps_from code body next) ≡ super_place (steps_from code body (next + 1))
on_over code body next step is none =
    ap super_place is.shown ∙ passed_over (places_of code) (super_place (steps_from code body (next + 1))) step none

-- its place is the same among more places
place_among : (code : CodeProgram) (places : List SourcePlace) (body next : ℕ) (step : Step) → BeginsWithPlaces code places →
    IsStepAt code body next step
    → place_of places step ≡ place_of (places_of code) step
place_among code places body next step begins is =
    ap (λ (all : List SourcePlace). place_of all step) begins.is ∙ is.longer begins.more begins.few

pub found_here : (code : CodeProgram) (places : List SourcePlace) (body next : ℕ) (step : Step) (number : ℕ) → BeginsWithPlaces code places →
    IsStepAt code body next step → super_number step ≡ Some number
    → super_place (steps_from code body next) ≡ slice_get places number
found_here code places body next step number begins is found =
    let later = super_place (steps_from code body (next + 1)) in
    ap super_place is.shown
    ∙ (ap (λ (place : Option SourcePlace). super_place_or (instr_of step) place later) (sym (place_among code places body next step begins is))
    ∙ is_found places later number step found)

-- behind them all there is none
pub none_behind : (code : CodeProgram) (body : ℕ) → super_place (steps_from code body (length (steps_of code body))) ≡ None
none_behind code body = ap super_place (drop_all (length (steps_of code body)) (steps_of code body) (omega arith))

-- how many steps a body has
pub count_is : (code : CodeProgram) (bodies : List BodyCode) (body : ℕ) (d : BodyCode) → bodies ≡ code.bodies → body < length bodies
    → length (get_or bodies body d).instrs ≡ length (steps_of code body)
count_is code bodies body d same inside =
    let here : slice_get code.bodies body ≡ Some (get_or bodies body d) =
    ap (λ (b : List BodyCode). slice_get b body) (sym same) ∙ slice_get-get_or bodies body d inside in
    sym (steps_count code body (get_or bodies body d) here)

-- nor is there one where there is no body
pub no_body : (code : CodeProgram) (body : ℕ) → slice_get code.bodies body ≡ None → super_place (steps_of code body) ≡ None
no_body code body none =
    ap (λ (o : Option BodyCode). super_place (option_map_or (λ (b : BodyCode). placed b.places 0 b.instrs) o ((ReturnSelf, None) ∷ []))) none

-- the number of no place names none
pub none_there : (code : CodeProgram) (places : List SourcePlace) → BeginsWithPlaces code places → slice_get places no_place ≡ None
none_there code places begins =
    slice_get_past places no_place (subst (λ (all : List SourcePlace). length all ≤ no_place) (sym begins.is) begins.few)
