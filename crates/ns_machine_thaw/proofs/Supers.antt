-- Whether a step is a superclass message is told by the plan.
use Rattle.std.proofs.Common.{◌≡◌, ℕ, zero, suc, ◌+◌, ◌<◌, List, [], ◌∷◌, length, drop, refl, ap, sym, ◌∙◌, arith, Option, Some, None, slice_get, false}
use Rattle.std.specs.Option.{option_map_or}
use Rattle.ns_code.specs.declared.program.CodeProgram.{CodeProgram}
use Rattle.ns_code.specs.declared.body.BodyCode.{BodyCode}
use Rattle.ns_code.specs.declared.instruction.Instr.{Instr}
use Rattle.ns_code.specs.declared.instruction.Instr.TheVariants.{ReturnSelf}
use Rattle.ns_moves.specs.Steps.{PlacedInstr, placed, steps_of}
use Rattle.ns_moves.specs.ValidFrames.{is_super_part}
use Rattle.ns_moves.specs.laws.Steps.{placed_at}
use Rattle.ns_frozen.specs.Thawing.{is_super_at}
use Rattle.ns_machine_plan.specs.declared.step.Step.{Step}
use Rattle.ns_machine_plan.specs.Plan.{HasStep, IsStepAt}
use Rattle.ns_machine_plan.specs.Steps.{instr_of, places_of, step_shown}

-- the first of what is left from a number on has that number
pub get_dropped : {A : Type 0} (xs : List A) (k : ℕ) (x : A) (rest : List A) → drop k xs ≡ x ∷ rest → slice_get xs k ≡ Some x
get_dropped [] zero x rest e = absurd (cc)
get_dropped [] (suc k) x rest e = absurd (cc)
get_dropped (y ∷ xs) zero x rest e = let same : y ≡ x = cc in ap Some same
get_dropped (y ∷ xs) (suc k) x rest e = get_dropped xs k x rest e

pub super_told : (code : CodeProgram) (body instr : ℕ) (step : Step) → HasStep code body instr → IsStepAt code body instr step
    → is_super_part (instr_of step) ≡ is_super_at code body instr
super_told code body instr step has is = by_body (slice_get code.bodies body) refl
  where
    at : slice_get (steps_of code body) instr ≡ Some (step_shown (places_of code) step)
    at = get_dropped (steps_of code body) instr (step_shown (places_of code) step) (drop (instr + 1) (steps_of code body)) is.shown

    there : (b : BodyCode) → slice_get code.bodies body ≡ Some b → slice_get b.instrs instr ≡ Some (instr_of step)
    there b e =
        let steps : steps_of code body ≡ placed b.places 0 b.instrs =
        ap (λ (o : Option BodyCode). option_map_or (λ (b : BodyCode). placed b.places 0 b.instrs) o ((ReturnSelf, None) ∷ [])) e in
        (placed_at b.places 0 instr b.instrs (step_shown (places_of code) step) (ap (λ (all : List PlacedInstr). slice_get all instr) (sym steps) ∙ at)).0

    no_body : (k : ℕ) (bodies : List BodyCode) → k < length bodies → slice_get bodies k ≡ None → ⊥
    no_body k [] less e = omega (arith, less)
    no_body zero (b ∷ bodies) less e = cc
    no_body (suc k) (b ∷ bodies) less e = no_body k bodies (omega (arith, less)) e

    not_none : slice_get code.bodies body ≡ None → ⊥
    not_none e = no_body body code.bodies has.body_there e

    by_body : (o : Option BodyCode) → slice_get code.bodies body ≡ o → is_super_part (instr_of step) ≡ is_super_at code body instr
    by_body (Some b) e =
        sym (ap (λ (o : Option Instr). option_map_or is_super_part o false) (there b e))
        ∙ sym (ap (λ (o : Option BodyCode). option_map_or (λ (b : BodyCode). option_map_or is_super_part (slice_get b.instrs instr) false) o false) e)
    by_body None e = absurd (not_none e)
