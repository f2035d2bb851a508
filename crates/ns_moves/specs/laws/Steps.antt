-- The steps of a body: how many there are, and what each is.
use Rattle.std.proofs.Common.{◌≡◌, ℕ, zero, suc, ◌+◌, List, [], ◌∷◌, length, refl, ap, sym, ◌∙◌, arith, Some, slice_get}
use Rattle.ns_base.specs.declared.place.Place.{Place as SourcePlace}
use Rattle.ns_code.specs.declared.instruction.Instr.{Instr}
use Rattle.ns_moves.specs.Steps.{PlacedInstr, place_in, placed}

-- There are as many steps as instructions.
pub placed_length : (places : List (ℕ × SourcePlace)) (number : ℕ) (instrs : List Instr) →
    length (placed places number instrs) ≡ length instrs
placed_length places number [] = refl
placed_length places number (instr ∷ instrs) = let e = placed_length places (number + 1) instrs in cc

-- A step is the instruction of its number, at the place of that number.
pub placed_at : (places : List (ℕ × SourcePlace)) (number k : ℕ) (instrs : List Instr) (step : PlacedInstr) →
    slice_get (placed places number instrs) k ≡ Some step
    → (slice_get instrs k ≡ Some step.0) × (step.1 ≡ place_in places (number + k))
placed_at places number zero [] step e = absurd (cc)
placed_at places number (suc k) [] step e = absurd (cc)
placed_at places number zero (instr ∷ instrs) step e =
    let same : (let own : PlacedInstr = (instr, place_in places number) in own) ≡ step = cc in
    let none : number ≡ number + 0 = omega arith in
    (ap (λ (s : PlacedInstr). Some s.0) same, ap (λ (s : PlacedInstr). s.1) (sym same) ∙ ap (place_in places) none)
placed_at places number (suc k) (instr ∷ instrs) step e =
    let there = placed_at places (number + 1) k instrs step e in
    let same : number + 1 + k ≡ number + suc k = omega arith in
    (there.0, there.1 ∙ ap (place_in places) same)
