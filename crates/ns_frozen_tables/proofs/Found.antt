-- The numbers of cells, one after another.
use Rattle.std.proofs.Common.{◌≡◌, ℕ, ◌+◌, ◌<◌, ◌≤◌, List, [], ◌∷◌, length, get_or, refl, ap, sym, arith, None, Bool, true, false, cond, ltb}
use Rattle.std.proofs.lemmas.Bool.{ltb-true, ltb-false}
use Rattle.ns_frozen.specs.declared.cell.CellData.{CellData}
use Rattle.ns_frozen_tables.specs.Numbers.{data_size, number_end, numbers_from, IsPlaceOf}

-- behind the last number that a reference can name there are none
pub past_end : (number : ℕ) (cells : List CellData) → number_end ≤ number → numbers_from number cells ≡ []
past_end number [] h = refl
past_end number (one ∷ cells) h = tested (ltb number number_end) refl
  where
    tested : (b : Bool) → ltb number number_end ≡ b → cond b (number ∷ numbers_from (number + data_size one) cells) [] ≡ []
    tested true t = absurd (omega (arith, h, ltb-true number number_end t))
    tested false t = refl

-- before it there is that of the next cell
pub numbers_on : (number size : ℕ) (one : CellData) (cells : List CellData) → number < number_end → size ≡ data_size one
    → numbers_from number (one ∷ cells) ≡ number ∷ numbers_from (number + size) cells
numbers_on number size one cells h is = tested (ltb number number_end) refl
  where
    tested : (b : Bool) → ltb number number_end ≡ b
        → cond b (number ∷ numbers_from (number + data_size one) cells) [] ≡ number ∷ numbers_from (number + size) cells
    tested true t = ap (λ (n : ℕ). number ∷ numbers_from (number + n) cells) (sym is)
    tested false t = absurd (omega (arith, h, ltb-false number number_end t))

-- a number between those before a place and those behind it stands nowhere
pub nowhere : (numbers : List ℕ) (number at : ℕ)
    → (at ≤ length numbers) × ((k : ℕ) → k < at → get_or numbers k 0 < number) × ((k : ℕ) → at ≤ k → k < length numbers → number < get_or numbers k 0)
    → IsPlaceOf numbers number None
nowhere numbers number at found place within same = tested (ltb place at) refl
  where
    tested : (b : Bool) → ltb place at ≡ b → ⊥
    tested true t = omega (arith, same, found.1 place (ltb-true place at t))
    tested false t = omega (arith, same, found.2 place (ltb-false place at t) within)
