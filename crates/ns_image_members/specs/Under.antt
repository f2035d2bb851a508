-- What stands under a number.
use Rattle.std.specs.Prelude.{◌≡◌, ℕ, List, [], ◌∷◌, Option, Some, None, nat_eq, slice_get, slice_set, if◌then◌else◌}

-- the first of some that stands under a number
abbrev pub first_under : {A : Type 0} → List (ℕ × A) → ℕ → Option A
first_under [] number = None
first_under (x ∷ xs) number = if nat_eq x.0 number then Some x.1 else first_under xs number

abbrev pub put_where : {A : Type 0} → List (Option A) → ℕ × A → Option (Option A) → List (Option A)
put_where table x None = table
put_where table x (Some None) = slice_set table x.0 (Some x.1)
put_where table x (Some (Some y)) = table

-- a table, when a value was put under a number where nothing stands
abbrev pub put_under : {A : Type 0} → List (Option A) → ℕ × A → List (Option A)
put_under table x = put_where table x (slice_get table x.0)

-- Under each number of its own a table has the first of these.
abbrev pub IsTableOf : {A : Type 0} → List (ℕ × A) → List (Option A) → Type 0
IsTableOf {A} entries table = (number : ℕ) (found : Option A) → slice_get table number ≡ Some found → found ≡ first_under entries number
