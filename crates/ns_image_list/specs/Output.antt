-- Where a listing goes: it is counted first, and then written into room of that size.
use Rattle.std.specs.Prelude.{ℕ, ◌+◌, ◌-◌, ◌^◌, List, [], ◌∷◌, ◌++◌, length, min}
use Rattle.ns_image_list.specs.declared.output.Kept.{Kept}
use Rattle.ns_image_list.specs.declared.output.Kept.TheVariants as kept

-- how many bytes were put, or which
pub data Shown : Type 0 where
  Counted : ℕ → Shown
  Written : List ℕ → Shown

abbrev pub shown : Kept → Shown
shown (kept.Counted length) = Counted length
shown (kept.Written bytes) = Written bytes.items

-- so many and some more, of which there are no more than a number of 64 bits can say
abbrev pub more : ℕ → ℕ → ℕ
more count new = min (count + new) (2 ^ 64 - 1)

-- what is there when bytes were put behind
abbrev pub after : Shown → List ℕ → Shown
after (Counted count) [] = Counted count
after (Counted count) (byte ∷ bytes) = Counted (more count (length (byte ∷ bytes)))
after (Written before) bytes = Written (before ++ bytes)

-- how many bytes were counted
abbrev pub counted : Shown → ℕ
counted (Counted count) = count
counted (Written bytes) = 0

-- the bytes that were written
abbrev pub written : Shown → List ℕ
written (Counted count) = []
written (Written bytes) = bytes
