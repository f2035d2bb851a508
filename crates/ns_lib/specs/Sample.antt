-- The source of the sample of N: a program of N classes, of which up to 200 are a chain (this profile).
use Rattle.std.specs.Prelude.{ℕ, zero, suc, ◌-◌, ◌%◌, List, [], ◌∷◌, ◌++◌, codes, nat_eq, if◌then◌else◌}
use Rattle.std.specs.Fmt.{decimal}
use Rattle.ns_lib.specs.Collections.{lines}

-- A chain begins with a class whose `v:` answers one more than it is given.
abbrev pub first_class : ℕ → List ℕ
first_class k = codes "class C" ++ decimal k ++ codes " = () (public v: x = (^x + 1))"

-- The next class of a chain has the one above it as its superclass, and its `v:` answers one more than that one's.
abbrev pub next_class : (k above : ℕ) → List ℕ
next_class k above = codes "class C" ++ decimal k ++ codes " = C" ++ decimal above ++ codes " () (public v: x = (^(super v: x) + 1))"

-- the line of class k: a chain begins at each number that 200 divides, and else the class before it is above it
abbrev pub class_line : ℕ → List ℕ
class_line k = if nat_eq (k % 200) 0 then first_class k else next_class k (k - 1)

-- the line that adds to the sum what an instance of class k answers to `v: k`
abbrev pub sum_line : ℕ → List ℕ
sum_line k = codes "s:: s + (C" ++ decimal k ++ codes " new v: " ++ decimal k ++ codes ")."

-- the lines of the numbers below n, each ended by a line feed
abbrev pub lines_below : (ℕ → List ℕ) → ℕ → List ℕ
lines_below line zero = []
lines_below line (suc k) = lines_below line k ++ line k ++ 10 ∷ []

abbrev pub head_lines : List ℕ
head_lines = lines (codes "class Sample packageUsing: m = () (" ∷ [])

abbrev pub main_lines : List ℕ
main_lines = lines (codes "public main: p args: a = (" ∷ codes "| s ::= 0. |" ∷ [])

abbrev pub end_lines : List ℕ
end_lines = lines (codes "p console printLine: s." ∷ codes "^s)" ∷ codes ")" ∷ [])

-- the sample of n: its classes, and a main method that sums over them and prints the sum
abbrev pub sample : ℕ → List ℕ
sample n = head_lines ++ lines_below class_line n ++ main_lines ++ lines_below sum_line n ++ end_lines
