-- The line that tells what a run used of each limit (this profile).
use Rattle.std.specs.Prelude.{ℕ, List, [], ◌∷◌, ◌++◌, codes}
use Rattle.std.specs.Fmt.{decimal}
use Rattle.ns_base.specs.declared.limits.Limits.{Limits}
use Rattle.ns_world.specs.declared.ending.Counters.{Counters}

-- how much of the limit of that name was used
abbrev pub used_of : List ℕ → ℕ → ℕ → List ℕ
used_of name used limit = 32 ∷ name ++ 32 ∷ decimal used ++ codes " of " ++ decimal limit

-- the counters at the end and the limits that were in force
abbrev pub stats_line : Counters → Limits → List ℕ
stats_line used limits =
    codes "used" ++ used_of (codes "steps") used.steps limits.steps ++ used_of (codes "cells") used.cells limits.cells
    ++ used_of (codes "depth") used.depth limits.depth ++ used_of (codes "out") used.out limits.out ++ 10 ∷ []
