-- The ranges of the limits (this profile).
use Rattle.std.specs.Prelude.{ℕ, ◌≤◌}
use Rattle.ns_base.specs.declared.limits.Limits.{Limits}

-- A limit is at least 1 and at most the greatest.
abbrev pub IsFrom1To : ℕ → ℕ → Type 0
IsFrom1To limit greatest = (1 ≤ limit) × (limit ≤ greatest)

-- Each of the four limits is within its range.
abbrev pub InRange : Limits → Type 0
InRange limits =
    IsFrom1To limits.steps 1000000000000
    × IsFrom1To limits.cells 64000000
    × IsFrom1To limits.depth 100000
    × IsFrom1To limits.out 16777216
