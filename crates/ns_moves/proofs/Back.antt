-- Jumps that go back, by the numbers of instructions.
use Rattle.std.proofs.Common.{◌≡◌, ℕ, ◌+◌, ◌-◌, ◌<◌, List, length, drop, ap, ◌∙◌, arith}
use Rattle.std.proofs.lemmas.List.{length-drop}
use Rattle.std.specs.Prelude.{nat_lt, nat_le}
use Rattle.ns_moves.specs.Steps.{PlacedInstr}
use Rattle.ns_moves.specs.Jumps.{goes_back}

less_left : (n k target : ℕ) → k < n → target < n → nat_lt (n - (k + 1)) (n - target) ≡ nat_le target k
less_left n k target inside there = grind (arith, inside, there)

pub back_is : (steps : List PlacedInstr) (k target : ℕ) → k < length steps → target < length steps
    → goes_back (drop (k + 1) steps) (drop target steps) ≡ nat_le target k
back_is steps k target inside there =
    ap (λ m. nat_lt m (length (drop target steps))) (length-drop (k + 1) steps)
    ∙ (ap (λ m. nat_lt (length steps - (k + 1)) m) (length-drop target steps) ∙ less_left (length steps) k target inside there)
