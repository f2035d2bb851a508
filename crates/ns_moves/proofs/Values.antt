-- Values in use that end at a top: what a write there, and one value less, show.
use Rattle.std.proofs.Common.{◌≡◌, ℕ, ◌+◌, ◌<◌, ◌≤◌, List, [], ◌∷◌, ◌++◌, length, take, drop, set, get_or, reverse, ap, ◌∙◌}
use Rattle.std.proofs.lemmas.List.{take_more, take_more_set, take-set-le, drop-append-le, reverse-append}

-- one more value behind others, of which the first ones are left out
pub reversed_more : {A : Type 0} (start : ℕ) (values : List A) (value : A) → start ≤ length values
    → reverse (drop start (values ++ value ∷ [])) ≡ value ∷ reverse (drop start values)
reversed_more start values value low =
    ap reverse (drop-append-le start values (value ∷ []) low) ∙ reverse-append (drop start values) (value ∷ [])

-- a value that is written at the top
pub pushed_shown : {A : Type 0} (start top : ℕ) (values : List A) (value : A) → start ≤ length (take top values) → top < length values
    → reverse (drop start (take (top + 1) (set values top value))) ≡ value ∷ reverse (drop start (take top values))
pushed_shown start top values value low room =
    ap (λ all. reverse (drop start all)) (take_more_set values top value room) ∙ reversed_more start (take top values) value low

-- the value that is taken from the top
pub popped_shown : {A : Type 0} (start top : ℕ) (values : List A) (nothing : A) → start ≤ length (take top values) → top < length values
    → reverse (drop start (take (top + 1) values)) ≡ get_or values top nothing ∷ reverse (drop start (take top values))
popped_shown start top values nothing low room =
    ap (λ all. reverse (drop start all)) (take_more values top nothing room) ∙ reversed_more start (take top values) (get_or values top nothing) low

-- what lies below a place is as it was
pub below_stays : {A : Type 0} (floor at : ℕ) (values : List A) (value : A) → floor ≤ at →
    take floor (set values at value) ≡ take floor values
below_stays floor at values value low = take-set-le floor values at value low
