-- Steps until nothing is left to do, found with few tests: as many steps as two to a power, then twice as many, and so on.
use Rattle.std.specs.Prelude.{◌≡◌, ℕ, zero, suc, ◌+◌, ◌^◌, ◌≤◌, ◌⊎◌, Bool, true, if◌then◌else◌}

-- a step, so many times
abbrev pub times : {S : Type 0} → (S → S) → ℕ → S → S
times step zero state = state
times step (suc count) state = times step count (step state)

-- as many times as two to that power
abbrev pub doubled : {S : Type 0} → (S → S) → ℕ → S → S
doubled step zero state = step state
doubled step (suc power) state = doubled step power (doubled step power state)

-- Steps until nothing is left to do: as many as two to that power, then twice as many, and so on, in at most so many rounds.
-- Where nothing is left to do a step changes nothing, so it doesn't matter how many steps later that is seen.
abbrev pub until : {S : Type 0} → (S → Bool) → (S → S) → ℕ → ℕ → S → S
until is_done step power zero state = state
until is_done step power (suc more) state =
    if is_done state then state else until is_done step (power + 1) more (doubled step power state)

-- So many steps lead from one state to another, at which nothing is left to do unless so many were made.
pub record StepsLead {S : Type 0} (is_done : S → Bool) (step : S → S) (power more : ℕ) (state last : S) : Type 0 where
  pub count : ℕ
  pub is : times step count state ≡ last
  pub done : (is_done last ≡ true) ⊎ (2 ^ (power + more) ≤ count + 2 ^ power)
