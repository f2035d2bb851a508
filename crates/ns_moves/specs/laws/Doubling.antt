-- Steps until nothing is left to do are so many steps.
use Rattle.std.proofs.Common.{◌≡◌, ℕ, zero, suc, ◌+◌, ◌^◌, ◌≤◌, ◌⊎◌, inl, inr, refl, sym, ap, ◌∙◌, arith, Bool, true, false, if◌then◌else◌}
use Rattle.ns_moves.specs.Doubling.{times, doubled, until, StepsLead}
use Rattle.ns_moves.specs.lemmas.Powers.{pow_more}

module _ {S : Type 0} (is_done : S → Bool) (step : S → S) where
  times_add : (first second : ℕ) (s : S) → times step (first + second) s ≡ times step second (times step first s)
  times_add zero second s = let e : zero + second ≡ second = omega arith in ap (λ n. times step n s) e
  times_add (suc first) second s =
      let e : suc first + second ≡ suc (first + second) = omega arith in
      ap (λ n. times step n s) e ∙ times_add first second (step s)

  doubled_is : (power : ℕ) (s : S) → doubled step power s ≡ times step (2 ^ power) s
  doubled_is zero s = refl
  doubled_is (suc power) s =
      doubled_is power (doubled step power s)
      ∙ (ap (times step (2 ^ power)) (doubled_is power s)
      ∙ (sym (times_add (2 ^ power) (2 ^ power) s) ∙ ap (λ n. times step n s) (sym (pow_more power))))

  -- one round fewer, of twice as many steps, comes as far
  up : (power more count : ℕ) (last : S) → (is_done last ≡ true) ⊎ (2 ^ ((power + 1) + more) ≤ count + 2 ^ (power + 1))
      → (is_done last ≡ true) ⊎ (2 ^ (power + suc more) ≤ (2 ^ power + count) + 2 ^ power)
  up power more count last (inl done) = inl done
  up power more count last (inr many) =
      let one : power + 1 ≡ suc power = omega arith in
      let double = ap (λ n. 2 ^ n) one ∙ pow_more power in
      let all : (power + 1) + more ≡ power + suc more = omega arith in
      let same = ap (λ n. 2 ^ n) all in
      inr (omega (arith, many, double, same))

  -- Steps that double in number lead to where the run is done, or as far as they go.
  pub leads : (power more : ℕ) (s : S) → StepsLead is_done step power more s (until is_done step power more s)
  leads power zero s =
      let all : power + zero ≡ power = omega arith in
      let same = ap (λ n. 2 ^ n) all in
      record { count = 0; is = refl; done = inr (omega (arith, same)) }
  leads power (suc more) s = tested (is_done s) refl (leads (power + 1) more (doubled step power s))
    where
      tested : (b : Bool) → is_done s ≡ b
          → StepsLead is_done step (power + 1) more (doubled step power s) (until is_done step (power + 1) more (doubled step power s))
          → StepsLead is_done step power (suc more) s (if b then s else until is_done step (power + 1) more (doubled step power s))
      tested true e next = record { count = 0; is = refl; done = inl e }
      tested false e next =
          record {
            count = 2 ^ power + next.count;
            is = times_add (2 ^ power) next.count s ∙ (ap (times step next.count) (sym (doubled_is power s)) ∙ next.is);
            done = up power more next.count _ next.done;
          }
