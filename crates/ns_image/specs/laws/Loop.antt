-- Reading items one after the other, as a loop does.
use Rattle.std.proofs.Common.{◌≡◌, ℕ, suc, ◌-◌, ◌+◌, ◌≤◌, ◌<◌, List, [], ◌∷◌, ◌++◌, refl, sym, ap, ◌∙◌, append_assoc, arith}
use Rattle.std.proofs.lemmas.List.{append-nil}
use Rattle.ns_image.specs.declared.fault.Fault.{Fault}
use Rattle.ns_image.specs.declared.fault.Fault.TheVariants as fault
use Rattle.ns_image.specs.Read.{Outcome, got, truncated, bad, Reader, and_then, given, chained}
use Rattle.ns_image.specs.Reads.{FailsReading}

-- what was read before, and what is still read
abbrev pub with_front : {A : Type 0} → List A → Outcome (List A) → Outcome (List A)
with_front front outcome = and_then outcome (λ xs. given (front ++ xs))

regroup : {A : Type 0} (front : List A) (x : A) (outcome : Outcome (List A)) →
    with_front front (and_then outcome (λ xs. given (x ∷ xs))) ≡ with_front (front ++ x ∷ []) outcome
regroup {A} front x (got xs rest) = ap (λ (all : List A). got all rest) (simp append_assoc)
regroup front x truncated = refl
regroup front x (bad left) = refl

module _ {S A : Type 0} (item : S → Reader A) (next : S → A → S) where
  -- One more item was read.
  pub goes_on : (front grown : List A) (count i : ℕ) (s : S) (bytes : List ℕ) (x : A) (after : List ℕ) (total : Outcome (List A)) → i < count → item s bytes ≡ got x after → grown ≡ front ++ x ∷ []
      → with_front front (chained item next (count - i) s bytes) ≡ total → with_front grown (chained item next (count - (i + 1)) (next s x) after) ≡ total
  unfolding chained
  goes_on front grown count i s bytes x after total lt h e so_far =
      let k : count - i ≡ suc (count - (i + 1)) = omega arith in
      let one : with_front front (chained item next (count - i) s bytes) ≡ with_front (front ++ x ∷ []) (chained item next (count - (i + 1)) (next s x) after) =
      rw (k, h) (regroup front x (chained item next (count - (i + 1)) (next s x) after)) in
      rw e (sym one ∙ so_far)

  -- An item can't be read.
  pub ends : (e : Fault) (front : List A) (count i : ℕ) (s : S) (bytes : List ℕ) (total : Outcome (List A)) → i < count → FailsReading (item s bytes) e
      → with_front front (chained item next (count - i) s bytes) ≡ total → FailsReading total e
  unfolding chained
  ends fault.Memory front count i s bytes total lt h so_far = tt
  ends fault.Truncated front count i s bytes total lt h so_far =
      let k : count - i ≡ suc (count - (i + 1)) = omega arith in
      let one : with_front front (chained item next (count - i) s bytes) ≡ truncated = rw (k, h) refl in
      sym so_far ∙ one
  ends (fault.Bad left) front count i s bytes total lt h so_far =
      let k : count - i ≡ suc (count - (i + 1)) = omega arith in
      let one : with_front front (chained item next (count - i) s bytes) ≡ bad left = rw (k, h) refl in
      sym so_far ∙ one

  -- All items were read.
  pub is_done : (front : List A) (count i : ℕ) (s : S) (bytes : List ℕ) (total : Outcome (List A)) → count ≤ i → with_front front (chained item next (count - i) s bytes) ≡ total → total ≡ got front bytes
  unfolding chained
  is_done front count i s bytes total le so_far =
      let k : count - i ≡ 0 = omega arith in
      let one : with_front front (chained item next (count - i) s bytes) ≡ got front bytes = rw k (ap (λ (xs : List A). got xs bytes) (append-nil front)) in
      sym so_far ∙ one

  -- No item was read yet.
  pub starts : (count : ℕ) (s : S) (bytes : List ℕ) → with_front [] (chained item next (count - 0) s bytes) ≡ chained item next count s bytes
  unfolding chained
  starts count s bytes =
      let k : count - 0 ≡ count = omega arith in
      rw k (whole (chained item next count s bytes))
    where
      whole : (outcome : Outcome (List A)) → with_front [] outcome ≡ outcome
      whole (got xs rest) = refl
      whole truncated = refl
      whole (bad left) = refl
