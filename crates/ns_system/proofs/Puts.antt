-- Bytes that are put one behind another.
use Rattle.std.proofs.Common.{◌≡◌, ℕ, zero, suc, ◌+◌, ◌≤◌, List, [], ◌∷◌, ◌++◌, take, drop, Option, Result, Ok, Err, inl, inr, refl, ap, ◌∙◌, arith}
use Rattle.ns_base.specs.Count.{Rose}
use Rattle.ns_base.specs.Sink.{WrotePrefix, with_bytes}
use Rattle.ns_base.specs.declared.sink.SinkFailed.{SinkFailed}
use Rattle.ns_system.specs.Telling.{Puts, Took}
use Rattle.ns_system.proofs.Passed.{more_passed, passed}

-- a count that rises later rises from before
pub rose_later : (f g h : ℕ) → f ≤ g → Rose g h → Rose f h
rose_later f g h a r = omega (arith, a, r)

-- the first bytes of a front are the first bytes of all
front_of_front : (n m : ℕ) (xs : List ℕ) → (k : ℕ) × (take n (take m xs) ≡ take k xs)
front_of_front zero m xs = (0, refl)
front_of_front (suc n) zero xs = (0, refl)
front_of_front (suc n) (suc m) [] = (0, refl)
front_of_front (suc n) (suc m) (x ∷ xs) = let r = front_of_front n m xs in (suc r.0, ap (λ ys. x ∷ ys) r.1)

front_of_both : (n : ℕ) (a b : List ℕ) → (k : ℕ) × (take n a ≡ take k (a ++ b))
front_of_both zero a b = (0, refl)
front_of_both (suc n) [] b = (0, refl)
front_of_both (suc n) (x ∷ a) b = let r = front_of_both n a b in (suc r.0, ap (λ ys. x ∷ ys) r.1)

behind_front : (n : ℕ) (a b : List ℕ) → (k : ℕ) × (a ++ take n b ≡ take k (a ++ b))
behind_front n [] b = (n, refl)
behind_front n (x ∷ a) b = let r = behind_front n a b in (suc r.0, ap (λ ys. x ∷ ys) r.1)

-- a piece behind the bytes so far
pub piece_put : (bytes piece : List ℕ) (done n : ℕ) (old mid new : Option (List ℕ)) → piece ≡ take n (drop done bytes) →
    mid ≡ with_bytes (take done bytes) old → new ≡ with_bytes piece mid → new ≡ with_bytes (take (done + n) bytes) old
piece_put bytes piece done n old mid new e h p =
    passed old mid new bytes (drop done bytes) done n (done + n) refl refl h (p ∙ ap (λ bs. with_bytes bs mid) e)

-- the same where only the first bytes of the piece were taken
pub piece_cut : (bytes piece : List ℕ) (done n : ℕ) (old mid new : Option (List ℕ)) → piece ≡ take n (drop done bytes) →
    mid ≡ with_bytes (take done bytes) old → WrotePrefix piece mid new → WrotePrefix bytes old new
piece_cut bytes piece done n old mid new e h p =
    let r = front_of_front p.0 n (drop done bytes) in (
      done + r.0,
      passed old mid new bytes (drop done bytes) done r.0 (done + r.0) refl refl h
          (p.1 ∙ ap (λ bs. with_bytes (take p.0 bs) mid) e ∙ ap (λ bs. with_bytes bs mid) r.1),
    )

module _ {E : Type 0} (written : E → Option (List ℕ)) (faults : E → ℕ) where
  -- bytes behind others that were all taken
  pub then_put : (a b : List ℕ) (r s : Result (Unit {0}) SinkFailed) (x : Unit {0}) (old mid new : E) → r ≡ Ok x →
      Puts written faults a r old mid → Puts written faults b s mid new → Puts written faults (a ++ b) s old new
  then_put a b (Err e) s x old mid new is p q = absurd (cc (is))
  then_put a b (Ok u) (Ok v) x old mid new is p q =
      (q.0 ∙ ap (with_bytes b) p.0 ∙ more_passed (written old) a b, omega (arith, p.1, q.1))
  then_put a b (Ok u) (Err e) x old mid new is p q =
      let r = behind_front q.0.0 a b in (
        (r.0, q.0.1 ∙ ap (with_bytes (take q.0.0 b)) p.0 ∙ more_passed (written old) a (take q.0.0 b) ∙ ap (λ bs. with_bytes bs (written old)) r.1),
        rose_later (faults old) (faults mid) (faults new) p.1 q.1,
      )

  -- none of these behind others that were not
  pub cut_put : (a b : List ℕ) (r s : Result (Unit {0}) SinkFailed) (e f : SinkFailed) (old new : E) → r ≡ Err e → s ≡ Err f →
      Puts written faults a r old new → Puts written faults (a ++ b) s old new
  cut_put a b (Ok u) s e f old new is so p = absurd (cc (is))
  cut_put a b (Err d) (Ok u) e f old new is so p = absurd (cc (so))
  cut_put a b (Err d) (Err h) e f old new is so p =
      let r = front_of_both p.0.0 a b in ((r.0, p.0.1 ∙ ap (λ bs. with_bytes bs (written old)) r.1), p.1)

  -- what putting came to, whatever it answered
  pub took : (bytes : List ℕ) (r : Result (Unit {0}) SinkFailed) (old new : E) → Puts written faults bytes r old new → Took written faults bytes old new
  took bytes (Ok u) old new p = inl p.0
  took bytes (Err e) old new p = inr p
