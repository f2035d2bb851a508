-- A reader looks no further than the token with which it ends or stops: on tokens that begin alike, what is read within
-- that beginning is the same, and so is a fault. A law for each way in which readers are put together.
use Rattle.std.proofs.Common.{◌≡◌, ℕ, zero, suc, ◌+◌, ◌≤◌, ◌<◌, ◌⊎◌, inl, inr, cond, List, [], ◌∷◌, ◌++◌, length, Option, Some, None, Bool, true, false, refl, sym, ap, subst, ◌∙◌, length-append, arith}
use Rattle.ns_tree.specs.declared.token.Kind.{Kind}
use Rattle.ns_tree.specs.Rule.{Listed, none, last, next}
use Rattle.ns_parse_tokens.specs.Read.{Outcome, Reader, got, fault, and_then, taken, read_one, begins, read_none, read_never, read_mapped, read_both, read_after, read_until, read_placed, read_or, read_maybe, read_turns, read_many, put, behind, put_next, read_list_turns, read_listed, Labelled, tail, item, read_label_turns, read_labelled, put_item}
use Rattle.ns_parse_tokens.specs.laws.Takes.{Takes, LeavesTokens}

-- Nothing is read backwards: what is left goes with the number of its first token, and a fault isn't before the start.
abbrev pub Moved : {A : Type 0} → ℕ → List Kind → Outcome A → Type 0
Moved n ts (got a m us) = (n ≤ m) × (m + length us ≡ n + length ts)
Moved n ts (fault k) = n ≤ k

-- What was read from a place on, with some of the beginning f left before g; the other reads the same before g'.
pub record Within {A : Type 0} (n : ℕ) (f g g' : List Kind) (a : A) (m : ℕ) (us : List Kind) (other : Outcome A) : Type 0 where
  pub left : List Kind
  pub here : us ≡ left ++ g
  pub there : other ≡ got a m (left ++ g')
  pub place : m + length left ≡ n + length f

-- The other outcome is the same, if the first is one within f.
abbrev pub Alike : {A : Type 0} → ℕ → List Kind → List Kind → List Kind → Outcome A → Outcome A → Type 0
Alike n f g g' (got a m us) other = length g < length us → Within n f g g' a m us other
Alike n f g g' (fault k) other = k < n + length f → other ≡ fault k

-- Two readers read alike what begins alike, where there are at most so many tokens for the one and for the other.
pub record Same {A : Type 0} (d e : ℕ) (p q : Reader A) : Type 0 where
  pub moves : (n : ℕ) (ts : List Kind) → Moved n ts (p n ts)
  pub alike : (n : ℕ) (f g g' : List Kind) → length (f ++ g) ≤ d → length (f ++ g') ≤ e → Alike n f g g' (p n (f ++ g)) (q n (f ++ g'))

-- ---- outcomes

-- nothing is within no tokens
pub alike_nothing : {A : Type 0} (n : ℕ) (g g' : List Kind) (o other : Outcome A) → Moved n g o → Alike n [] g g' o other
alike_nothing n g g' (got a m us) other h = λ more. absurd (omega (arith, h.0, h.1, more))
alike_nothing n g g' (fault k) other h = λ less. absurd (omega (arith, h, less))

pub moved_test : {A : Type 0} (n : ℕ) (ts : List Kind) (test : Bool) (o o' : Outcome A) → Moved n ts o → Moved n ts o' → Moved n ts (cond test o o')
moved_test n ts true o o' h h' = h
moved_test n ts false o o' h h' = h'

pub alike_test : {A : Type 0} (n : ℕ) (f g g' : List Kind) (test : Bool) (o1 o2 u1 u2 : Outcome A) → Alike n f g g' o1 u1 → Alike n f g g' o2 u2 → Alike n f g g' (cond test o1 o2) (cond test u1 u2)
alike_test n f g g' true o1 o2 u1 u2 h h' = h
alike_test n f g g' false o1 o2 u1 u2 h h' = h'

beyond_moved : {A : Type 0} (n : ℕ) (ts : List Kind) (m : ℕ) (us : List Kind) (o : Outcome A) → Moved m us o → (n ≤ m) × (m + length us ≡ n + length ts) → Moved n ts o
beyond_moved n ts m us (got a l vs) h t = (omega (arith, h.0, t.0), omega (arith, h.1, t.1))
beyond_moved n ts m us (fault k) h t = omega (arith, h, t.0)

pub moved_then : {A B : Type 0} (n : ℕ) (ts : List Kind) (o : Outcome A) (f : A → Reader B) → Moved n ts o → ((a : A) (m : ℕ) (us : List Kind) → Moved m us (f a m us)) → Moved n ts (and_then o f)
moved_then n ts (got a m us) f h F = beyond_moved n ts m us (f a m us) (F a m us) h
moved_then n ts (fault k) f h F = h

longer_or_not : (x y : ℕ) → (x < y) ⊎ (y ≤ x)
longer_or_not x zero = inr (omega arith)
longer_or_not zero (suc y) = inl (omega arith)
longer_or_not (suc x) (suc y) = step (longer_or_not x y)
  where
    step : (x < y) ⊎ (y ≤ x) → (suc x < suc y) ⊎ (suc y ≤ suc x)
    step (inl h) = inl (omega (arith, h))
    step (inr h) = inr (omega (arith, h))

-- behind the beginning, nothing is within it
alike_behind : {A : Type 0} (n : ℕ) (f g g' : List Kind) (m : ℕ) (us : List Kind) (o other : Outcome A) → m + length us ≡ n + length (f ++ g) → length us ≤ length g → Moved m us o → Alike n f g g' o other
alike_behind n f g g' m us (got a l vs) other e h t = λ more. absurd (omega (arith, e, h, t.0, t.1, more))
alike_behind n f g g' m us (fault k) other e h t = λ less. absurd (omega (arith, e, h, t, less, length-append f g))

alike_moved : {A : Type 0} (n : ℕ) (f : List Kind) (m : ℕ) (left g g' : List Kind) (o other : Outcome A) → m + length left ≡ n + length f → Alike m left g g' o other → Alike n f g g' o other
alike_moved n f m left g g' (got a l vs) other e h = λ more. let w : Within m left g g' a l vs other = h more in record { left = w.left; here = w.here; there = w.there; place = w.place ∙ e }
alike_moved n f m left g g' (fault k) other e h = λ less. h (omega (arith, less, e))

module _ {A B : Type 0} (c d e : ℕ) (f : A → Reader B) (f' : A → Reader B) (F : (a : A) → Same d e (f a) (f' a)) where
  -- what is read behind a value, of which c tokens were taken
  within_then : (n : ℕ) (w g g' : List Kind) (a : A) (m : ℕ) (us : List Kind) (other : Outcome A) → (n ≤ m) × (m + length us ≡ n + length (w ++ g)) → c + length us ≤ length (w ++ g) → length (w ++ g) ≤ c + d → length (w ++ g') ≤ c + e
      → Within n w g g' a m us other → Alike n w g g' (f a m us) (and_then other f')
  within_then n w g g' a m us other t less room room' x =
      let size : length (w ++ g) ≡ length w + length g = length-append w g in
      let size' : length (w ++ g') ≡ length w + length g' = length-append w g' in
      let left : length us ≡ length x.left + length g = ap length x.here ∙ length-append x.left g in
      let here : Alike m x.left g g' (f a m (x.left ++ g)) (f' a m (x.left ++ g')) =
      (F a).alike m x.left g g' (omega (arith, size, less, room, left, length-append x.left g)) (omega (arith, size, size', less, room', left, length-append x.left g')) in
      subst (λ o. Alike n w g g' (f a m us) (and_then o f')) (sym x.there)
      (subst (λ v. Alike n w g g' (f a m v) (f' a m (x.left ++ g'))) (sym x.here) (alike_moved n w m x.left g g' (f a m (x.left ++ g)) (f' a m (x.left ++ g')) x.place here))

  alike_by : (n : ℕ) (w g g' : List Kind) (a : A) (m : ℕ) (us : List Kind) (other : Outcome A) → (length g < length us) ⊎ (length us ≤ length g) → (n ≤ m) × (m + length us ≡ n + length (w ++ g)) → c + length us ≤ length (w ++ g) → length (w ++ g) ≤ c + d
      → length (w ++ g') ≤ c + e → (length g < length us → Within n w g g' a m us other) → Alike n w g g' (f a m us) (and_then other f')
  alike_by n w g g' a m us other (inl more) t less room room' x = within_then n w g g' a m us other t less room room' (x more)
  alike_by n w g g' a m us other (inr few) t less room room' x = alike_behind n w g g' m us (f a m us) (and_then other f') t.1 few ((F a).moves m us)

  pub alike_then : (n : ℕ) (w g g' : List Kind) (o other : Outcome A) → Moved n (w ++ g) o → LeavesTokens c (w ++ g) o → length (w ++ g) ≤ c + d → length (w ++ g') ≤ c + e → Alike n w g g' o other → Alike n w g g' (and_then o f) (and_then other f')
  alike_then n w g g' (got a m us) other t less room room' h = alike_by n w g g' a m us other (longer_or_not (length g) (length us)) t less room room' h
  alike_then n w g g' (fault k) other t less room room' h = λ before. ap (λ o. and_then o f') (h before)

leaves_none : {A : Type 0} (n : ℕ) (ts : List Kind) (o : Outcome A) → Moved n ts o → LeavesTokens 0 ts o
leaves_none n ts (got a m us) h = omega (arith, h.0, h.1)
leaves_none n ts (fault k) h = tt

-- ---- readers

-- what comes behind a reader that takes a token at least
pub same_behind : {A B : Type 0} {d e : ℕ} {p q : Reader A} (f f' : A → Reader B) → Takes 1 p → Same (suc d) (suc e) p q → ((a : A) → Same d e (f a) (f' a)) → Same (suc d) (suc e) (λ n ts. and_then (p n ts) f) (λ n ts. and_then (q n ts) f')
same_behind {d = d} {e = e} {p = p} {q = q} f f' T P F = record {
  moves = λ n ts. moved_then n ts (p n ts) f (P.moves n ts) (λ a m us. (F a).moves m us);
  alike = λ n w g g' room room'. alike_then 1 d e f f' F n w g g' (p n (w ++ g)) (q n (w ++ g')) (P.moves n (w ++ g)) (T.takes n (w ++ g)) (omega (arith, room)) (omega (arith, room')) (P.alike n w g g' room room');
}

-- what comes behind a reader
pub same_then : {A B : Type 0} {d e : ℕ} {p q : Reader A} (f f' : A → Reader B) → Same d e p q → ((a : A) → Same d e (f a) (f' a)) → Same d e (λ n ts. and_then (p n ts) f) (λ n ts. and_then (q n ts) f')
same_then {d = d} {e = e} {p = p} {q = q} f f' P F = record {
  moves = λ n ts. moved_then n ts (p n ts) f (P.moves n ts) (λ a m us. (F a).moves m us);
  alike = λ n w g g' room room'. alike_then 0 d e f f' F n w g g' (p n (w ++ g)) (q n (w ++ g')) (P.moves n (w ++ g)) (leaves_none n (w ++ g) (p n (w ++ g)) (P.moves n (w ++ g))) (omega (arith, room)) (omega (arith, room')) (P.alike n w g g' room room');
}

none_within : {A : Type 0} (n : ℕ) (f g g' : List Kind) (a : A) → Within n f g g' a n (f ++ g) (got a n (f ++ g'))
none_within n f g g' a = record { left = f; here = refl; there = refl; place = refl }

pub same_none : {A : Type 0} {d e : ℕ} (a : A) → Same d e (read_none a) (read_none a)
same_none a = record { moves = λ n ts. (omega arith, refl); alike = λ n f g g' room room'. λ more. none_within n f g g' a }

pub same_never : {A : Type 0} {d e : ℕ} → Same d e (read_never {A = A}) read_never
same_never = record { moves = λ n ts. omega arith; alike = λ n f g g' room room'. λ less. refl }

-- one token
module _ {A : Type 0} (make : ℕ → Kind → Option A) where
  one_moved : (n : ℕ) (k : Kind) (ts : List Kind) (o : Option A) → Moved n (k ∷ ts) (taken o n ts)
  one_moved n k ts (Some a) = (omega arith, omega arith)
  one_moved n k ts None = omega arith

  one_moves : (n : ℕ) (ts : List Kind) → Moved n ts (read_one make n ts)
  one_moves n [] = omega arith
  one_moves n (k ∷ ts) = one_moved n k ts (make n k)

  taken_alike : (n : ℕ) (k : Kind) (f g g' : List Kind) (o : Option A) → Alike n (k ∷ f) g g' (taken o n (f ++ g)) (taken o n (f ++ g'))
  taken_alike n k f g g' (Some a) = λ more. record { left = f; here = refl; there = refl; place = omega arith }
  taken_alike n k f g g' None = λ less. refl

  one_alike : (n : ℕ) (f g g' : List Kind) → Alike n f g g' (read_one make n (f ++ g)) (read_one make n (f ++ g'))
  one_alike n [] g g' = alike_nothing n g g' (read_one make n g) (read_one make n g') (one_moves n g)
  one_alike n (k ∷ f) g g' = taken_alike n k f g g' (make n k)

  pub same_one : {d e : ℕ} → Same d e (read_one make) (read_one make)
  same_one = record { moves = one_moves; alike = λ n f g g' room room'. one_alike n f g g' }

pub same_mapped : {A B : Type 0} {d e : ℕ} {p q : Reader A} (to : A → B) → Same d e p q → Same d e (read_mapped to p) (read_mapped to q)
same_mapped to P = same_then (λ a. read_none (to a)) (λ a. read_none (to a)) P (λ a. same_none (to a))

pub same_both : {A B : Type 0} {d e : ℕ} {p p' : Reader A} {q q' : Reader B} → Same d e p p' → Same d e q q' → Same d e (read_both p q) (read_both p' q')
same_both {q = q} {q' = q'} P Q = same_then (λ a. read_mapped (λ b. (a, b)) q) (λ a. read_mapped (λ b. (a, b)) q') P (λ a. same_mapped (λ b. (a, b)) Q)

pub same_after : {A B : Type 0} {d e : ℕ} {p p' : Reader A} {q q' : Reader B} → Same d e p p' → Same d e q q' → Same d e (read_after p q) (read_after p' q')
same_after {q = q} {q' = q'} P Q = same_then (λ _. q) (λ _. q') P (λ _. Q)

-- within brackets, there is a token less
pub same_inside : {A B : Type 0} {d e : ℕ} {p p' : Reader A} {q q' : Reader B} → Takes 1 p → Same (suc d) (suc e) p p' → Same d e q q' → Same (suc d) (suc e) (read_after p q) (read_after p' q')
same_inside {q = q} {q' = q'} T P Q = same_behind (λ _. q) (λ _. q') T P (λ _. Q)

pub same_until : {A B : Type 0} {d e : ℕ} {p p' : Reader A} {q q' : Reader B} → Same d e p p' → Same d e q q' → Same d e (read_until p q) (read_until p' q')
same_until {q = q} {q' = q'} P Q = same_then (λ a. read_mapped (λ _. a) q) (λ a. read_mapped (λ _. a) q') P (λ a. same_mapped (λ _. a) Q)

-- with the number of its first token
module _ {A : Type 0} (n : ℕ) (f g g' : List Kind) where
  abbrev with_place : A → Reader (ℕ × A)
  with_place a m us = got (n, a) m us

  placed_alike : (o other : Outcome A) → Alike n f g g' o other → Alike n f g g' (and_then o with_place) (and_then other with_place)
  placed_alike (got a m us) other h = λ more. let x : Within n f g g' a m us other = h more in record { left = x.left; here = x.here; there = ap (λ o. and_then o with_place) x.there; place = x.place }
  placed_alike (fault k) other h = λ less. ap (λ o. and_then o with_place) (h less)

  placed_moved : (o : Outcome A) → Moved n f o → Moved n f (and_then o with_place)
  placed_moved (got a m us) h = h
  placed_moved (fault k) h = h

pub same_placed : {A : Type 0} {d e : ℕ} {p q : Reader A} → Same d e p q → Same d e (read_placed p) (read_placed q)
same_placed {p = p} {q = q} P = record {
  moves = λ n ts. placed_moved n ts [] [] (p n ts) (P.moves n ts);
  alike = λ n f g g' room room'. placed_alike n f g g' (p n (f ++ g)) (q n (f ++ g')) (P.alike n f g g' room room');
}

-- one or another
module _ {A : Type 0} {d e : ℕ} {p p' q q' : Reader A} (test : Kind → Bool) (P : Same d e p p') (Q : Same d e q q') where
  or_moves : (n : ℕ) (ts : List Kind) → Moved n ts (read_or test p q n ts)
  or_moves n ts = moved_test n ts (begins test ts) (p n ts) (q n ts) (P.moves n ts) (Q.moves n ts)

  or_alike : (n : ℕ) (f g g' : List Kind) → length (f ++ g) ≤ d → length (f ++ g') ≤ e → Alike n f g g' (read_or test p q n (f ++ g)) (read_or test p' q' n (f ++ g'))
  or_alike n [] g g' room room' = alike_nothing n g g' (read_or test p q n g) (read_or test p' q' n g') (or_moves n g)
  or_alike n (k ∷ f) g g' room room' =
      alike_test n (k ∷ f) g g' (test k) (p n (k ∷ f ++ g)) (q n (k ∷ f ++ g)) (p' n (k ∷ f ++ g')) (q' n (k ∷ f ++ g')) (P.alike n (k ∷ f) g g' room room') (Q.alike n (k ∷ f) g g' room room')

  pub same_or : Same d e (read_or test p q) (read_or test p' q')
  same_or = record { moves = or_moves; alike = or_alike }

pub same_maybe : {A : Type 0} {d e : ℕ} {p q : Reader A} (test : Kind → Bool) → Same d e p q → Same d e (read_maybe test p) (read_maybe test q)
same_maybe test P = same_or test (same_mapped Some P) (same_none None)

-- fewer tokens
pub same_less : {A : Type 0} {d e : ℕ} {p q : Reader A} (d' e' : ℕ) → d' ≤ d → e' ≤ e → Same d e p q → Same d' e' p q
same_less d' e' h h' P = record { moves = P.moves; alike = λ n f g g' room room'. P.alike n f g g' (omega (arith, h, room)) (omega (arith, h', room')) }

-- where there is no token, nothing is within them
no_tokens : (f g : List Kind) → length (f ++ g) ≤ 0 → f ≡ []
no_tokens [] g h = refl
no_tokens (k ∷ f) g h = absurd (omega (arith, h))

module _ {A : Type 0} (p q : Reader A) (M : (n : ℕ) (ts : List Kind) → Moved n ts (p n ts)) where
  empty_alike : (n : ℕ) (f g g' : List Kind) → f ≡ [] → Alike n f g g' (p n (f ++ g)) (q n (f ++ g'))
  empty_alike n f g g' e = subst (λ w. Alike n w g g' (p n (w ++ g)) (q n (w ++ g'))) (sym e) (alike_nothing n g g' (p n g) (q n g') (M n g))

  pub same_at_none : {e : ℕ} → Same 0 e p q
  same_at_none = record { moves = M; alike = λ n f g g' room room'. empty_alike n f g g' (no_tokens f g room) }

  pub same_before_none : {d : ℕ} → Same d 0 p q
  same_before_none = record { moves = M; alike = λ n f g g' room room'. empty_alike n f g g' (no_tokens f g' room') }

-- ---- repeated

module _ {A : Type 0} {d e : ℕ} {p q : Reader A} (test : Kind → Bool) (T : Takes 1 p) (P : Same d e p q) where
  turns_move : (t n : ℕ) (ts : List Kind) → Moved n ts (read_turns test p t n ts)
  turns_move zero n ts = (omega arith, refl)
  turns_move (suc t) n ts = moved_test n ts (begins test ts) (and_then (p n ts) (λ a m us. and_then (read_turns test p t m us) (put test p a))) (got [] n ts)
      (moved_then n ts (p n ts) (λ a m us. and_then (read_turns test p t m us) (put test p a)) (P.moves n ts) (λ a m us. moved_then m us (read_turns test p t m us) (put test p a) (turns_move t m us) (λ xs l vs. (omega arith, refl)))) (omega arith, refl)

  same_turns : (t t' : ℕ) → t ≤ d → t' ≤ e → Same t t' (read_turns test p t) (read_turns test q t')
  same_turns zero t' h h' = same_at_none (read_turns test p zero) (read_turns test q t') (turns_move zero)
  same_turns (suc t) zero h h' = same_before_none (read_turns test p (suc t)) (read_turns test q zero) (turns_move (suc t))
  same_turns (suc t) (suc t') h h' =
      let S : Same t t' (read_turns test p t) (read_turns test q t') = same_turns t t' (omega (arith, h)) (omega (arith, h')) in
      same_or test (same_behind (λ a. read_mapped (λ xs. a ∷ xs) (read_turns test p t)) (λ a. read_mapped (λ xs. a ∷ xs) (read_turns test q t')) T (same_less (suc t) (suc t') h h' P) (λ a. same_mapped (λ xs. a ∷ xs) S)) (same_none [])

  pub same_many : Same d e (read_many test p) (read_many test q)
  same_many = record {
    moves = λ n ts. turns_move (length ts) n ts;
    alike = λ n f g g' room room'. (same_turns (length (f ++ g)) (length (f ++ g')) room room').alike n f g g' (omega arith) (omega arith);
  }

-- with separators
module _ {A : Type 0} {d e : ℕ} {p q : Reader A} (test separates : Kind → Bool) (T : Takes 1 p) (P : Same d e p q) where
  behind_moves : (again : Reader (Listed A)) → ((n : ℕ) (ts : List Kind) → Moved n ts (again n ts)) → (a : A) (n : ℕ) (ts : List Kind) → Moved n ts (behind test separates p again a n ts)
  behind_moves again M a n [] = (omega arith, refl)
  behind_moves again M a n (k ∷ ts) = moved_test n (k ∷ ts) (separates k) (and_then (again (n + 1) ts) (put_next test separates p a)) (got (last a) n (k ∷ ts))
      (beyond_moved n (k ∷ ts) (n + 1) ts (and_then (again (n + 1) ts) (put_next test separates p a))
      (moved_then (n + 1) ts (again (n + 1) ts) (put_next test separates p a) (M (n + 1) ts) (λ l i vs. (omega arith, refl))) (omega arith, omega arith)) (omega arith, refl)

  module _ {i j : ℕ} (again again' : Reader (Listed A)) (S : Same i j again again') (a : A) where
    behind_alike : (n : ℕ) (f g g' : List Kind) → length (f ++ g) ≤ i → length (f ++ g') ≤ j → Alike n f g g' (behind test separates p again a n (f ++ g)) (behind test separates q again' a n (f ++ g'))
    behind_alike n [] g g' room room' = alike_nothing n g g' (behind test separates p again a n g) (behind test separates q again' a n g') (behind_moves again S.moves a n g)
    behind_alike n (k ∷ f) g g' room room' =
        alike_test n (k ∷ f) g g' (separates k) (and_then (again (n + 1) (f ++ g)) (put_next test separates p a)) (got (last a) n (k ∷ f ++ g)) (and_then (again' (n + 1) (f ++ g')) (put_next test separates q a)) (got (last a) n (k ∷ f ++ g'))
        (alike_moved n (k ∷ f) (n + 1) f g g' (and_then (again (n + 1) (f ++ g)) (put_next test separates p a)) (and_then (again' (n + 1) (f ++ g')) (put_next test separates q a)) (omega arith)
        ((same_mapped (next a) S).alike (n + 1) f g g' (omega (arith, room)) (omega (arith, room'))))
        (λ more. none_within n (k ∷ f) g g' (last a))

    same_list : Same i j (behind test separates p again a) (behind test separates q again' a)
    same_list = record { moves = behind_moves again S.moves a; alike = behind_alike }

  list_moves : (t n : ℕ) (ts : List Kind) → Moved n ts (read_list_turns test separates p t n ts)
  list_moves zero n ts = (omega arith, refl)
  list_moves (suc t) n ts = moved_test n ts (begins test ts) (and_then (p n ts) (behind test separates p (read_list_turns test separates p t))) (got none n ts)
      (moved_then n ts (p n ts) (behind test separates p (read_list_turns test separates p t)) (P.moves n ts) (behind_moves (read_list_turns test separates p t) (list_moves t))) (omega arith, refl)

  same_list_turns : (t t' : ℕ) → t ≤ d → t' ≤ e → Same t t' (read_list_turns test separates p t) (read_list_turns test separates q t')
  same_list_turns zero t' h h' = same_at_none (read_list_turns test separates p zero) (read_list_turns test separates q t') (list_moves zero)
  same_list_turns (suc t) zero h h' = same_before_none (read_list_turns test separates p (suc t)) (read_list_turns test separates q zero) (list_moves (suc t))
  same_list_turns (suc t) (suc t') h h' =
      let S : Same t t' (read_list_turns test separates p t) (read_list_turns test separates q t') = same_list_turns t t' (omega (arith, h)) (omega (arith, h')) in
      same_or test (same_behind (behind test separates p (read_list_turns test separates p t)) (behind test separates q (read_list_turns test separates q t')) T (same_less (suc t) (suc t') h h' P)
      (same_list (read_list_turns test separates p t) (read_list_turns test separates q t') S)) (same_none none)

  pub same_listed : Same d e (read_listed test separates p) (read_listed test separates q)
  same_listed = record {
    moves = λ n ts. list_moves (length ts) n ts;
    alike = λ n f g g' room room'. (same_list_turns (length (f ++ g)) (length (f ++ g')) room room').alike n f g g' (omega arith) (omega arith);
  }

-- with labels
module _ {L A : Type 0} {d e : ℕ} {p q : Reader A} {labels : Reader L} (test : Kind → Bool) (T : Takes 1 p) (P : Same d e p q) (R : (i j : ℕ) → Same i j labels labels) where
  abbrev behind_item : (Reader A) → ℕ → L → A → Reader (Labelled L A)
  behind_item p t l a = read_mapped (item l a) (λ m us. and_then (labels m us) (read_label_turns labels test p t))

  label_moves : (t : ℕ) (l : L) (n : ℕ) (ts : List Kind) → Moved n ts (read_label_turns labels test p t l n ts)
  label_moves zero l n ts = (omega arith, refl)
  label_moves (suc t) l n ts = moved_test n ts (begins test ts) (and_then (p n ts) (behind_item p t l)) (got (tail l) n ts)
      (moved_then n ts (p n ts) (behind_item p t l) (P.moves n ts)
      (λ a m us. moved_then m us (and_then (labels m us) (read_label_turns labels test p t)) (put_item labels test p l a) (moved_then m us (labels m us) (read_label_turns labels test p t) ((R 0 0).moves m us) (label_moves t)) (λ x i vs. (omega arith, refl))))
      (omega arith, refl)

  same_label_turns : (t t' : ℕ) → t ≤ d → t' ≤ e → (l : L) → Same t t' (read_label_turns labels test p t l) (read_label_turns labels test q t' l)
  same_label_turns zero t' h h' l = same_at_none (read_label_turns labels test p zero l) (read_label_turns labels test q t' l) (label_moves zero l)
  same_label_turns (suc t) zero h h' l = same_before_none (read_label_turns labels test p (suc t) l) (read_label_turns labels test q zero l) (label_moves (suc t) l)
  same_label_turns (suc t) (suc t') h h' l =
      same_or test (same_behind (behind_item p t l) (behind_item q t' l) T (same_less (suc t) (suc t') h h' P)
      (λ a. same_mapped (item l a) (same_then (read_label_turns labels test p t) (read_label_turns labels test q t') (R t t') (same_label_turns t t' (omega (arith, h)) (omega (arith, h')))))) (same_none (tail l))

  same_behind_labels : (l : L) → Same d e (λ m us. read_label_turns labels test p (length us) l m us) (λ m us. read_label_turns labels test q (length us) l m us)
  same_behind_labels l = record {
    moves = λ n ts. label_moves (length ts) l n ts;
    alike = λ n f g g' room room'. (same_label_turns (length (f ++ g)) (length (f ++ g')) room room' l).alike n f g g' (omega arith) (omega arith);
  }

  pub same_labelled : Same d e (read_labelled labels test p) (read_labelled labels test q)
  same_labelled = same_then (λ l m us. read_label_turns labels test p (length us) l m us) (λ l m us. read_label_turns labels test q (length us) l m us) (R d e) same_behind_labels
