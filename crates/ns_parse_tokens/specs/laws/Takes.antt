-- How many tokens a reader takes at least: a law for each way in which readers are put together.
use Rattle.std.proofs.Common.{◌≡◌, ℕ, zero, suc, ◌+◌, ◌≤◌, ◌<◌, cond, List, [], ◌∷◌, length, Option, Some, None, Bool, true, false, refl, subst, arith}
use Rattle.ns_tree.specs.declared.token.Kind.{Kind}
use Rattle.ns_tree.specs.Rule.{Listed, none, next}
use Rattle.ns_parse_tokens.specs.Left.{Left}
use Rattle.ns_parse_tokens.specs.Read.{Outcome, Reader, got, fault, and_then, taken, read_one, begins, read_none, read_never, read_mapped, read_both}
use Rattle.ns_parse_tokens.specs.Read.{read_after, read_until, read_placed, read_or, read_maybe, read_turns, read_many, behind, read_list_turns, read_listed}
use Rattle.ns_parse_tokens.specs.Read.{tail, item, read_label_turns, read_labelled}
use Rattle.ns_parse_tokens.specs.Reads.{ReaderGives}

-- The outcome has so many tokens fewer, or is a fault.
abbrev pub LeavesTokens : {A : Type 0} → ℕ → List Kind → Outcome A → Type 0
LeavesTokens d ts (got a m us) = d + length us ≤ length ts
LeavesTokens d ts (fault k) = Unit {0}

-- The reader takes so many tokens at least.
pub record Takes {A : Type 0} (d : ℕ) (p : Reader A) : Type 0 where
  pub takes : (n : ℕ) (ts : List Kind) → LeavesTokens d ts (p n ts)

-- what is left behind a reader
pub left_by : {A : Type 0} (d : ℕ) (p : Reader A) (n : ℕ) (ts : List Kind) (a : A) (m : ℕ) (us : List Kind) → Takes d p → p n ts ≡ got a m us
    → d + length us ≤ length ts
left_by d p n ts a m us P e = subst (LeavesTokens d ts) e (P.takes n ts)

-- A reader that takes a token leaves fewer.
pub fewer : {A : Type 0} (p : Reader A) (old new : Left) (a : A) → Takes 1 p → ReaderGives p a old new → length new.kinds < length old.kinds
fewer p old new a P e = omega (arith, left_by 1 p old.at old.kinds a new.at new.kinds P e)

-- ---- no token, or one

pub takes_none : {A : Type 0} (a : A) → Takes 0 (read_none a)
takes_none a = record { takes = λ n ts. omega arith }

pub takes_never : {A : Type 0} (d : ℕ) → Takes d (read_never {A = A})
takes_never d = record { takes = λ n ts. tt }

one_leaves : {A : Type 0} (o : Option A) (n : ℕ) (k : Kind) (ts : List Kind) → LeavesTokens 1 (k ∷ ts) (taken o n ts)
one_leaves (Some a) n k ts = omega arith
one_leaves None n k ts = tt

one_takes : {A : Type 0} (make : ℕ → Kind → Option A) (n : ℕ) (ts : List Kind) → LeavesTokens 1 ts (read_one make n ts)
one_takes make n [] = tt
one_takes make n (k ∷ ts) = one_leaves (make n k) n k ts

pub takes_one : {A : Type 0} (make : ℕ → Kind → Option A) → Takes 1 (read_one make)
takes_one make = record { takes = one_takes make }

-- ---- fewer than it takes

less_leaves : {A : Type 0} (d e : ℕ) (ts : List Kind) (o : Outcome A) → e ≤ d → LeavesTokens d ts o → LeavesTokens e ts o
less_leaves d e ts (got a m us) h l = omega (arith, h, l)
less_leaves d e ts (fault k) h l = tt

pub takes_less : {A : Type 0} {p : Reader A} {d : ℕ} (e : ℕ) → e ≤ d → Takes d p → Takes e p
takes_less {p = p} {d = d} e h P = record { takes = λ n ts. less_leaves d e ts (p n ts) h (P.takes n ts) }

-- A reader that takes one token or more takes one.
pub takes_some : {A : Type 0} {p : Reader A} {d : ℕ} → Takes (suc d) p → Takes 1 p
takes_some P = takes_less 1 (omega arith) P

pub takes_any : {A : Type 0} {p : Reader A} {d : ℕ} → Takes d p → Takes 0 p
takes_any P = takes_less 0 (omega arith) P

longer : {A : Type 0} (k : Kind) (ts : List Kind) (o : Outcome A) → LeavesTokens 0 ts o → LeavesTokens 0 (k ∷ ts) o
longer k ts (got a m us) l = omega (arith, l)
longer k ts (fault i) l = tt

-- ---- put together

beyond : {A : Type 0} (d e : ℕ) (ts us : List Kind) (o : Outcome A) → d + length us ≤ length ts → LeavesTokens e us o → LeavesTokens (d + e) ts o
beyond d e ts us (got a m vs) l l' = omega (arith, l, l')
beyond d e ts us (fault k) l l' = tt

mapped_leaves : {A B : Type 0} (d : ℕ) (ts : List Kind) (to : A → B) (o : Outcome A) → LeavesTokens d ts o → LeavesTokens d ts (and_then o (λ a m us. got (to a) m us))
mapped_leaves d ts to (got a m us) l = l
mapped_leaves d ts to (fault k) l = tt

-- What comes behind an outcome takes more.
then_leaves : {A B : Type 0} (d e : ℕ) (ts : List Kind) (o : Outcome A) (f : A → Reader B) → LeavesTokens d ts o → ((a : A) → Takes e (f a))
    → LeavesTokens (d + e) ts (and_then o f)
then_leaves d e ts (got a m us) f l F = beyond d e ts us (f a m us) l ((F a).takes m us)
then_leaves d e ts (fault k) f l F = tt

pub takes_mapped : {A B : Type 0} {p : Reader A} {d : ℕ} (to : A → B) → Takes d p → Takes d (read_mapped to p)
takes_mapped {p = p} {d = d} to P = record { takes = λ n ts. mapped_leaves d ts to (p n ts) (P.takes n ts) }

pub takes_placed : {A : Type 0} {p : Reader A} {d : ℕ} → Takes d p → Takes d (read_placed p)
takes_placed {p = p} {d = d} P = record { takes = λ n ts. mapped_leaves d ts (λ a. (n, a)) (p n ts) (P.takes n ts) }

pub takes_both : {A B : Type 0} {p : Reader A} {q : Reader B} {d e : ℕ} → Takes d p → Takes e q → Takes (d + e) (read_both p q)
takes_both {q = q} P Q = record { takes = λ n ts. then_leaves _ _ ts _ _ (P.takes n ts) (λ a. takes_mapped (λ b. (a, b)) Q) }

pub takes_after : {A B : Type 0} {p : Reader A} {q : Reader B} {d e : ℕ} → Takes d p → Takes e q → Takes (d + e) (read_after p q)
takes_after {q = q} P Q = record { takes = λ n ts. then_leaves _ _ ts _ _ (P.takes n ts) (λ a. Q) }

pub takes_until : {A B : Type 0} {p : Reader A} {q : Reader B} {d e : ℕ} → Takes d p → Takes e q → Takes (d + e) (read_until p q)
takes_until {q = q} P Q = record { takes = λ n ts. then_leaves _ _ ts _ _ (P.takes n ts) (λ a. takes_mapped (λ b. a) Q) }

-- ---- one or another

cond_leaves : {A : Type 0} (d : ℕ) (ts : List Kind) (test : Bool) (o o' : Outcome A) → (test ≡ true → LeavesTokens d ts o) → LeavesTokens d ts o'
    → LeavesTokens d ts (cond test o o')
cond_leaves d ts true o o' l l' = l refl
cond_leaves d ts false o o' l l' = l'

pub takes_or : {A : Type 0} {p q : Reader A} {d : ℕ} (first : Kind → Bool) → Takes d p → Takes d q → Takes d (read_or first p q)
takes_or {p = p} {q = q} {d = d} first P Q = record { takes = λ n ts. cond_leaves d ts (begins first ts) (p n ts) (q n ts) (λ e. P.takes n ts) (Q.takes n ts) }

pub takes_maybe : {A : Type 0} {p : Reader A} {d : ℕ} (first : Kind → Bool) → Takes d p → Takes 0 (read_maybe first p)
takes_maybe first P = takes_or first (takes_mapped Some (takes_any P)) (takes_none None)

-- ---- repeated

module _ {A : Type 0} (first : Kind → Bool) (p : Reader A) (P : Takes 0 p) where
  turns_take : (t : ℕ) → Takes 0 (read_turns first p t)
  turns_take zero = takes_none []
  turns_take (suc t) = record {
    takes = λ n ts. cond_leaves 0 ts (begins first ts) _ _
        (λ e. then_leaves 0 0 ts (p n ts) _ (P.takes n ts) (λ a. takes_mapped (λ xs. a ∷ xs) (turns_take t))) (omega arith);
  }

pub takes_many : {A : Type 0} {p : Reader A} (first : Kind → Bool) → Takes 0 p → Takes 0 (read_many first p)
takes_many {p = p} first P = record { takes = λ n ts. (turns_take first p P (length ts)).takes n ts }

true_leaves : {A : Type 0} (d : ℕ) (ts : List Kind) (test : Bool) (o o' : Outcome A) → test ≡ true → LeavesTokens d ts o → LeavesTokens d ts (cond test o o')
true_leaves d ts true o o' e l = l
true_leaves d ts false o o' e l = absurd cc

module _ {A : Type 0} (first : Kind → Bool) (p : Reader A) (d : ℕ) (P : Takes d p) where
  begun_leaves : (n : ℕ) (ts : List Kind) → begins first ts ≡ true → LeavesTokens d ts (read_many first p n ts)
  begun_leaves n [] e = absurd cc
  begun_leaves n (k ∷ ts) e =
      true_leaves d (k ∷ ts) (first k) _ _ e
      (less_leaves (d + 0) d (k ∷ ts) _ (omega arith)
      (then_leaves d 0 (k ∷ ts) (p n (k ∷ ts)) _ (P.takes n (k ∷ ts)) (λ a. takes_mapped (λ xs. a ∷ xs) (turns_take first p (takes_any P) (length ts)))))

-- Many of which one is there take what one takes.
pub takes_begun : {A B C : Type 0} {p : Reader A} {q : Reader C} {d : ℕ} (first : Kind → Bool) (to : List A → B) (as_one : B → C) → Takes d p
    → Takes d q → Takes d (read_or first (read_mapped as_one (read_mapped to (read_many first p))) q)
takes_begun {p = p} {q = q} {d = d} first to as_one P Q = record {
  takes = λ n ts. cond_leaves d ts (begins first ts) _ (q n ts)
      (λ e. mapped_leaves d ts as_one _ (mapped_leaves d ts to (read_many first p n ts) (begun_leaves first p d P n ts e))) (Q.takes n ts);
}

-- with separators
module _ {A : Type 0} (first separates : Kind → Bool) (p : Reader A) (P : Takes 0 p) where
  behind_leaves : (again : Reader (Listed A)) → Takes 0 again → (a : A) (n : ℕ) (ts : List Kind) → LeavesTokens 0 ts (behind first separates p again a n ts)
  behind_leaves again R a n [] = omega arith
  behind_leaves again R a n (k ∷ ts) =
      cond_leaves 0 (k ∷ ts) (separates k) _ _ (λ e. longer k ts _ (mapped_leaves 0 ts (λ rest. next a rest) (again (n + 1) ts) (R.takes (n + 1) ts)))
      (omega arith)

  list_turns_take : (t : ℕ) → Takes 0 (read_list_turns first separates p t)
  list_turns_take zero = takes_none none
  list_turns_take (suc t) = record {
    takes = λ n ts. cond_leaves 0 ts (begins first ts) _ _ (λ e. then_leaves 0 0 ts (p n ts) _ (P.takes n ts)
        (λ a. record { takes = behind_leaves (read_list_turns first separates p t) (list_turns_take t) a })) (omega arith);
  }

pub takes_listed : {A : Type 0} {p : Reader A} (first separates : Kind → Bool) → Takes 0 p → Takes 0 (read_listed first separates p)
takes_listed {p = p} first separates P = record { takes = λ n ts. (list_turns_take first separates p P (length ts)).takes n ts }

-- with labels
module _ {L A : Type 0} (labels : Reader L) (first : Kind → Bool) (p : Reader A) (R : Takes 0 labels) (P : Takes 0 p) where
  label_turns_take : (t : ℕ) (l : L) → Takes 0 (read_label_turns labels first p t l)
  label_turns_take zero l = takes_none (tail l)
  label_turns_take (suc t) l = record {
    takes = λ n ts. cond_leaves 0 ts (begins first ts) _ _
        (λ e. then_leaves 0 0 ts (p n ts) _ (P.takes n ts) (λ a. takes_mapped (λ rest. item l a rest) (record {
          takes = λ m us. then_leaves 0 0 us (labels m us) _ (R.takes m us) (label_turns_take t);
        })))
        (omega arith);
  }

  labelled_leaves : (n : ℕ) (ts : List Kind) → LeavesTokens 0 ts (read_labelled labels first p n ts)
  labelled_leaves n ts = then_leaves 0 0 ts (labels n ts) _ (R.takes n ts) (λ l. record { takes = λ m us. (label_turns_take (length us) l).takes m us })

pub takes_labelled : {L A : Type 0} {labels : Reader L} {p : Reader A} (first : Kind → Bool) → Takes 0 labels → Takes 0 p
    → Takes 0 (read_labelled labels first p)
takes_labelled {labels = labels} {p = p} first R P = record { takes = labelled_leaves labels first p R P }
