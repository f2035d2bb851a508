-- Readers. A reader takes the number of the next token and the kinds of the tokens that are left. It gives a value, the
-- number of the token behind it and the tokens left there; or the number of the token with which it can't go on.
use Rattle.std.specs.Prelude.{ℕ, zero, suc, ◌+◌, List, [], ◌∷◌, Option, Some, None, Bool, true, false, cond, length}
use Rattle.ns_tree.specs.declared.token.Kind.{Kind}
use Rattle.ns_tree.specs.Rule.{Listed, none, last, next}

pub data Outcome (A : Type 0) : Type 0 where
  got : A → ℕ → List Kind → Outcome A
  fault : ℕ → Outcome A

abbrev pub Reader : Type 0 → Type 0
Reader A = ℕ → List Kind → Outcome A

-- what comes after an outcome, from its value on
abbrev pub and_then : {A B : Type 0} → Outcome A → (A → Reader B) → Outcome B
and_then (got a n ts) f = f a n ts
and_then (fault k) f = fault k

-- ---- one token

abbrev pub taken : {A : Type 0} → Option A → Reader A
taken (Some a) n ts = got a (n + 1) ts
taken None n ts = fault n

-- a token of which something is made, from its number and kind
abbrev pub read_one : {A : Type 0} → (ℕ → Kind → Option A) → Reader A
read_one make n [] = fault n
read_one make n (k ∷ ts) = taken (make n k) n ts

-- Whether the next token passes a test. There may be none.
abbrev pub begins : (Kind → Bool) → List Kind → Bool
begins first [] = false
begins first (k ∷ ts) = first k

-- ---- no token

abbrev pub read_none : {A : Type 0} → A → Reader A
read_none a n ts = got a n ts

abbrev pub read_never : {A : Type 0} → Reader A
read_never n ts = fault n

-- ---- put together

-- another value for what is read
abbrev pub read_mapped : {A B : Type 0} → (A → B) → Reader A → Reader B
read_mapped to p n ts = and_then (p n ts) (λ a m us. got (to a) m us)

-- one, and then another
abbrev pub read_both : {A B : Type 0} → Reader A → Reader B → Reader (A × B)
read_both p q n ts = and_then (p n ts) (λ a m us. and_then (q m us) (λ b l vs. got (a, b) l vs))

-- something, and then what is kept
abbrev pub read_after : {A B : Type 0} → Reader A → Reader B → Reader B
read_after p q n ts = and_then (p n ts) (λ a m us. q m us)

-- what is kept, and then something
abbrev pub read_until : {A B : Type 0} → Reader A → Reader B → Reader A
read_until p q n ts = and_then (p n ts) (λ a m us. and_then (q m us) (λ b l vs. got a l vs))

-- with the number of its first token
abbrev pub read_placed : {A : Type 0} → Reader A → Reader (ℕ × A)
read_placed p n ts = and_then (p n ts) (λ a m us. got (n, a) m us)

-- one where the next token passes the test, else another
abbrev pub read_or : {A : Type 0} → (Kind → Bool) → Reader A → Reader A → Reader A
read_or first p q n ts = cond (begins first ts) (p n ts) (q n ts)

-- one where the next token passes the test, else nothing
abbrev pub read_maybe : {A : Type 0} → (Kind → Bool) → Reader A → Reader (Option A)
read_maybe first p = read_or first (read_mapped Some p) (read_none None)

-- whether the next token passes the test; it is read if it does
abbrev pub read_flag : (Kind → Bool) → Reader (Unit {0}) → Reader Bool
read_flag first p = read_or first (read_mapped (λ _. true) p) (read_none false)

-- ---- repeated

-- Items while the next token passes the test. The number bounds the turns: there are no more than tokens.
module _ {A : Type 0} (first : Kind → Bool) (p : Reader A) where
  abbrev pub put : A → List A → Reader (List A)
  put a xs n ts = got (a ∷ xs) n ts

  abbrev pub read_turns : ℕ → Reader (List A)
  read_turns zero n ts = got [] n ts
  read_turns (suc t) n ts = cond (begins first ts) (and_then (p n ts) (λ a m us. and_then (read_turns t m us) (put a))) (got [] n ts)

  abbrev pub read_many : Reader (List A)
  read_many n ts = read_turns (length ts) n ts

-- Items while the next token passes the test, each with the separator behind it; it may be missing behind the last.
module _ {A : Type 0} (first separates : Kind → Bool) (p : Reader A) where
  abbrev pub put_next : A → Listed A → Reader (Listed A)
  put_next a rest n ts = got (next a rest) n ts

  -- what comes behind an item
  abbrev pub behind : Reader (Listed A) → A → Reader (Listed A)
  behind again a n [] = got (last a) n []
  behind again a n (k ∷ ts) = cond (separates k) (and_then (again (n + 1) ts) (put_next a)) (got (last a) n (k ∷ ts))

  abbrev pub read_list_turns : ℕ → Reader (Listed A)
  read_list_turns zero n ts = got none n ts
  read_list_turns (suc t) n ts = cond (begins first ts) (and_then (p n ts) (behind (read_list_turns t))) (got none n ts)

  abbrev pub read_listed : Reader (Listed A)
  read_listed n ts = read_list_turns (length ts) n ts

-- whether a separator ends the list behind a separator
abbrev pub ends_there : {A : Type 0} → Listed A → Bool
ends_there none = true
ends_there (last a) = false
ends_there (next a rest) = ends_there rest

-- whether a separator stands behind the last item
abbrev pub ends_separated : {A : Type 0} → Listed A → Bool
ends_separated none = false
ends_separated (last a) = false
ends_separated (next a rest) = ends_there rest

-- items, each with labels before it, and labels behind the last
pub data Labelled (L A : Type 0) : Type 0 where
  tail : L → Labelled L A
  item : L → A → Labelled L A → Labelled L A

-- Labels, and then items with labels behind each, while the next token passes the test.
module _ {L A : Type 0} (labels : Reader L) (first : Kind → Bool) (p : Reader A) where
  abbrev pub put_item : L → A → Labelled L A → Reader (Labelled L A)
  put_item l a rest n ts = got (item l a rest) n ts

  -- where these labels stand before
  abbrev pub read_label_turns : ℕ → L → Reader (Labelled L A)
  read_label_turns zero l n ts = got (tail l) n ts
  read_label_turns (suc t) l n ts =
      cond (begins first ts) (and_then (p n ts) (λ a m us. and_then (and_then (labels m us) (read_label_turns t)) (put_item l a))) (got (tail l) n ts)

  abbrev pub read_labelled : Reader (Labelled L A)
  read_labelled n ts = and_then (labels n ts) (λ l m us. read_label_turns (length us) l m us)
