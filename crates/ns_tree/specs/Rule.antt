-- Rules of a grammar, and how they are put together. A rule says which values it gives, what spells each of them,
-- and what may begin such a spelling. Nothing here reads: a value is written out.
use Rattle.std.specs.Prelude.{◌≡◌, ℕ, ◌+◌, ◌⊎◌, List, [], ◌∷◌, ◌++◌, length, Option, Some, None, Bool, if◌then◌else◌}
use Rattle.std.proofs.Common.{inl, inr}
use Rattle.ns_tree.specs.declared.token.Kind.{Kind}

-- `flat a` is the spelling of a. `Good n a` says that the rule gives a, and that each place in a is the number of
-- its token, where the first token has the number n. `Front n f` says that f is a front of the rule: nothing, or
-- the first parts of a form, each whole, and then a front of the next part.
pub record Rule (A : Type 0) : Type 1 where
  pub flat : A → List Kind
  pub Good : ℕ → A → Type 0
  pub Front : ℕ → List Kind → Type 0

-- a token whose value, made of its number and kind, is kept
abbrev pub one : {A : Type 0} → (ℕ → Kind → Option A) → (A → Kind) → Rule A
one make kind = record {
  flat = λ a. kind a ∷ [];
  Good = λ n a. make n (kind a) ≡ Some a;
  Front = λ n f. (f ≡ []) ⊎ ((a : _) × (make n (kind a) ≡ Some a) × (f ≡ kind a ∷ []));
}

-- a token of which nothing is kept
abbrev pub token : Kind → Rule (Unit {0})
token kind = record {
  flat = λ _. kind ∷ [];
  Good = λ n _. Unit {0};
  Front = λ n f. (f ≡ []) ⊎ (f ≡ kind ∷ []);
}

-- one rule, and then another
infixr 20 ◌&◌
abbrev pub ◌&◌ : {A B : Type 0} → Rule A → Rule B → Rule (A × B)
r & s = record {
  flat = λ p. r.flat p.0 ++ s.flat p.1;
  Good = λ n p. r.Good n p.0 × s.Good (n + length (r.flat p.0)) p.1;
  Front = λ n f. r.Front n f ⊎ ((a : _) × (g : List Kind) × r.Good n a × s.Front (n + length (r.flat a)) g × (f ≡ r.flat a ++ g));
}

-- a rule any number of times
module _ {A : Type 0} (r : Rule A) where
  abbrev pub flat_all : List A → List Kind
  flat_all [] = []
  flat_all (a ∷ rest) = r.flat a ++ flat_all rest

  abbrev pub GoodAll : ℕ → List A → Type 0
  GoodAll n [] = Unit {0}
  GoodAll n (a ∷ rest) = r.Good n a × GoodAll (n + length (r.flat a)) rest

  abbrev pub many : Rule (List A)
  many = record {
    flat = flat_all;
    Good = GoodAll;
    Front = λ n f. (whole : List A) × (g : List Kind) × GoodAll n whole × ((g ≡ []) ⊎ r.Front (n + length (flat_all whole)) g) × (f ≡ flat_all whole ++ g);
  }

-- a rule once or not at all
module _ {A : Type 0} (r : Rule A) where
  abbrev pub flat_option : Option A → List Kind
  flat_option None = []
  flat_option (Some a) = r.flat a

  abbrev pub GoodOption : ℕ → Option A → Type 0
  GoodOption n None = Unit {0}
  GoodOption n (Some a) = r.Good n a

  abbrev pub maybe : Rule (Option A)
  maybe = record { flat = flat_option; Good = GoodOption; Front = λ n f. (f ≡ []) ⊎ r.Front n f }

-- one rule or another
module _ {A B : Type 0} (r : Rule A) (s : Rule B) where
  abbrev pub flat_either : A ⊎ B → List Kind
  flat_either (inl a) = r.flat a
  flat_either (inr b) = s.flat b

  abbrev pub GoodEither : ℕ → A ⊎ B → Type 0
  GoodEither n (inl a) = r.Good n a
  GoodEither n (inr b) = s.Good n b

  abbrev pub either : Rule (A ⊎ B)
  either = record { flat = flat_either; Good = GoodEither; Front = λ n f. r.Front n f ⊎ s.Front n f }

-- the same spellings for other values: those that come from a value of the rule
module _ {A B : Type 0} (from : B → Option A) (r : Rule A) where
  abbrev pub flat_from : Option A → List Kind
  flat_from None = []
  flat_from (Some a) = r.flat a

  abbrev pub GoodFrom : ℕ → Option A → Type 0
  GoodFrom n None = ⊥
  GoodFrom n (Some a) = r.Good n a

  abbrev pub mapped : Rule B
  mapped = record { flat = λ b. flat_from (from b); Good = λ n b. GoodFrom n (from b); Front = r.Front }

-- a rule's value with the number of its first token
abbrev pub placed : {A : Type 0} → Rule A → Rule (ℕ × A)
placed r = record { flat = λ p. r.flat p.1; Good = λ n p. (p.0 ≡ n) × r.Good n p.1; Front = r.Front }

-- items with a separator between two, and one that may stand behind the last
pub data Listed (A : Type 0) : Type 0 where
  none : Listed A
  last : A → Listed A
  next : A → Listed A → Listed A

module _ {A : Type 0} (r : Rule A) (separator : Kind) where
  abbrev pub flat_listed : Listed A → List Kind
  flat_listed none = []
  flat_listed (last a) = r.flat a
  flat_listed (next a rest) = r.flat a ++ separator ∷ flat_listed rest

  abbrev pub GoodListed : ℕ → Listed A → Type 0
  GoodListed n none = Unit {0}
  GoodListed n (last a) = r.Good n a
  GoodListed n (next a rest) = r.Good n a × GoodListed (n + length (r.flat a) + 1) rest

  -- items, each with its separator
  abbrev pub flat_items : List A → List Kind
  flat_items [] = []
  flat_items (a ∷ rest) = r.flat a ++ separator ∷ flat_items rest

  abbrev pub GoodItems : ℕ → List A → Type 0
  GoodItems n [] = Unit {0}
  GoodItems n (a ∷ rest) = r.Good n a × GoodItems (n + length (r.flat a) + 1) rest

  abbrev pub listed : Rule (Listed A)
  listed = record {
    flat = flat_listed;
    Good = GoodListed;
    Front = λ n f. (whole : List A) × (g : List Kind) × GoodItems n whole
        × ((g ≡ []) ⊎ r.Front (n + length (flat_items whole)) g) × (f ≡ flat_items whole ++ g);
  }

-- ---- put together from these

-- a token, and then a rule
infixr 20 ◌▸◌
abbrev pub ◌▸◌ : {A : Type 0} → Kind → Rule A → Rule A
kind ▸ r = mapped (λ a. Some (tt, a)) (token kind & r)

-- a rule, and then a token
infixl 25 ◌◂◌
abbrev pub ◌◂◌ : {A : Type 0} → Rule A → Kind → Rule A
r ◂ kind = mapped (λ a. Some (a, tt)) (r & token kind)

-- a rule once or more
abbrev pub once_or_more : {A : Type 0} → Rule A → Rule (A × List A)
once_or_more r = r & many r

-- a token, or not: whether it is there
abbrev pub flag : Kind → Rule Bool
flag kind = mapped (λ there. Some (if there then Some tt else None)) (maybe (token kind))
