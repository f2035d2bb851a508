-- Names and their numbers; and what may be asked may be begun.
use Rattle.std.proofs.Common.{◌≡◌, ℕ, zero, suc, ◌+◌, ◌-◌, ◌<◌, ◌≤◌, ◌⊎◌, inl, inr, List, [], ◌∷◌, length, refl, ap, sym, ◌∙◌, arith}
use Rattle.std.proofs.Common.{Bool, true, false, cond, Option, Some, None, SomeIff, IfSome, Contains, subst}
use Rattle.std.proofs.lemmas.Bool.{lt-ltb}
use Rattle.std.proofs.lemmas.List.{get_or_default}
use Rattle.std.proofs.lemmas.Slice.Eq.{bytes_eq-Decides}
use Rattle.std.specs.List.{slice_index_or}
use Rattle.std.specs.Str.{bytes_eq}
use Rattle.ns_base.specs.declared.selector.Sel.{Sel}
use Rattle.ns_code.specs.declared.program.CodeProgram.{CodeProgram}
use Rattle.ns_code.specs.Selector.{own_text_at, selector_text, text_arity, is_selector_number, name_number}
use Rattle.ns_world.specs.declared.value.Value.{Value}
use Rattle.ns_moves.specs.State.{State}
use Rattle.ns_moves.specs.Beginning.{MayBegin}
use Rattle.ns_machine.specs.Asking.{named, MayAsk}

-- ---- names

-- A number, counted from a first one on, is that of a text among names.
pub record IsThere (names : List (List ℕ)) (first number : ℕ) (text : List ℕ) : Type 0 where
  pub place : ℕ
  pub inside : place < length names
  pub number_is : number ≡ first + place
  pub text_is : slice_index_or names place [] ≡ text

one_more : (name : List ℕ) (names : List (List ℕ)) (first number : ℕ) (text : List ℕ) → IsThere names (first + 1) number text
    → IsThere (name ∷ names) first number text
one_more name names first number text is =
    record { place = suc is.place; inside = omega (arith, is.inside); number_is = omega (arith, is.number_is); text_is = is.text_is }

-- the number of a text is that of such a name, or the other number
found : (names : List (List ℕ)) (first : ℕ) (text : List ℕ) (other : ℕ)
    → IsThere names first (name_number names first text other) text ⊎ (name_number names first text other ≡ other)
found [] first text other = inr refl
found (name ∷ names) first text other = tested (bytes_eq name text) refl (found names (first + 1) text other)
  where
    tested : (b : Bool) → bytes_eq name text ≡ b
        → IsThere names (first + 1) (name_number names (first + 1) text other) text ⊎ (name_number names (first + 1) text other ≡ other)
        → IsThere (name ∷ names) first (cond b first (name_number names (first + 1) text other)) text
        ⊎ (cond b first (name_number names (first + 1) text other) ≡ other)
    tested true t rest =
        inl (record { place = 0; inside = omega arith; number_is = omega arith; text_is = (bytes_eq-Decides name text).0 t })
    tested false t (inl is) = inl (one_more name names first (name_number names (first + 1) text other) text is)
    tested false t (inr is) = inr is

-- the number of a text that stands at a place is none behind it
before : (names : List (List ℕ)) (first place : ℕ) (text : List ℕ) (other : ℕ) → place < length names →
    slice_index_or names place text ≡ text
    → name_number names first text other ≤ first + place
before [] first place text other inside is = absurd (omega (arith, inside))
before (name ∷ names) first zero text other inside is =
    let same : bytes_eq name text ≡ true = (bytes_eq-Decides name text).1 is in
    let whole : name_number (name ∷ names) first text other ≡ first = ap (λ b. cond b first (name_number names (first + 1) text other)) same in
    omega (arith, whole)
before (name ∷ names) first (suc place) text other inside is =
    tested (bytes_eq name text) refl (before names (first + 1) place text other (omega (arith, inside)) is)
  where
    tested : (b : Bool) → bytes_eq name text ≡ b → name_number names (first + 1) text other ≤ first + 1 + place
        → cond b first (name_number names (first + 1) text other) ≤ first + suc place
    tested true t rest = omega arith
    tested false t rest = omega (arith, rest)

-- a number below that of all names is that of a name
at_number : (names : List (List ℕ)) (text : List ℕ) → name_number names 0 text (length names) < length names
    → slice_index_or names (name_number names 0 text (length names)) [] ≡ text
at_number names text below = chosen (found names 0 text (length names))
  where
    chosen : IsThere names 0 (name_number names 0 text (length names)) text ⊎ (name_number names 0 text (length names) ≡ length names)
        → slice_index_or names (name_number names 0 text (length names)) [] ≡ text
    chosen (inl is) =
        let here : name_number names 0 text (length names) ≡ is.place = omega (arith, is.number_is) in
        ap (λ k. slice_index_or names k []) here ∙ is.text_is
    chosen (inr is) = absurd (omega (arith, below, is))

pub is_name : (names : List (List ℕ)) (text : List ℕ) → name_number names 0 text (length names) < length names → Contains names text
is_name names text below =
    let number = name_number names 0 text (length names) in
    (number, below, get_or_default names number text [] below ∙ at_number names text below)

pub has_number : (names : List (List ℕ)) (text : List ℕ) → Contains names text → name_number names 0 text (length names) < length names
has_number names text has = omega (arith, before names 0 has.0 text (length names) has.1 has.2, has.1)

-- ---- selectors

text_of_number : (code : CodeProgram) (number : ℕ) → number < length code.names →
    selector_text code number ≡ slice_index_or code.names number []
text_of_number code number inside =
    ap (λ b. cond b (slice_index_or code.names number []) (own_text_at (number - length code.names))) (lt-ltb number (length code.names) inside)

is_selector : (code : CodeProgram) (number : ℕ) → number < length code.names → is_selector_number code number ≡ true
is_selector code number inside = rw (lt-ltb number (length code.names) inside) refl

-- what may be asked may be begun
pub may_begin : (code : CodeProgram) (state : State) (receiver : Value) (name : List ℕ) (arguments : List Value)
    → MayAsk code state receiver name arguments → MayBegin code receiver (named code name) arguments state
may_begin code state receiver name arguments may =
    let inside = has_number code.names name may.selector.has_name in
    record {
      idle = may.idle;
      live = may.live;
      fits = record {
        selector = is_selector code (named code name).0 inside;
        arity =
            sym may.selector.arity
            ∙ ap text_arity (sym (text_of_number code (named code name).0 inside ∙ at_number code.names name inside));
        live = may.all_live;
      };
      few = may.selector.few;
    }

pub begins : (code : CodeProgram) (state : State) (receiver : Value) (name : List ℕ) (arguments : List Value) (o : Option Sel)
    → SomeIff o (MayAsk code state receiver name arguments) (named code name) → IfSome o (λ sel. MayBegin code receiver sel arguments state)
begins code state receiver name arguments None is = tt
begins code state receiver name arguments (Some sel) is =
    subst (λ (sel : Sel). MayBegin code receiver sel arguments state) (sym is.1) (may_begin code state receiver name arguments is.0)

-- a test for one thing is a test for another that is as true
pub some_for : {T : Type 0} (P Q : Type 0) (o : Option T) (v : T) → SomeIff o P v → (P → Q) → (Q → P) → SomeIff o Q v
some_for P Q None v is on back = λ q. is (back q)
some_for P Q (Some x) v is on back = (on is.0, is.1)
