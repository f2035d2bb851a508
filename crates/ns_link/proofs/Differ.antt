-- Names that are declared once are different, in whatever order they stand.
use Rattle.std.proofs.Common.{◌≡◌, ◌≤◌, ℕ, zero, suc, List, [], ◌∷◌, ◌++◌, length, refl, sym, ap, ◌∙◌, arith}
use Rattle.std.specs.Prelude.{Bool, true, false, not, ◌&&◌, ◌||◌, Option, Some, None, map, slice_get, if◌then◌else◌}
use Rattle.std.specs.List.{list_any}
use Rattle.std.specs.Option.{is_some}
use Rattle.std.specs.Str.{bytes_eq}
use Rattle.std.proofs.lemmas.Slice.Eq.{bytes_eq-Decides}
use Rattle.std.specs.Bool.{Decides}
use Rattle.ns_scope.specs.declared.names.Declared.{Declared}
use Rattle.ns_scope.specs.Table.{TableOf, look_up, has, put_first}
use Rattle.ns_code.specs.Soundness.{are_different}
use Rattle.ns_static_rules.specs.declared.fault.StaticCause.{StaticCause}
use Rattle.ns_static_rules.specs.declared.fault.StaticCause.TheVariants as c
use Rattle.ns_static_rules.specs.declared.fault.Many.{Many}
use Rattle.ns_static_rules.specs.Rules.{found_if, found_at, found_past, found_repeated}
use Rattle.ns_link.proofs.Faults.{empty_left, empty_right}

-- ---- not too many

at_none : (place : Option ℕ) (cause : StaticCause) → found_at place cause ≡ [] → place ≡ None
at_none None cause e = refl
at_none (Some at) cause e = absurd (let f : (at, cause) ∷ [] ≡ [] = e in cc)

none_at : {A : Type 0} → (items : List A) (most : ℕ) → slice_get items most ≡ None → length items ≤ most
none_at [] most e = omega arith
none_at (item ∷ items) zero e = absurd (let f : Some item ≡ None = e in cc)
none_at (item ∷ items) (suc most) e = let f = none_at items most e in omega (f, arith)

-- where nothing is found past so many, there are no more
pub not_past : (most : ℕ) (kind : Many) (places : List ℕ) → found_past most kind places ≡ [] → length places ≤ most
not_past most kind places e = none_at places most (at_none (slice_get places most) (c.TooMany kind) e)

-- ---- booleans

pub if_none : (wrong : Bool) (at : ℕ) (cause : StaticCause) → found_if wrong at cause ≡ [] → wrong ≡ false
if_none false at cause e = refl
if_none true at cause e = absurd (let f : (at, cause) ∷ [] ≡ [] = e in cc)

pub or_left : (x y : Bool) → (x || y) ≡ false → x ≡ false
or_left false y h = refl
or_left true y h = h

pub or_right : (x y : Bool) → (x || y) ≡ false → y ≡ false
or_right false y h = h
or_right true y h = absurd (let f : true ≡ false = h in cc)

pub or_none : (x y : Bool) → x ≡ false → y ≡ false → (x || y) ≡ false
or_none x y e f = ap (λ b. b || y) e ∙ f

pub and_left : (x y : Bool) → (x && y) ≡ true → x ≡ true
and_left true y h = refl
and_left false y h = h

pub and_right : (x y : Bool) → (x && y) ≡ true → y ≡ true
and_right true y h = h
and_right false y h = absurd (let f : false ≡ true = h in cc)

pub not_true : (x : Bool) → not x ≡ true → x ≡ false
not_true false h = refl
not_true true h = absurd (let f : false ≡ true = h in cc)

pub and_is : (x y : Bool) → x ≡ false → y ≡ true → (not x && y) ≡ true
and_is x y e f = ap (λ b. not b && y) e ∙ f

decided_same : (x y : Bool) {P Q : Type 0} → Decides x P → Decides y Q → (P → Q) → (Q → P) → x ≡ y
decided_same true true p q f g = refl
decided_same false false p q f g = refl
decided_same true false p q f g = sym (q.1 (f (p.0 refl)))
decided_same false true p q f g = p.1 (g (q.0 refl))

pub same_turned : (a b : List ℕ) → bytes_eq a b ≡ bytes_eq b a
same_turned a b = decided_same (bytes_eq a b) (bytes_eq b a) (bytes_eq-Decides a b) (bytes_eq-Decides b a) sym sym

-- ---- tables

some_further : {V : Type 0} → (text name : List ℕ) (value : V) (table : TableOf V) →
    is_some (look_up (table ++ (name, value) ∷ []) text) ≡ (is_some (look_up table text) || bytes_eq text name)
some_further text name value [] = by (bytes_eq text name) where
  by : (same : Bool) → is_some (if same then Some value else None) ≡ (false || same)
  by true = refl
  by false = refl
some_further text name value (entry ∷ table) = by (bytes_eq text entry.0) (some_further text name value table) where
  by : (same : Bool) → is_some (look_up (table ++ (name, value) ∷ []) text) ≡ (is_some (look_up table text) || bytes_eq text name) →
      is_some (if same then Some entry.1 else look_up (table ++ (name, value) ∷ []) text) ≡ (is_some (if same then Some entry.1 else look_up table text) || bytes_eq text name)
  by true rest = refl
  by false rest = rest

-- a name that isn't there is put in
has_put : {V : Type 0} → (table : TableOf V) (text name : List ℕ) (value : V) → has table name ≡ false →
    has (put_first table name value) text ≡ (has table text || bytes_eq text name)
has_put table text name value e =
    ap (λ b. has (if b then table else table ++ (name, value) ∷ []) text) e ∙ some_further text name value table

-- ---- what is declared once

abbrev pub names_of : {V : Type 0} → List (Declared V) → List (List ℕ)
names_of declared = map (λ d. d.name) declared

-- none of these names is in the table
abbrev NoneIn : {V : Type 0} → TableOf V → List (List ℕ) → Type 0
NoneIn table [] = Unit {0}
NoneIn table (name ∷ names) = (has table name ≡ false) × NoneIn table names

none_in : {V : Type 0} → (cause : StaticCause) (declared : List (Declared V)) (seen : TableOf V) → found_repeated cause seen declared ≡ [] →
    NoneIn seen (names_of declared) × (are_different (names_of declared) ≡ true)
none_in cause [] seen e = (tt, refl)
none_in cause (d ∷ rest) seen e =
    let new = if_none (has seen d.name) d.at cause (empty_left (found_if (has seen d.name) d.at cause) (found_repeated cause (put_first seen d.name d.value) rest) e) in
    let further = none_in cause rest (put_first seen d.name d.value) (empty_right (found_if (has seen d.name) d.at cause) (found_repeated cause (put_first seen d.name d.value) rest) e) in
    ((new, before new (names_of rest) further.0), and_is (list_any (bytes_eq d.name) (names_of rest)) (are_different (names_of rest)) (none_same new (names_of rest) further.0) further.1) where
      before : has seen d.name ≡ false → (names : List (List ℕ)) → NoneIn (put_first seen d.name d.value) names → NoneIn seen names
      before new [] h = tt
      before new (name ∷ names) h =
          (or_left (has seen name) (bytes_eq name d.name) (sym (has_put seen name d.name d.value new) ∙ h.0), before new names h.1)

      none_same : has seen d.name ≡ false → (names : List (List ℕ)) → NoneIn (put_first seen d.name d.value) names → list_any (bytes_eq d.name) names ≡ false
      none_same new [] h = refl
      none_same new (name ∷ names) h =
          or_none (bytes_eq d.name name) (list_any (bytes_eq d.name) names)
          (same_turned d.name name ∙ or_right (has seen name) (bytes_eq name d.name) (sym (has_put seen name d.name d.value new) ∙ h.0))
          (none_same new names h.1)

pub declared_differ : {V : Type 0} → (cause : StaticCause) (declared : List (Declared V)) → found_repeated cause [] declared ≡ [] →
    are_different (names_of declared) ≡ true
declared_differ cause declared e = (none_in cause declared [] e).1
