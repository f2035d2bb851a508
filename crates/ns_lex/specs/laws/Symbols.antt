-- The piece at `#` is the next token.
use Rattle.std.proofs.Common.{◌≡◌, ◌≢◌, ℕ, suc, ◌+◌, ◌≤◌, ◌⊎◌, inl, inr, Bool, true, false, not, ◌==◌, cond, if◌then◌else◌, List, [], ◌∷◌, ◌++◌, length, take, refl, sym, ap, subst, ◌∙◌, append_assoc, length-append, arith}
use Rattle.std.proofs.Math.Seq.{take-append_seam}
use Rattle.std.proofs.lemmas.Bool.{eqb-true, eq-eqb}
use Rattle.std.proofs.lemmas.Bool.Decides.{nat_tests}
use Rattle.std.proofs.lemmas.List.{append-nil}
use Rattle.ns_base.specs.Spelling.{is_digit, begins_name, goes_on_name, is_operator_byte}
use Rattle.ns_tree.specs.declared.token.Kind.{Kind}
use Rattle.ns_tree.specs.declared.token.Kind.TheVariants as k
use Rattle.ns_lex.specs.Piece.{Text}
use Rattle.ns_lex.specs.Word.{name_len}
use Rattle.ns_lex.specs.Operator.{operator_len}
use Rattle.ns_lex.specs.Symbol.{symbol, selector_len, keys_from}
use Rattle.ns_lex.specs.declared.piece.Piece.TheVariants.{Token, Fault}
use Rattle.ns_lex.specs.declared.piece.Cause.TheVariants as cause
use Rattle.ns_lex.specs.Spells.{AllOf, IsIdentifierText, IsKeysText, IsOperator, SpellsToken}
use Rattle.ns_lex.specs.laws.Words.{IsToken, NoneLonger, longest_cut, moved, name_run, in_name, is_name, name_short}
use Rattle.ns_lex.specs.laws.Singles.{no_name, no_operator, first_not, same_first, no_slot_set, clash}
use Rattle.ns_lex.specs.lemmas.Operators.{operator_longest, operator_stands}

-- ---- what the machine says of keys

-- keys behind the first part of a name, or behind nothing
abbrev Behind : Bool → Text → Type 0
Behind false u = (ks : List Text) × IsKeysText u ks
Behind true u = (n v : Text) × AllOf goes_on_name n × (u ≡ n ++ 58 ∷ v) × ((v ≡ []) ⊎ ((ks : List Text) × IsKeysText v ks))

record Says (inside : Bool) (at : ℕ) (y : Text) (m : ℕ) : Type 0 where
  text : Text
  rest : Text
  cut : y ≡ text ++ rest
  place : m ≡ at + length text
  keys : Behind inside text

-- a colon ends a key
colon_ends : (at : ℕ) (z : Text) (m : ℕ) → (m ≡ at + 1) ⊎ Says false (at + 1) z m → Says true at (58 ∷ z) m
colon_ends at z m (inl e) = record { text = 58 ∷ []; rest = z; cut = refl; place = omega (arith, e); keys = ([], [], tt, refl, inl refl) }
colon_ends at z m (inr x) = record { text = 58 ∷ x.text; rest = x.rest; cut = ap (λ w. 58 ∷ w) x.cut; place = omega (arith, x.place); keys = ([], x.text, tt, refl, inr x.keys) }

-- a byte more of a name
name_goes : (far at b : ℕ) (z : Text) (m : ℕ) → goes_on_name b ≡ true → (m ≡ far) ⊎ Says true (at + 1) z m → (m ≡ far) ⊎ Says true at (b ∷ z) m
name_goes far at b z m h (inl e) = inl e
name_goes far at b z m h (inr x) = inr (record {
  text = b ∷ x.text;
  rest = x.rest;
  cut = ap (λ w. b ∷ w) x.cut;
  place = omega (arith, x.place);
  keys = (b ∷ x.keys.0, x.keys.1, (h, x.keys.2), ap (λ w. b ∷ w) x.keys.3, x.keys.4);
})

-- a key, and keys behind it
first_key : (n v : Text) → IsIdentifierText n → (v ≡ []) ⊎ ((ks : List Text) × IsKeysText v ks) → (ks : List Text) × IsKeysText (n ++ 58 ∷ v) ks
first_key n v name (inl e) = ((n ++ 58 ∷ []) ∷ [], ((n, name, refl), ap (λ w. n ++ 58 ∷ w) e))
first_key n v name (inr ([], x)) = absurd x
first_key n v name (inr (m ∷ ks, x)) = ((n ++ 58 ∷ []) ∷ m ∷ ks, ((n, name, refl), (v, sym (append_assoc n (58 ∷ []) v), x)))

-- a name begins
name_begins : (far at b : ℕ) (z : Text) (m : ℕ) → begins_name b ≡ true → (m ≡ far) ⊎ Says true (at + 1) z m → (m ≡ far) ⊎ Says false at (b ∷ z) m
name_begins far at b z m h (inl e) = inl e
name_begins far at b z m h (inr x) =
    let ks = first_key (b ∷ x.keys.0) x.keys.1 (h, x.keys.2) x.keys.4 in
    inr (record {
      text = b ∷ x.text;
      rest = x.rest;
      cut = ap (λ w. b ∷ w) x.cut;
      place = omega (arith, x.place);
      keys = (ks.0, subst (λ u. IsKeysText (b ∷ u) ks.0) (sym x.keys.3) ks.1);
    })

inside_by : (far at b : ℕ) (z : Text) (m : ℕ) (colon name : Bool) → (b == 58) ≡ colon → goes_on_name b ≡ name
    → (keys_from (at + 1) false (at + 1) z ≡ m → (m ≡ at + 1) ⊎ Says false (at + 1) z m) → (keys_from far true (at + 1) z ≡ m → (m ≡ far) ⊎ Says true (at + 1) z m)
    → (if colon then keys_from (at + 1) false (at + 1) z else (if name then keys_from far true (at + 1) z else far)) ≡ m → (m ≡ far) ⊎ Says true at (b ∷ z) m
inside_by far at b z m true name h g ended goes e = inr (subst (λ c. Says true at (c ∷ z) m) (sym (eqb-true b 58 h)) (colon_ends at z m (ended e)))
inside_by far at b z m false true h g ended goes e = name_goes far at b z m g (goes e)
inside_by far at b z m false false h g ended goes e = inl (sym e)

outside_by : (far at b : ℕ) (z : Text) (m : ℕ) (name : Bool) → begins_name b ≡ name → (keys_from far true (at + 1) z ≡ m → (m ≡ far) ⊎ Says true (at + 1) z m)
    → (if name then keys_from far true (at + 1) z else far) ≡ m → (m ≡ far) ⊎ Says false at (b ∷ z) m
outside_by far at b z m true h goes e = name_begins far at b z m h (goes e)
outside_by far at b z m false h goes e = inl (sym e)

says : (far : ℕ) (inside : Bool) (at : ℕ) (y : Text) (m : ℕ) → keys_from far inside at y ≡ m → (m ≡ far) ⊎ Says inside at y m
says far inside at [] m e = inl (sym e)
says far true at (b ∷ z) m e = inside_by far at b z m (b == 58) (goes_on_name b) refl refl (says (at + 1) false (at + 1) z m) (says far true (at + 1) z m) e
says far false at (b ∷ z) m e = outside_by far at b z m (begins_name b) refl (says far true (at + 1) z m) e

-- ---- how far it goes

pub no_colon : (b : ℕ) → goes_on_name b ≡ true → (b == 58) ≡ false
no_colon b h = grind (arith, nat_tests)

-- through a name and a colon
name_then : (far at : ℕ) (n q : Text) → AllOf goes_on_name n → keys_from far true at (n ++ 58 ∷ q) ≡ keys_from (at + length n + 1) false (at + length n + 1) q
name_then far at [] q h = ap (λ i. keys_from i false i q) (omega arith)
name_then far at (b ∷ n) q h =
    ap (λ v. if v then keys_from (at + 1) false (at + 1) (n ++ 58 ∷ q) else (if goes_on_name b then keys_from far true (at + 1) (n ++ 58 ∷ q) else far)) (no_colon b h.0)
    ∙ ap (λ v. if v then keys_from far true (at + 1) (n ++ 58 ∷ q) else far) h.0 ∙ name_then far (at + 1) n q h.1 ∙ ap (λ i. keys_from i false i q) (omega arith)

pub key_then : (far at : ℕ) (n q : Text) → IsIdentifierText n → keys_from far false at (n ++ 58 ∷ q) ≡ keys_from (at + length n + 1) false (at + length n + 1) q
key_then far at [] q h = absurd h
key_then far at (b ∷ n) q h = ap (λ v. if v then keys_from far true (at + 1) (n ++ 58 ∷ q) else far) h.0 ∙ name_then far (at + 1) n q h.1 ∙ ap (λ i. keys_from i false i q) (omega arith)

if_least : (v : Bool) (a b low : ℕ) → low ≤ a → low ≤ b → low ≤ (if v then a else b)
if_least true a b low h g = h
if_least false a b low h g = g

-- never back
keys_far : (far : ℕ) (inside : Bool) (at : ℕ) (y : Text) → far ≤ at → far ≤ keys_from far inside at y
keys_far far inside at [] h = omega arith
keys_far far true at (b ∷ z) h =
    if_least (b == 58) _ _ far (let f : at + 1 ≤ keys_from (at + 1) false (at + 1) z = keys_far (at + 1) false (at + 1) z (omega arith) in omega (arith, f, h)) (if_least (goes_on_name b) _ _ far (keys_far far true (at + 1) z (omega (arith, h))) (omega arith))
keys_far far false at (b ∷ z) h = if_least (begins_name b) _ _ far (keys_far far true (at + 1) z (omega (arith, h))) (omega arith)

-- behind keys
keys_reach : (far at : ℕ) (s : Text) (ks : List Text) (q : Text) → IsKeysText s ks → at + length s ≤ keys_from far false at (s ++ q)
keys_reach far at s [] q x = absurd x
keys_reach far at s (m ∷ []) q ((n, name, e), f) =
    let g : s ++ q ≡ n ++ 58 ∷ q = ap (λ w. w ++ q) (f ∙ e) ∙ append_assoc n (58 ∷ []) q in
    let size : length s ≡ length n + 1 = ap length (f ∙ e) ∙ length-append n (58 ∷ []) in
    let there : keys_from far false at (s ++ q) ≡ keys_from (at + length n + 1) false (at + length n + 1) q = ap (keys_from far false at) g ∙ key_then far at n q name in
    omega (arith, size, there, keys_far (at + length n + 1) false (at + length n + 1) q (omega arith))
keys_reach far at s (m ∷ l ∷ ks) q ((n, name, e), (u, f, x)) =
    let g : s ++ q ≡ n ++ 58 ∷ (u ++ q) = ap (λ w. w ++ q) (f ∙ ap (λ w. w ++ u) e) ∙ append_assoc (n ++ 58 ∷ []) u q ∙ append_assoc n (58 ∷ []) (u ++ q) in
    let size : length s ≡ length n + 1 + length u = ap length f ∙ length-append m u ∙ ap (λ i. i + length u) (ap length e ∙ length-append n (58 ∷ [])) in
    let there : keys_from far false at (s ++ q) ≡ keys_from (at + length n + 1) false (at + length n + 1) (u ++ q) = ap (keys_from far false at) g ∙ key_then far at n (u ++ q) name in
    omega (arith, size, there, keys_reach (at + length n + 1) (at + length n + 1) u (l ∷ ks) q x)

far_enough : (far at : ℕ) (b : ℕ) (z : Text) → goes_on_name b ≡ true → (keys_from far true (at + 1) z ≡ far) ⊎ (at + 1 + name_len z ≤ keys_from far true (at + 1) z)
    → (keys_from far true (at + 1) z ≡ far) ⊎ (at + name_len (b ∷ z) ≤ keys_from far true (at + 1) z)
far_enough far at b z h (inl e) = inl e
far_enough far at b z h (inr low) = inr (let size : name_len (b ∷ z) ≡ 1 + name_len z = ap (λ v. cond v (1 + name_len z) 0) h in omega (arith, size, low))

reach_by : (far at b : ℕ) (z : Text) (colon name : Bool) → (b == 58) ≡ colon → goes_on_name b ≡ name → (keys_from far true (at + 1) z ≡ far) ⊎ (at + 1 + name_len z ≤ keys_from far true (at + 1) z)
    → ((if colon then keys_from (at + 1) false (at + 1) z else (if name then keys_from far true (at + 1) z else far)) ≡ far)
    ⊎ (at + name_len (b ∷ z) ≤ (if colon then keys_from (at + 1) false (at + 1) z else (if name then keys_from far true (at + 1) z else far)))
reach_by far at b z true name h g r =
    let none : name_len (b ∷ z) ≡ 0 = ap (λ c. name_len (c ∷ z)) (eqb-true b 58 h) in
    inr (omega (arith, none, keys_far (at + 1) false (at + 1) z (omega arith)))
reach_by far at b z false true h g r = far_enough far at b z g r
reach_by far at b z false false h g r = inl refl

-- behind a name, where any key is found
name_reach : (far at : ℕ) (y : Text) → (keys_from far true at y ≡ far) ⊎ (at + name_len y ≤ keys_from far true at y)
name_reach far at [] = inl refl
name_reach far at (b ∷ z) = reach_by far at b z (b == 58) (goes_on_name b) refl refl (name_reach far (at + 1) z)

-- ---- selectors

-- what may stand behind `#`
abbrev pub IsSelector : Text → Type 0
IsSelector s = IsIdentifierText s ⊎ ((ks : List Text) × IsKeysText s ks) ⊎ IsOperator s

-- a selector that is found
record IsFound (y : Text) (n : ℕ) : Type 0 where
  fits : n ≤ length y
  form : IsSelector (take n y)

keys_found : (y : Text) (m : ℕ) → (m ≡ 0) ⊎ Says false 0 y m → (m == 0) ≡ false → IsFound y m
keys_found y m (inl e) h = absurd (let f : (m == 0) ≡ true = eq-eqb m 0 e in clash (m == 0) h f)
keys_found y m (inr x) h =
    let size : m ≡ length x.text = omega (arith, x.place) in
    let front : take m y ≡ x.text = ap (λ i. take i y) size ∙ ap (take (length x.text)) x.cut ∙ take-append_seam x.text x.rest in
    record {
      fits = omega (arith, size, ap length x.cut, length-append x.text x.rest);
      form = inr (inl (x.keys.0, subst (λ u. IsKeysText u x.keys.0) (sym front) x.keys.1));
    }

found_by : (b : ℕ) (y : Text) (oper starts none : Bool) (n : ℕ) → is_operator_byte b ≡ oper → begins_name b ≡ starts → (keys_from 0 false 0 (b ∷ y) == 0) ≡ none
    → (if oper then operator_len (b ∷ y) else (if starts then (if none then name_len (b ∷ y) else keys_from 0 false 0 (b ∷ y)) else 0)) ≡ n → n ≢ 0 → IsFound (b ∷ y) n
found_by b y true starts none n o s h e some =
    let t : IsToken (b ∷ y) (k.Oper (take (operator_len (b ∷ y)) (b ∷ y))) (operator_len (b ∷ y)) = operator_stands b y o in
    subst (IsFound (b ∷ y)) e (record { fits = t.size; form = inr (inr t.next.0.0) })
found_by b y false true true n o s h e some = subst (IsFound (b ∷ y)) e (record { fits = name_short (b ∷ y); form = inl (is_name b y s) })
found_by b y false true false n o s h e some = subst (IsFound (b ∷ y)) e (keys_found (b ∷ y) (keys_from 0 false 0 (b ∷ y)) (says 0 false 0 (b ∷ y) (keys_from 0 false 0 (b ∷ y)) refl) h)
found_by b y false false none n o s h e some = absurd (some (sym e))

selector_found : (y : Text) (n : ℕ) → selector_len y ≡ n → n ≢ 0 → IsFound y n
unfolding selector_len
selector_found [] n e some = absurd (some (sym e))
selector_found (b ∷ y) n e some = found_by b y (is_operator_byte b) (begins_name b) (keys_from 0 false 0 (b ∷ y) == 0) n refl refl refl e some

-- ---- none is longer

name_or_keys : (b : ℕ) (y : Text) (none : Bool) (m : ℕ) → (keys_from 0 false 0 (b ∷ y) == 0) ≡ none → begins_name b ≡ true → (m ≤ name_len (b ∷ y)) ⊎ (m ≤ keys_from 0 false 0 (b ∷ y))
    → m ≤ (if none then name_len (b ∷ y) else keys_from 0 false 0 (b ∷ y))
name_or_keys b y true m h s (inl low) = low
name_or_keys b y true m h s (inr low) = let f : keys_from 0 false 0 (b ∷ y) ≡ 0 = eqb-true (keys_from 0 false 0 (b ∷ y)) 0 h in omega (arith, low, f)
name_or_keys b y false m h s (inr low) = low
name_or_keys b y false m h s (inl low) =
    let begins : keys_from 0 false 0 (b ∷ y) ≡ keys_from 0 true 1 y = ap (λ v. if v then keys_from 0 true 1 y else 0) s in
    let size : name_len (b ∷ y) ≡ 1 + name_len y = ap (λ v. cond v (1 + name_len y) 0) (in_name b s) in
    elim (name_reach 0 1 y) [
      | inl none ↦ absurd (let f : (keys_from 0 false 0 (b ∷ y) == 0) ≡ true = eq-eqb (keys_from 0 false 0 (b ∷ y)) 0 (begins ∙ none) in clash (keys_from 0 false 0 (b ∷ y) == 0) h f)
      | inr far ↦ omega (arith, far, begins, size, low)
    ]

pub no_oper : (b : ℕ) → begins_name b ≡ true → is_operator_byte b ≡ false
no_oper b h = grind (arith, nat_tests)

pub name_start : (b : ℕ) (s n u : Text) → IsIdentifierText n → b ∷ s ≡ n ++ u → begins_name b ≡ true
name_start b s [] u h e = absurd h
name_start b s (c ∷ n) u h e = ap begins_name (same_first b c s (n ++ u) e) ∙ h.0

pub keys_start : (b : ℕ) (s : Text) (ks : List Text) → IsKeysText (b ∷ s) ks → begins_name b ≡ true
keys_start b s [] x = absurd x
keys_start b s (m ∷ []) ((n, name, e), f) = name_start b s n (58 ∷ []) name (f ∙ e)
keys_start b s (m ∷ l ∷ ks) ((n, name, e), (u, f, x)) = name_start b s n (58 ∷ u) name (f ∙ ap (λ w. w ++ u) e ∙ append_assoc n (58 ∷ []) u)

pub oper_start : (b : ℕ) (s : Text) → IsOperator (b ∷ s) → is_operator_byte b ≡ true
oper_start b s (inl o) = o.1.0
oper_start b s (inr e) = ap is_operator_byte (same_first b 60 s (58 ∷ []) e)

-- the length of a selector whose first byte begins a name
name_first : (b : ℕ) (y : Text) (m : ℕ) → begins_name b ≡ true → (m ≤ name_len (b ∷ y)) ⊎ (m ≤ keys_from 0 false 0 (b ∷ y)) → m ≤ selector_len (b ∷ y)
unfolding selector_len
name_first b y m s low =
    subst (λ v. m ≤ (if v then operator_len (b ∷ y) else (if begins_name b then (if keys_from 0 false 0 (b ∷ y) == 0 then name_len (b ∷ y) else keys_from 0 false 0 (b ∷ y)) else 0))) (sym (no_oper b s))
    (subst (λ v. m ≤ (if v then (if keys_from 0 false 0 (b ∷ y) == 0 then name_len (b ∷ y) else keys_from 0 false 0 (b ∷ y)) else 0)) (sym s)
    (name_or_keys b y (keys_from 0 false 0 (b ∷ y) == 0) m refl s low))

oper_first : (b : ℕ) (y : Text) (m : ℕ) → is_operator_byte b ≡ true → m ≤ operator_len (b ∷ y) → m ≤ selector_len (b ∷ y)
unfolding selector_len
oper_first b y m o low = subst (λ v. m ≤ (if v then operator_len (b ∷ y) else (if begins_name b then (if keys_from 0 false 0 (b ∷ y) == 0 then name_len (b ∷ y) else keys_from 0 false 0 (b ∷ y)) else 0))) (sym o) low

keys_first : (s : Text) (ks : List Text) (q : Text) → IsKeysText s ks → length s ≤ selector_len (s ++ q)
keys_first [] ks q x = omega arith
keys_first (b ∷ s) ks q x = name_first b (s ++ q) (length (b ∷ s)) (keys_start b s ks x) (inr (omega (arith, keys_reach 0 0 (b ∷ s) ks q x)))

-- No selector is longer than the one that is found.
pub selector_longest : (s q : Text) → IsSelector s → length s ≤ selector_len (s ++ q)
selector_longest [] q x = omega arith
selector_longest (b ∷ s) q (inl name) = name_first b (s ++ q) (length (b ∷ s)) name.0 (inl (omega (arith, name_run (b ∷ s) q name)))
selector_longest (b ∷ s) q (inr (inl (ks, x))) = keys_first (b ∷ s) ks q x
selector_longest (b ∷ s) q (inr (inr o)) =
    let first : is_operator_byte b ≡ true = oper_start b s o in
    oper_first b (s ++ q) (length (b ∷ s)) first (operator_longest b (s ++ q) first (b ∷ s) q (k.Oper (b ∷ s)) refl (o, refl))

-- ---- tokens

pub is_other : ℕ → Bool
is_other b = not (b == 35)

pub at_mark : {G : Type 0} (b : ℕ) (p : Text) (t : Kind) → b ≡ 35 → SpellsToken (b ∷ p) t → ((s : Text) → IsSelector s → p ≡ s → G) → G
unfolding is_other
at_mark b p (k.Ident s) h (name, e, f) go = absurd (no_name b p s [] (ap begins_name h) name (e ∙ sym (append-nil s)))
at_mark b p (k.Word w) h (name, f) go = absurd (no_name b p (b ∷ p) [] (ap begins_name h) name (sym (append-nil (b ∷ p))))
at_mark b p (k.Key s) h ((m, name, cut), e) go = absurd (no_name b p m (58 ∷ []) (ap begins_name h) name (e ∙ cut))
at_mark b p (k.SetKey s) h (name, e) go = absurd (no_name b p s (58 ∷ 58 ∷ []) (ap begins_name h) name e)
at_mark b p (k.Oper s) h (o, e) go = absurd (no_operator b p s (ap is_operator_byte h) o e)
at_mark b p (k.Number v) h x go = absurd (clash (is_digit b) (ap is_digit h) x.1.0)
at_mark b p (k.Str s) h x go = absurd (first_not is_other b 39 p _ (ap is_other h) refl x)
at_mark b p (k.Symbol s) h x go = go s x.0 (let f : p ≡ s = cc (x.1) in f)
at_mark b p _ h x go = absurd (first_not is_other b _ p _ (ap is_other h) refl x)

longest_symbol : (b : ℕ) (y : Text) → b ≡ 35 → NoneLonger (selector_len y + 1) (b ∷ y)
longest_symbol b y h [] r t cut x = omega arith
longest_symbol b y h (c ∷ p) r t cut x =
    let same_byte : b ≡ c = same_first b c y (p ++ r) cut in
    let rest : y ≡ p ++ r = cc in
    at_mark c p t (sym same_byte ∙ h) x
    (λ s form e. let low : length s ≤ selector_len (s ++ r) = selector_longest s r form in let f : selector_len (s ++ r) ≡ selector_len y = ap (λ w. selector_len (w ++ r)) (sym e) ∙ ap selector_len (sym rest) in omega (arith, low, f, ap length e))

symbol_at : (b : ℕ) (y : Text) (n : ℕ) → b ≡ 35 → selector_len y ≡ n → n ≢ 0 → IsToken (b ∷ y) (k.Symbol (take n y)) (n + 1)
symbol_at b y n h e some =
    let x : IsFound y n = selector_found y n e some in
    let steps : n + 1 ≡ suc n = omega arith in
    let fits : n + 1 ≤ length (b ∷ y) = omega (arith, x.fits) in
    record {
      size = fits;
      next = (
        (x.form, ap (λ i. take i (b ∷ y)) steps ∙ ap (λ c. c ∷ take n y) h),
        inr (longest_cut (b ∷ y) (n + 1) fits (subst (λ i. NoneLonger (i + 1) (b ∷ y)) e (longest_symbol b y h)), no_slot_set b y (n + 1) (ap begins_name h)),
      );
    }

symbol_by : (b : ℕ) (y : Text) (n : ℕ) (none : Bool) (t : Kind) (m : ℕ) → b ≡ 35 → selector_len y ≡ n → (n == 0) ≡ none → (if none then Fault cause.BadByte 0 else Token (k.Symbol (take n y)) (n + 1)) ≡ Token t m → IsToken (b ∷ y) t m
symbol_by b y n true t m h e z f = absurd cc
symbol_by b y n false t m h e z f = moved (b ∷ y) (k.Symbol (take n y)) t (n + 1) m f (symbol_at b y n h e (λ q. clash (n == 0) z (eq-eqb n 0 q)))

-- The piece at `#` is the next token.
pub symbol_token : (b : ℕ) (y : Text) (t : Kind) (m : ℕ) → b ≡ 35 → symbol (b ∷ y) ≡ Token t m → IsToken (b ∷ y) t m
unfolding symbol
symbol_token b y t m h f = symbol_by b y (selector_len y) (selector_len y == 0) t m h refl refl f
