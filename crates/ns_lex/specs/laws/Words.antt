-- The piece at a name is the longest token.
use Rattle.std.proofs.Common.{◌≡◌, ℕ, suc, ◌+◌, ◌≤◌, ◌<◌, ◌⊎◌, inl, inr, Bool, true, false, ◌≢◌, ◌==◌, ◌||◌, cond, [], ◌∷◌, ◌++◌, length, take, drop, get_or, drop-cons, Option, Some, None, refl, sym, ap, subst, ◌∙◌, append_assoc, length-append, arith}
use Rattle.std.proofs.lemmas.Bool.Decides.{nat_tests}
use Rattle.std.specs.List.{prefix_len}
use Rattle.std.proofs.lemmas.List.{get_or_past, take_more, take-append-drop, length-take}
use Rattle.std.proofs.lemmas.Bool.{eqb-true, eq-eqb}
use Rattle.std.proofs.lemmas.List.Sums.{prefix_len-le-length}
use Rattle.ns_base.specs.Spelling.{is_digit, begins_name, goes_on_name, is_operator_byte}
use Rattle.ns_tree.specs.declared.token.Reserved.{Reserved}
use Rattle.ns_tree.specs.declared.token.Kind.{Kind}
use Rattle.ns_tree.specs.declared.token.Kind.TheVariants as k
use Rattle.ns_lex.specs.Bytes.{is_in}
use Rattle.ns_lex.specs.declared.bytes.ByteClass.TheVariants as class
use Rattle.ns_lex.specs.Piece.{Text}
use Rattle.ns_lex.specs.Word.{reserved, name_len, word, word_by, named}
use Rattle.ns_lex.specs.declared.piece.Piece.TheVariants.{Token}
use Rattle.ns_lex.specs.Spells.{AllOf, IsIdentifierText, SpellsToken}
use Rattle.ns_lex.specs.Lexes.{SpellsInText, Longest, BeforeSlotSet, IsNext}
use Rattle.ns_lex.specs.laws.Stands.{stands_spells}

-- a byte that begins a name begins no other token
not_operator : (b : ℕ) → begins_name b ≡ true → is_operator_byte b ≡ true → ⊥
not_operator b h o = grind (arith, nat_tests)

not_digit : (b : ℕ) → begins_name b ≡ true → is_digit b ≡ true → ⊥
not_digit b h o = grind (arith, nat_tests)

pub run_all : (p : ℕ → Bool) (t z : Text) → AllOf p t → prefix_len p (t ++ z) ≡ length t + prefix_len p z
run_all p [] z h = omega arith
run_all p (b ∷ t) z h = ap (λ v. cond v (1 + prefix_len p (t ++ z)) 0) h.0 ∙ omega (arith, run_all p t z h.1)

pub in_name : (b : ℕ) → begins_name b ≡ true → goes_on_name b ≡ true
in_name b h = ap (λ v. v || is_digit b) h

pub name_run : (n z : Text) → IsIdentifierText n → name_len (n ++ z) ≡ length n + name_len z
name_run [] z h = absurd h
name_run (b ∷ n) z h = run_all goes_on_name (b ∷ n) z (in_name b h.0, h.1)

not_byte : (b c : ℕ) (p q : Text) → begins_name b ≡ true → b ∷ p ≡ c ∷ q → begins_name c ≡ false → ⊥
not_byte b c p q h e f = let same : b ≡ c = cc in let g : begins_name b ≡ begins_name c = ap begins_name same in absurd cc

-- how far a token that begins with a byte of a name goes beside the longest name
pub data Shape (z : Text) (len : ℕ) : Type 0 where
  within : len ≤ name_len z → Shape z len
  one_colon : len ≡ name_len z + 1 → get_or z (name_len z) 0 ≡ 58 → Shape z len
  two_colons : len ≡ name_len z + 2 → get_or z (name_len z) 0 ≡ 58 → get_or z (name_len z + 1) 0 ≡ 58 → Shape z len

-- a name and a byte that is in none
pub name_end : (n : Text) (c : ℕ) (z : Text) → IsIdentifierText n → goes_on_name c ≡ false → name_len (n ++ c ∷ z) ≡ length n
name_end n c z h out = omega (arith, name_run n (c ∷ z) h, ap (λ v. cond v (1 + name_len z) 0) out)

pub at_end : (n u : Text) (i : ℕ) → get_or (n ++ u) (length n + i) 0 ≡ get_or u i 0
at_end [] u i = ap (λ j. get_or u j 0) (omega arith)
at_end (b ∷ n) u i = ap (λ j. get_or (b ∷ (n ++ u)) j 0) (let e : length (b ∷ n) + i ≡ suc (length n + i) = omega arith in e) ∙ at_end n u i

name_shape : (n z : Text) → IsIdentifierText n → Shape (n ++ z) (length n)
name_shape n z h = within (omega (arith, name_run n z h))

key_shape : (n z : Text) → IsIdentifierText n → Shape (n ++ 58 ∷ z) (length n + 1)
key_shape n z h =
    let e : name_len (n ++ 58 ∷ z) ≡ length n = name_end n 58 z h refl in
    one_colon (omega (arith, e)) (ap (λ j. get_or (n ++ 58 ∷ z) j 0) (let f : name_len (n ++ 58 ∷ z) ≡ length n + 0 = omega (arith, e) in f) ∙ at_end n (58 ∷ z) 0)

set_shape : (n z : Text) → IsIdentifierText n → Shape (n ++ 58 ∷ 58 ∷ z) (length n + 2)
set_shape n z h =
    let e : name_len (n ++ 58 ∷ 58 ∷ z) ≡ length n = name_end n 58 (58 ∷ z) h refl in
    two_colons (omega (arith, e)) (ap (λ j. get_or (n ++ 58 ∷ 58 ∷ z) j 0) (let f : name_len (n ++ 58 ∷ 58 ∷ z) ≡ length n + 0 = omega (arith, e) in f) ∙ at_end n (58 ∷ 58 ∷ z) 0)
    (ap (λ j. get_or (n ++ 58 ∷ 58 ∷ z) j 0) (let f : name_len (n ++ 58 ∷ 58 ∷ z) + 1 ≡ length n + 1 = omega (arith, e) in f) ∙ at_end n (58 ∷ 58 ∷ z) 1)

shape_at : (z y : Text) (len n : ℕ) → y ≡ z → n ≡ len → Shape z len → Shape y n
shape_at z y len n e f s = subst (λ w. Shape w n) (sym e) (subst (Shape z) (sym f) s)

-- which tokens such a text spells
name_spells : (b : ℕ) (p q : Text) (t : Kind) → begins_name b ≡ true → SpellsToken (b ∷ p) t → Shape ((b ∷ p) ++ q) (length (b ∷ p))
name_spells b p q (k.Ident s) h (n, e, r) = shape_at (s ++ q) _ (length s) _ (ap (λ w. w ++ q) e) (ap length e) (name_shape s q n)
name_spells b p q (k.Word w) h (n, r) = name_shape (b ∷ p) q n
name_spells b p q (k.Key s) h ((n, name, cut), e) =
    let f : b ∷ p ≡ n ++ 58 ∷ [] = e ∙ cut in
    shape_at (n ++ 58 ∷ q) _ (length n + 1) _ (ap (λ w. w ++ q) f ∙ append_assoc n (58 ∷ []) q) (ap length f ∙ length-append n (58 ∷ []) ∙ omega arith) (key_shape n q name)
name_spells b p q (k.SetKey s) h (name, f) =
    shape_at (s ++ 58 ∷ 58 ∷ q) _ (length s + 2) _ (ap (λ w. w ++ q) f ∙ append_assoc s (58 ∷ 58 ∷ []) q) (ap length f ∙ length-append s (58 ∷ 58 ∷ []) ∙ omega arith) (set_shape s q name)
name_spells b p q (k.Oper []) h (o, e) = absurd cc
name_spells b p q (k.Oper (c ∷ s)) h (inl o, e) = absurd (not_operator b h (ap is_operator_byte (let f : b ≡ c = cc in f) ∙ o.1.0))
name_spells b p q (k.Oper (c ∷ s)) h (inr o, e) = absurd (not_byte b 60 p (58 ∷ []) h (e ∙ o) refl)
name_spells b p q (k.Number v) h x = absurd (not_digit b h x.1.0)
name_spells b p q (k.Str s) h x = absurd (not_byte b 39 p _ h x refl)
name_spells b p q (k.Symbol s) h x = absurd (not_byte b 35 p _ h x.1 refl)
name_spells b p q _ h x = absurd (not_byte b _ p _ h x refl)

not_below : (n len : ℕ) → (n < len → ⊥) → len ≤ n
not_below n len h = omega (arith, h)

neither : {a b c d : ℕ} → (a ≢ b) ⊎ (c ≢ d) → a ≡ b → c ≡ d → ⊥
neither (inl h) e f = h e
neither (inr h) e f = h f

by_shape : (z : Text) (n len : ℕ) → name_len z ≤ n → (n < name_len z + 1 → get_or z (name_len z) 0 ≢ 58) → (n < name_len z + 2 → (get_or z (name_len z) 0 ≢ 58) ⊎ (get_or z (name_len z + 1) 0 ≢ 58)) → Shape z len → len ≤ n
by_shape z n len low one two (within h) = omega arith
by_shape z n len low one two (one_colon h e) = not_below n len (λ l. one (omega arith) e)
by_shape z n len low one two (two_colons h e f) = not_below n len (λ l. neither (two (omega arith)) e f)

-- the first n bytes of z are its next token
pub record IsToken (z : Text) (t : Kind) (n : ℕ) : Type 0 where
  pub size : n ≤ length z
  pub next : IsNext (take n z) (drop n z) t

-- no token at the front is longer than n bytes
abbrev pub NoneLonger : ℕ → Text → Type 0
NoneLonger n z = (p r : Text) (t : Kind) → z ≡ p ++ r → SpellsToken p t → length p ≤ n

-- what the tests on the bytes behind the name say
pub longest_by : (b : ℕ) (z : Text) (n : ℕ) → begins_name b ≡ true → name_len (b ∷ z) ≤ n → (n < name_len (b ∷ z) + 1 → get_or (b ∷ z) (name_len (b ∷ z)) 0 ≢ 58)
    → (n < name_len (b ∷ z) + 2 → (get_or (b ∷ z) (name_len (b ∷ z)) 0 ≢ 58) ⊎ (get_or (b ∷ z) (name_len (b ∷ z) + 1) 0 ≢ 58)) → NoneLonger n (b ∷ z)
longest_by b z n h low one two [] q t cut x = omega arith
longest_by b z n h low one two (c ∷ p) q t cut x =
    let e : c ≡ b = cc in
    by_shape (b ∷ z) n (length (c ∷ p)) low one two (subst (λ w. Shape w (length (c ∷ p))) (sym cut) (name_spells c p q t (ap begins_name e ∙ h) x))

pub length_taken : (z : Text) (n : ℕ) → n ≤ length z → length (take n z) ≡ n
length_taken z n h = omega (arith, length-take n z)

-- the same, for the text that is cut off
pub longest_cut : (z : Text) (n : ℕ) → n ≤ length z → NoneLonger n z → Longest (take n z) (drop n z)
longest_cut z n fits none p r t cut x =
    let short : length p ≤ n = none p r t (sym (take-append-drop n z) ∙ cut) (stands_spells p r t x) in
    omega (arith, length_taken z n fits)

byte_at : (z p u : Text) (i j : ℕ) → z ≡ p ++ u → i ≡ length p + j → get_or z i 0 ≡ get_or u j 0
byte_at z p u i j e h = ap (λ w. get_or w i 0) e ∙ ap (λ m. get_or (p ++ u) m 0) h ∙ at_end p u j

-- the bytes behind a name before `::=`
before_at : (z p r : Text) → z ≡ p ++ r → BeforeSlotSet p r → (get_or z (name_len z) 0 ≡ 58) × (get_or z (name_len z + 1) 0 ≡ 58) × (get_or z (name_len z + 2) 0 ≡ 61)
before_at z p r cut (name, (u, e)) =
    let f : z ≡ p ++ 58 ∷ 58 ∷ 61 ∷ u = cut ∙ ap (λ w. p ++ w) e in
    let n : name_len z ≡ length p = ap name_len f ∙ name_end p 58 (58 ∷ 61 ∷ u) name refl in
    (byte_at z p (58 ∷ 58 ∷ 61 ∷ u) (name_len z) 0 f (omega (arith, n)), byte_at z p (58 ∷ 58 ∷ 61 ∷ u) (name_len z + 1) 1 f (omega (arith, n)), byte_at z p (58 ∷ 58 ∷ 61 ∷ u) (name_len z + 2) 2 f (omega (arith, n)))

-- ---- the piece at a name is the next token

abbrev at : Text → ℕ → ℕ
at z i = get_or z i 0

-- a byte that isn't 0 stands within the text
not_past : (z : Text) (i c : ℕ) → at z i ≡ suc c → (length z ≤ i → ⊥) → i < length z
not_past z i c e h = omega (arith, h)

within_text : (z : Text) (i c : ℕ) → at z i ≡ suc c → i < length z
within_text z i c e = not_past z i c e (λ h. let f : at z i ≡ 0 = get_or_past z i 0 h in let g : suc c ≡ 0 = sym e ∙ f in cc)

run_cons : (p : ℕ → Bool) (b : ℕ) (z : Text) (v : Bool) → p b ≡ v → AllOf p (take (prefix_len p z) z) → AllOf p (take (cond v (1 + prefix_len p z) 0) (b ∷ z))
run_cons p b z true e h = let f : 1 + prefix_len p z ≡ suc (prefix_len p z) = omega arith in subst (λ m. AllOf p (take m (b ∷ z))) (sym f) (e, h)
run_cons p b z false e h = tt

pub run_of : (p : ℕ → Bool) (z : Text) → AllOf p (take (prefix_len p z) z)
run_of p [] = tt
run_of p (b ∷ z) = run_cons p b z (p b) refl (run_of p z)

name_cons : (b : ℕ) (z : Text) → begins_name b ≡ true → IsIdentifierText (take (1 + name_len z) (b ∷ z))
name_cons b z h = let f : 1 + name_len z ≡ suc (name_len z) = omega arith in subst (λ m. IsIdentifierText (take m (b ∷ z))) (sym f) (h, run_of goes_on_name z)

pub is_name : (b : ℕ) (z : Text) → begins_name b ≡ true → IsIdentifierText (take (name_len (b ∷ z)) (b ∷ z))
is_name b z h = subst (λ v. IsIdentifierText (take (cond v (1 + name_len z) 0) (b ∷ z))) (sym (in_name b h)) (name_cons b z h)

pub name_short : (z : Text) → name_len z ≤ length z
name_short z = prefix_len-le-length (is_in class.Name) z

stands_named : (t q : Text) (o : Option Reserved) → reserved t ≡ o → IsIdentifierText t → SpellsInText t q (named t o)
stands_named t q None e n = (n, refl, e)
stands_named t q (Some w) e n = (n, e)

take_two : (z : Text) (n : ℕ) → n + 1 < length z → at z n ≡ 58 → at z (n + 1) ≡ 58 → take (n + 2) z ≡ take n z ++ 58 ∷ 58 ∷ []
take_two z n h one two =
    let e : n + 2 ≡ n + 1 + 1 = omega arith in
    ap (λ m. take m z) e ∙ take_more z (n + 1) 0 h ∙ ap (λ c. take (n + 1) z ++ c ∷ []) two ∙ ap (λ w. w ++ 58 ∷ []) (take_more z n 0 (omega (arith, h)) ∙ ap (λ c. take n z ++ c ∷ []) one) ∙ append_assoc (take n z) (58 ∷ []) (58 ∷ [])

drop_three : (z : Text) (n : ℕ) → n + 2 < length z → at z n ≡ 58 → at z (n + 1) ≡ 58 → at z (n + 2) ≡ 61 → drop n z ≡ 58 ∷ 58 ∷ 61 ∷ drop (n + 3) z
drop_three z n h one two three =
    let a : n + 1 ≡ suc n = omega arith in
    let b : n + 2 ≡ suc (n + 1) = omega arith in
    let c : n + 3 ≡ suc (n + 2) = omega arith in
    drop-cons z n 0 (omega (arith, h)) ∙ ap (λ v. v ∷ drop (suc n) z) one ∙ ap (λ i. 58 ∷ drop i z) (sym a)
    ∙ ap (λ w. 58 ∷ w) (drop-cons z (n + 1) 0 (omega (arith, h)) ∙ ap (λ v. v ∷ drop (suc (n + 1)) z) two ∙ ap (λ i. 58 ∷ drop i z) (sym b)
    ∙ ap (λ w. 58 ∷ w) (drop-cons z (n + 2) 0 h ∙ ap (λ v. v ∷ drop (suc (n + 2)) z) three ∙ ap (λ i. 61 ∷ drop i z) (sym c)))

-- a name before `::=` begins only where these three bytes stand behind the name
no_slot_set : (b : ℕ) (z : Text) (n m : ℕ) → n ≡ name_len (b ∷ z) → ((at (b ∷ z) n ≡ 58) × (at (b ∷ z) (n + 1) ≡ 58) × (at (b ∷ z) (n + 2) ≡ 61) → ⊥)
    → (p r : Text) → take m (b ∷ z) ++ drop m (b ∷ z) ≡ p ++ r → BeforeSlotSet p r → ⊥
no_slot_set b z n m e none p r cut x =
    let f = before_at (b ∷ z) p r (sym (take-append-drop m (b ∷ z)) ∙ cut) x in
    none (ap (at (b ∷ z)) e ∙ f.0, ap (at (b ∷ z)) (omega (arith, e)) ∙ f.1, ap (at (b ∷ z)) (omega (arith, e)) ∙ f.2)

differ : (a c : ℕ) → (a == c) ≡ false → a ≢ c
differ a c h e = let f : (a == c) ≡ true = eq-eqb a c e in cc

-- a name or a reserved word, without a colon behind it
name_alone : (b : ℕ) (z : Text) (n : ℕ) → begins_name b ≡ true → n ≡ name_len (b ∷ z) → at (b ∷ z) n ≢ 58 → IsToken (b ∷ z) (named (take n (b ∷ z)) (reserved (take n (b ∷ z)))) n
name_alone b z n h e other =
    let fits : n ≤ length (b ∷ z) = omega (arith, e, name_short (b ∷ z)) in
    let none : at (b ∷ z) (name_len (b ∷ z)) ≢ 58 = λ f. other (ap (at (b ∷ z)) e ∙ f) in
    record {
      size = fits;
      next = (
        stands_named (take n (b ∷ z)) (drop n (b ∷ z)) (reserved (take n (b ∷ z))) refl (subst (λ m. IsIdentifierText (take m (b ∷ z))) (sym e) (is_name b z h)),
        inr (longest_cut (b ∷ z) n fits (longest_by b z n h (omega (arith, e)) (λ l. none) (λ l. inl none)), no_slot_set b z n n e (λ x. other x.0)),
      );
    }

-- a name or a reserved word before `::=`
name_before : (b : ℕ) (z : Text) (n : ℕ) → begins_name b ≡ true → n ≡ name_len (b ∷ z) → at (b ∷ z) n ≡ 58 → at (b ∷ z) (n + 1) ≡ 58 → at (b ∷ z) (n + 2) ≡ 61 → IsToken (b ∷ z) (named (take n (b ∷ z)) (reserved (take n (b ∷ z)))) n
name_before b z n h e one two three =
    let inside : n + 2 < length (b ∷ z) = within_text (b ∷ z) (n + 2) 60 three in
    let name : IsIdentifierText (take n (b ∷ z)) = subst (λ m. IsIdentifierText (take m (b ∷ z))) (sym e) (is_name b z h) in
    record {
      size = omega (arith, inside);
      next = (
        stands_named (take n (b ∷ z)) (drop n (b ∷ z)) (reserved (take n (b ∷ z))) refl name,
        inl (name, (drop (n + 3) (b ∷ z), drop_three (b ∷ z) n inside one two three)),
      );
    }

key_token : (b : ℕ) (z : Text) (n : ℕ) → begins_name b ≡ true → n ≡ name_len (b ∷ z) → at (b ∷ z) n ≡ 58 → at (b ∷ z) (n + 1) ≢ 58 → IsToken (b ∷ z) (k.Key (take (n + 1) (b ∷ z))) (n + 1)
key_token b z n h e one two =
    let inside : n < length (b ∷ z) = within_text (b ∷ z) n 57 one in
    let none : at (b ∷ z) (name_len (b ∷ z) + 1) ≢ 58 = λ f. two (ap (at (b ∷ z)) (omega (arith, e)) ∙ f) in
    record {
      size = omega (arith, inside);
      next = (
        ((take n (b ∷ z), subst (λ m. IsIdentifierText (take m (b ∷ z))) (sym e) (is_name b z h), take_more (b ∷ z) n 0 inside ∙ ap (λ c. take n (b ∷ z) ++ c ∷ []) one), refl),
        inr (longest_cut (b ∷ z) (n + 1) (omega (arith, inside)) (longest_by b z (n + 1) h (omega (arith, e)) (λ l. absurd (omega (arith, e, l))) (λ l. inr none)), no_slot_set b z n (n + 1) e (λ x. two x.1)),
      );
    }

set_token : (b : ℕ) (z : Text) (n : ℕ) → begins_name b ≡ true → n ≡ name_len (b ∷ z) → at (b ∷ z) n ≡ 58 → at (b ∷ z) (n + 1) ≡ 58 → at (b ∷ z) (n + 2) ≢ 61 → IsToken (b ∷ z) (k.SetKey (take n (b ∷ z))) (n + 2)
set_token b z n h e one two three =
    let inside : n + 1 < length (b ∷ z) = within_text (b ∷ z) (n + 1) 57 two in
    record {
      size = omega (arith, inside);
      next = (
        (subst (λ m. IsIdentifierText (take m (b ∷ z))) (sym e) (is_name b z h), take_two (b ∷ z) n inside one two),
        inr (longest_cut (b ∷ z) (n + 2) (omega (arith, inside)) (longest_by b z (n + 2) h (omega (arith, e)) (λ l. absurd (omega (arith, e, l))) (λ l. absurd (omega (arith, e, l)))), no_slot_set b z n (n + 2) e (λ x. three x.2)),
      );
    }

pub moved : (z : Text) (t u : Kind) (n m : ℕ) → Token t n ≡ Token u m → IsToken z t n → IsToken z u m
moved z t u n m f x =
    let e : t ≡ u = cc in
    let g : n ≡ m = cc in
    subst (λ i. IsToken z u i) g (subst (λ v. IsToken z v n) e x)

token_by : (b : ℕ) (z : Text) (n : ℕ) (one two three : Bool) → begins_name b ≡ true → n ≡ name_len (b ∷ z) → (at (b ∷ z) n == 58) ≡ one → (at (b ∷ z) (n + 1) == 58) ≡ two → (at (b ∷ z) (n + 2) == 61) ≡ three
    → (t : Kind) (m : ℕ) → word_by one two three n (b ∷ z) ≡ Token t m → IsToken (b ∷ z) t m
token_by b z n true true true h e x y w t m f = moved (b ∷ z) _ t n m f (name_before b z n h e (eqb-true _ _ x) (eqb-true _ _ y) (eqb-true _ _ w))
token_by b z n true true false h e x y w t m f = moved (b ∷ z) _ t (n + 2) m f (set_token b z n h e (eqb-true _ _ x) (eqb-true _ _ y) (differ _ _ w))
token_by b z n true false three h e x y w t m f = moved (b ∷ z) _ t (n + 1) m f (key_token b z n h e (eqb-true _ _ x) (differ _ _ y))
token_by b z n false two three h e x y w t m f = moved (b ∷ z) _ t n m f (name_alone b z n h e (differ _ _ x))

-- The piece at a name is the next token.
pub word_token : (b : ℕ) (z : Text) (t : Kind) (m : ℕ) → begins_name b ≡ true → word (b ∷ z) ≡ Token t m → IsToken (b ∷ z) t m
unfolding word
word_token b z t m h f = token_by b z (name_len (b ∷ z)) _ _ _ h refl refl refl refl t m f
