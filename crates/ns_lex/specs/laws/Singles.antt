-- The piece at a token of one spelling is the next token.
use Rattle.std.proofs.Common.{◌≡◌, ℕ, ◌⊎◌, inl, inr, Bool, true, false, ◌==◌, ◌&&◌, if◌then◌else◌, [], ◌∷◌, ◌++◌, length, take, drop, get_or, refl, sym, ap, subst, ◌∙◌, arith}
use Rattle.std.proofs.lemmas.Bool.{eqb-true}
use Rattle.std.proofs.lemmas.List.{take-append-drop, append-nil}
use Rattle.ns_base.specs.Spelling.{is_digit, begins_name, is_operator_byte}
use Rattle.ns_tree.specs.declared.token.Kind.{Kind}
use Rattle.ns_tree.specs.declared.token.Kind.TheVariants as k
use Rattle.ns_lex.specs.Piece.{Text}
use Rattle.ns_lex.specs.Single.{single}
use Rattle.ns_lex.specs.declared.piece.Piece.{Piece}
use Rattle.ns_lex.specs.declared.piece.Piece.TheVariants.{Token}
use Rattle.ns_lex.specs.Spells.{IsIdentifierText, IsOperator, SpellsToken}
use Rattle.ns_lex.specs.Lexes.{BeforeSlotSet, SpellsInText}
use Rattle.ns_lex.specs.laws.Words.{IsToken, NoneLonger, longest_cut, moved}

-- The byte begins no name, number, operator, string or symbol.
pub record Apart (b : ℕ) : Type 0 where
  pub name : begins_name b ≡ false
  pub digit : is_digit b ≡ false
  pub oper : is_operator_byte b ≡ false
  pub quote : (b == 39) ≡ false
  pub mark : (b == 35) ≡ false

-- two tests of one byte
pub clash : (v : Bool) → v ≡ false → v ≡ true → ⊥
clash v f t = let g : false ≡ true = sym f ∙ t in absurd cc

pub same_first : (b c : ℕ) (p q : Text) → b ∷ p ≡ c ∷ q → b ≡ c
same_first b c p q e = cc

-- a test of a byte at the byte that it is
pub first_not : (test : ℕ → Bool) (b c : ℕ) (p q : Text) → test b ≡ false → test c ≡ true → b ∷ p ≡ c ∷ q → ⊥
first_not test b c p q f t e = clash (test b) f (ap test (same_first b c p q e) ∙ t)

-- no name begins with such a byte
pub no_name : (b : ℕ) (p n q : Text) → begins_name b ≡ false → IsIdentifierText n → b ∷ p ≡ n ++ q → ⊥
no_name b p [] q f h e = absurd h
no_name b p (c ∷ n) q f h e = first_not begins_name b c p (n ++ q) f h.0 e

pub no_operator : (b : ℕ) (p s : Text) → is_operator_byte b ≡ false → IsOperator s → b ∷ p ≡ s → ⊥
no_operator b p [] f (inl o) e = absurd cc
no_operator b p (c ∷ s) f (inl o) e = first_not is_operator_byte b c p s f o.1.0 e
no_operator b p s f (inr o) e = first_not is_operator_byte b 60 p (58 ∷ []) f refl (e ∙ o)

-- which tokens such a text spells
apart_spells : (b : ℕ) (p : Text) (t : Kind) → Apart b → SpellsToken (b ∷ p) t → (length (b ∷ p) ≡ 1) ⊎ (b ∷ p ≡ 58 ∷ 58 ∷ 61 ∷ [])
apart_spells b p (k.Ident s) a (n, e, r) = absurd (no_name b p s [] a.name n (e ∙ sym (append-nil s)))
apart_spells b p (k.Word w) a (n, r) = absurd (clash (begins_name b) a.name n.0)
apart_spells b p (k.Key s) a ((n, name, cut), e) = absurd (no_name b p n (58 ∷ []) a.name name (e ∙ cut))
apart_spells b p (k.SetKey s) a (name, e) = absurd (no_name b p s (58 ∷ 58 ∷ []) a.name name e)
apart_spells b p (k.Oper s) a (o, e) = absurd (no_operator b p s a.oper o e)
apart_spells b p (k.Number v) a x = absurd (clash (is_digit b) a.digit x.1.0)
apart_spells b p (k.Str s) a x = absurd (first_not (λ c. c == 39) b 39 p _ a.quote refl x)
apart_spells b p (k.Symbol s) a x = absurd (first_not (λ c. c == 35) b 35 p _ a.mark refl x.1)
apart_spells b p k.SlotSet a x = inr x
apart_spells b p _ a x = inl (ap length x)

pub no_slot_set : (b : ℕ) (z : Text) (m : ℕ) → begins_name b ≡ false → (p r : Text) → take m (b ∷ z) ++ drop m (b ∷ z) ≡ p ++ r → BeforeSlotSet p r → ⊥
no_slot_set b z m f p r cut x = no_name b z p r f x.0 (sym (take-append-drop m (b ∷ z)) ∙ cut)

longest_one : (b : ℕ) (z : Text) → Apart b → ((r : Text) → b ∷ z ≡ 58 ∷ 58 ∷ 61 ∷ r → ⊥) → NoneLonger 1 (b ∷ z)
longest_one b z a other [] r t cut x = omega arith
longest_one b z a other (c ∷ p) r t cut x =
    let e : b ≡ c = same_first b c z (p ++ r) cut in
    elim (apart_spells c p t (subst Apart e a) x) [
      | inl one ↦ omega (arith, one)
      | inr set ↦ absurd (other r (cut ∙ ap (λ w. w ++ r) set))
    ]

longest_three : (z : Text) → Apart 58 → NoneLonger 3 (58 ∷ 58 ∷ 61 ∷ z)
longest_three z a [] r t cut x = omega arith
longest_three z a (c ∷ p) r t cut x =
    let e : 58 ≡ c = same_first 58 c (58 ∷ 61 ∷ z) (p ++ r) cut in
    elim (apart_spells c p t (subst Apart e a) x) [
      | inl one ↦ omega (arith, one)
      | inr set ↦ (let f : length (c ∷ p) ≡ 3 = ap length set in omega (arith, f))
    ]

-- a sign of one byte
sign : (c : ℕ) (kind : Kind) (z : Text) → Apart c → ((q : Text) → SpellsInText (c ∷ []) q kind) → ((r : Text) → c ∷ z ≡ 58 ∷ 58 ∷ 61 ∷ r → ⊥) → IsToken (c ∷ z) kind 1
sign c kind z a stands other = record {
  size = omega arith;
  next = (stands z, inr (longest_cut (c ∷ z) 1 (omega arith) (longest_one c z a other), no_slot_set c z 1 a.name));
}

-- the same at a byte that is it
sign_at : (b c : ℕ) (kind : Kind) (z : Text) (t : Kind) (m : ℕ) → (b == c) ≡ true → Token kind 1 ≡ Token t m → Apart c → ((q : Text) → SpellsInText (c ∷ []) q kind) → (c ≡ 58 → ⊥) → IsToken (b ∷ z) t m
sign_at b c kind z t m e f a stands other =
    subst (λ i. IsToken (i ∷ z) t m) (sym (eqb-true b c e)) (moved (c ∷ z) kind t 1 m f (sign c kind z a stands (λ r g. other (same_first c 58 z (58 ∷ 61 ∷ r) g))))

colon_apart : Apart 58
colon_apart = record { name = refl; digit = refl; oper = refl; quote = refl; mark = refl }

-- Each way through a test is a way on.
pub split : {G : Type 0} (v : Bool) (x y w : Piece) → (if v then x else y) ≡ w → (v ≡ true → x ≡ w → G) → (v ≡ false → y ≡ w → G) → G
split true x y w h now later = now refl h
split false x y w h now later = later refl h

-- the test of the two bytes behind a colon
abbrev is_set : Text → Bool
is_set z = get_or z 1 0 == 58 && get_or z 2 0 == 61

both_true : (x y : Bool) → (x && y) ≡ true → (x ≡ true) × (y ≡ true)
both_true true y h = (refl, h)
both_true false y h = absurd cc

set_token : (z : Text) → IsToken (58 ∷ 58 ∷ 61 ∷ z) k.SlotSet 3
set_token z = record {
  size = omega arith;
  next = (refl, inr (longest_cut (58 ∷ 58 ∷ 61 ∷ z) 3 (omega arith) (longest_three z colon_apart), no_slot_set 58 (58 ∷ 61 ∷ z) 3 refl));
}

set_at : (z : Text) → is_set (58 ∷ z) ≡ true → IsToken (58 ∷ z) k.SlotSet 3
set_at [] h = let f = both_true (0 == 58) (0 == 61) h in let g : (0 == 58) ≡ true = f.0 in absurd cc
set_at (c ∷ []) h = let f = both_true (c == 58) (0 == 61) h in let g : (0 == 61) ≡ true = f.1 in absurd cc
set_at (c ∷ d ∷ z) h =
    let f = both_true (c == 58) (d == 61) h in
    subst (λ i. IsToken (58 ∷ i ∷ d ∷ z) k.SlotSet 3) (sym (eqb-true c 58 f.0)) (subst (λ j. IsToken (58 ∷ 58 ∷ j ∷ z) k.SlotSet 3) (sym (eqb-true d 61 f.1)) (set_token z))

colon_by : (z : Text) (set : Bool) (t : Kind) (m : ℕ) → is_set (58 ∷ z) ≡ set → (if set then Token k.SlotSet 3 else Token k.Colon 1) ≡ Token t m → IsToken (58 ∷ z) t m
colon_by z true t m e f = moved (58 ∷ z) k.SlotSet t 3 m f (set_at z e)
colon_by z false t m e f = moved (58 ∷ z) k.Colon t 1 m f (sign 58 k.Colon z colon_apart (λ q. refl) (λ r g. clash (is_set (58 ∷ z)) e (ap is_set g)))

colon_at : (b : ℕ) (z : Text) (t : Kind) (m : ℕ) → (b == 58) ≡ true → (if is_set (b ∷ z) then Token k.SlotSet 3 else Token k.Colon 1) ≡ Token t m → IsToken (b ∷ z) t m
colon_at b z t m e f =
    let i : b ≡ 58 = eqb-true b 58 e in
    subst (λ c. IsToken (c ∷ z) t m) (sym i) (colon_by z (is_set (58 ∷ z)) t m refl (sym (ap (λ c. if is_set (c ∷ z) then Token k.SlotSet 3 else Token k.Colon 1) i) ∙ f))

-- The piece at any other byte is the next token.
pub single_token : (b : ℕ) (z : Text) (t : Kind) (m : ℕ) → single (b ∷ z) ≡ Token t m → IsToken (b ∷ z) t m
unfolding single
single_token b z t m f =
    split (b == 40) _ _ _ f (λ e h. sign_at b 40 k.Open z t m e h (record { name = refl; digit = refl; oper = refl; quote = refl; mark = refl }) (λ q. refl) (λ e. cc))
    (λ _ f. split (b == 41) _ _ _ f (λ e h. sign_at b 41 k.Close z t m e h (record { name = refl; digit = refl; oper = refl; quote = refl; mark = refl }) (λ q. refl) (λ e. cc))
    (λ _ f. split (b == 91) _ _ _ f (λ e h. sign_at b 91 k.OpenBlock z t m e h (record { name = refl; digit = refl; oper = refl; quote = refl; mark = refl }) (λ q. refl) (λ e. cc))
    (λ _ f. split (b == 93) _ _ _ f (λ e h. sign_at b 93 k.CloseBlock z t m e h (record { name = refl; digit = refl; oper = refl; quote = refl; mark = refl }) (λ q. refl) (λ e. cc))
    (λ _ f. split (b == 123) _ _ _ f (λ e h. sign_at b 123 k.OpenTuple z t m e h (record { name = refl; digit = refl; oper = refl; quote = refl; mark = refl }) (λ q. refl) (λ e. cc))
    (λ _ f. split (b == 125) _ _ _ f (λ e h. sign_at b 125 k.CloseTuple z t m e h (record { name = refl; digit = refl; oper = refl; quote = refl; mark = refl }) (λ q. refl) (λ e. cc))
    (λ _ f. split (b == 46) _ _ _ f (λ e h. sign_at b 46 k.Stop z t m e h (record { name = refl; digit = refl; oper = refl; quote = refl; mark = refl }) (λ q. refl) (λ e. cc))
    (λ _ f. split (b == 59) _ _ _ f (λ e h. sign_at b 59 k.Semi z t m e h (record { name = refl; digit = refl; oper = refl; quote = refl; mark = refl }) (λ q. refl) (λ e. cc))
    (λ _ f. split (b == 94) _ _ _ f (λ e h. sign_at b 94 k.Caret z t m e h (record { name = refl; digit = refl; oper = refl; quote = refl; mark = refl }) (λ q. refl) (λ e. cc))
    (λ _ f. split (b == 58) _ _ _ f (λ e h. colon_at b z t m e h) (λ _ f. absurd cc))))))))))
