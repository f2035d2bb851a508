-- The piece at an operator is the next token.
use Rattle.std.proofs.Common.{◌≡◌, ℕ, ◌+◌, ◌≤◌, ◌<◌, ◌⊎◌, inl, inr, Bool, true, false, ◌==◌, ◌&&◌, cond, [], ◌∷◌, ◌++◌, length, take, drop, get_or, refl, sym, ap, subst, ◌∙◌, arith}
use Rattle.std.proofs.lemmas.Bool.Decides.{nat_tests}
use Rattle.std.proofs.lemmas.Bool.{eqb-true}
use Rattle.std.specs.List.{prefix_len}
use Rattle.std.proofs.lemmas.List.{take-append-drop, append-nil}
use Rattle.std.proofs.lemmas.List.Sums.{prefix_len-le-length}
use Rattle.ns_base.specs.Spelling.{is_digit, begins_name, is_operator_byte}
use Rattle.ns_tree.specs.declared.token.Kind.{Kind}
use Rattle.ns_tree.specs.declared.token.Kind.TheVariants as k
use Rattle.ns_lex.specs.Bytes.{is_in}
use Rattle.ns_lex.specs.declared.bytes.ByteClass.TheVariants as class
use Rattle.ns_lex.specs.Piece.{Text}
use Rattle.ns_lex.specs.Operator.{operator, operator_len}
use Rattle.ns_lex.specs.declared.piece.Piece.TheVariants.{Token}
use Rattle.ns_lex.specs.Spells.{AllOf, IsIdentifierText, SpellsToken}
use Rattle.ns_lex.specs.Lexes.{BeforeSlotSet}
use Rattle.ns_lex.specs.laws.Words.{IsToken, NoneLonger, longest_cut, run_of, run_all, moved, length_taken}

-- an operator's byte begins no name and no number
no_name : (b : ℕ) → is_operator_byte b ≡ true → begins_name b ≡ true → ⊥
no_name b o h = grind (arith, nat_tests)

no_digit : (b : ℕ) → is_operator_byte b ≡ true → is_digit b ≡ true → ⊥
no_digit b o h = grind (arith, nat_tests)

not_name : (b : ℕ) (p n q : Text) → is_operator_byte b ≡ true → IsIdentifierText n → b ∷ p ≡ n ++ q → ⊥
not_name b p [] q o h e = absurd h
not_name b p (c ∷ n) q o h e = let f : b ≡ c = cc in absurd (no_name b o (ap begins_name f ∙ h.0))

not_byte : (b c : ℕ) (p q : Text) → is_operator_byte b ≡ true → b ∷ p ≡ c ∷ q → is_operator_byte c ≡ false → ⊥
not_byte b c p q o e f = let same : b ≡ c = cc in let g : is_operator_byte b ≡ is_operator_byte c = ap is_operator_byte same in absurd cc

abbrev run : Text → ℕ
run = prefix_len (is_in class.Operator)

-- the bytes of the two tests
abbrev is_over : Text → Bool
is_over z = get_or z 0 0 == 60 && get_or z 1 0 == 58

-- which tokens such a text spells: an operator's, and no longer than its run, or `<:`
operator_spells : (b : ℕ) (p q : Text) (t : Kind) → is_operator_byte b ≡ true → SpellsToken (b ∷ p) t → (length (b ∷ p) ≤ prefix_len is_operator_byte ((b ∷ p) ++ q)) ⊎ (b ∷ p ≡ 60 ∷ 58 ∷ [])
operator_spells b p q (k.Ident s) o (n, e, r) = absurd (not_name b p s [] o n (e ∙ sym (append-nil s)))
operator_spells b p q (k.Word w) o (n, r) = absurd (no_name b o n.0)
operator_spells b p q (k.Key s) o ((n, name, cut), e) = absurd (not_name b p n (58 ∷ []) o name (e ∙ cut))
operator_spells b p q (k.SetKey s) o (name, e) = absurd (not_name b p s (58 ∷ 58 ∷ []) o name e)
operator_spells b p q (k.Oper s) o (inl (some, all), e) = inl (omega (arith, run_all is_operator_byte (b ∷ p) q (subst (AllOf is_operator_byte) (sym e) all)))
operator_spells b p q (k.Oper s) o (inr e, f) = inr (f ∙ e)
operator_spells b p q (k.Number v) o x = absurd (no_digit b o x.1.0)
operator_spells b p q (k.Str s) o x = absurd (not_byte b 39 p _ o x refl)
operator_spells b p q (k.Symbol s) o x = absurd (not_byte b 35 p _ o x.1 refl)
operator_spells b p q _ o x = absurd (not_byte b _ p _ o x refl)

-- where the run is the operator
longest_run : (b : ℕ) (z : Text) → is_operator_byte b ≡ true → is_over (b ∷ z) ≡ false → NoneLonger (run (b ∷ z)) (b ∷ z)
longest_run b z o other [] r t cut x = omega arith
longest_run b z o other (c ∷ p) r t cut x =
    let e : c ≡ b = cc in
    elim (operator_spells c p r t (ap is_operator_byte e ∙ o) x) [
      | inl short ↦ (let f : prefix_len is_operator_byte ((c ∷ p) ++ r) ≡ run (b ∷ z) = ap (prefix_len is_operator_byte) (sym cut) in omega (arith, short, f))
      | inr over ↦ absurd (let f : is_over (b ∷ z) ≡ true = ap is_over (cut ∙ ap (λ w. w ++ r) over) in let g : true ≡ false = sym f ∙ other in cc)
    ]

-- where it is `<:`
longest_over : (z : Text) → NoneLonger 2 (60 ∷ 58 ∷ z)
longest_over z [] r t cut x = omega arith
longest_over z (c ∷ p) r t cut x =
    let e : c ≡ 60 = cc in
    elim (operator_spells c p r t (ap is_operator_byte e) x) [
      | inl short ↦ (let f : prefix_len is_operator_byte ((c ∷ p) ++ r) ≡ 1 = ap (prefix_len is_operator_byte) (sym cut) in omega (arith, short, f))
      | inr over ↦ (let f : length (c ∷ p) ≡ 2 = ap length over in omega (arith, f))
    ]

no_slot_set : (b : ℕ) (z : Text) (m : ℕ) → is_operator_byte b ≡ true → (p r : Text) → take m (b ∷ z) ++ drop m (b ∷ z) ≡ p ++ r → BeforeSlotSet p r → ⊥
no_slot_set b z m o p r cut x = not_name b z p r o x.0 (sym (take-append-drop m (b ∷ z)) ∙ cut)

run_some : (b : ℕ) (z : Text) → is_operator_byte b ≡ true → 0 < run (b ∷ z)
run_some b z o = let f : run (b ∷ z) ≡ 1 + run z = ap (λ v. cond v (1 + run z) 0) o in omega (arith, f)

run_token : (b : ℕ) (z : Text) → is_operator_byte b ≡ true → is_over (b ∷ z) ≡ false → IsToken (b ∷ z) (k.Oper (take (run (b ∷ z)) (b ∷ z))) (run (b ∷ z))
run_token b z o other =
    let fits : run (b ∷ z) ≤ length (b ∷ z) = prefix_len-le-length (is_in class.Operator) (b ∷ z) in
    record {
      size = fits;
      next = (
        (inl (omega (arith, run_some b z o, length_taken (b ∷ z) (run (b ∷ z)) fits), run_of is_operator_byte (b ∷ z)), refl),
        inr (longest_cut (b ∷ z) (run (b ∷ z)) fits (longest_run b z o other), no_slot_set b z (run (b ∷ z)) o),
      );
    }

over_token : (z : Text) → IsToken (60 ∷ 58 ∷ z) (k.Oper (60 ∷ 58 ∷ [])) 2
over_token z = record {
  size = omega arith;
  next = ((inr refl, refl), inr (longest_cut (60 ∷ 58 ∷ z) 2 (omega arith) (longest_over z), no_slot_set 60 (58 ∷ z) 2 refl));
}

abbrev len_by : Bool → Text → ℕ
len_by over z = cond over 2 (run z)

both_true : (x y : Bool) → (x && y) ≡ true → (x ≡ true) × (y ≡ true)
both_true true y h = (refl, h)
both_true false y h = absurd cc

over_by : (b : ℕ) (z : Text) → is_over (b ∷ z) ≡ true → IsToken (b ∷ z) (k.Oper (take 2 (b ∷ z))) 2
over_by b [] h = let f = both_true (b == 60) (0 == 58) h in let g : (0 == 58) ≡ true = f.1 in absurd cc
over_by b (c ∷ z) h =
    let f = both_true (b == 60) (c == 58) h in
    let e : b ≡ 60 = eqb-true b 60 f.0 in
    let g : c ≡ 58 = eqb-true c 58 f.1 in
    subst (λ i. IsToken (i ∷ c ∷ z) (k.Oper (take 2 (i ∷ c ∷ z))) 2) (sym e) (subst (λ j. IsToken (60 ∷ j ∷ z) (k.Oper (take 2 (60 ∷ j ∷ z))) 2) (sym g) (over_token z))

token_by : (b : ℕ) (z : Text) (over : Bool) → is_operator_byte b ≡ true → is_over (b ∷ z) ≡ over → (t : Kind) (m : ℕ) → Token (k.Oper (take (len_by over (b ∷ z)) (b ∷ z))) (len_by over (b ∷ z)) ≡ Token t m → IsToken (b ∷ z) t m
token_by b z true o e t m f = moved (b ∷ z) _ t 2 m f (over_by b z e)
token_by b z false o e t m f = moved (b ∷ z) _ t (run (b ∷ z)) m f (run_token b z o e)

-- The piece at an operator is the next token.
pub operator_token : (b : ℕ) (z : Text) (t : Kind) (m : ℕ) → is_operator_byte b ≡ true → operator (b ∷ z) ≡ Token t m → IsToken (b ∷ z) t m
unfolding operator operator_len
operator_token b z t m o f = token_by b z (is_over (b ∷ z)) o refl t m f

len_longest : (b : ℕ) (z : Text) (over : Bool) → is_operator_byte b ≡ true → is_over (b ∷ z) ≡ over → NoneLonger (len_by over (b ∷ z)) (b ∷ z)
len_longest b z false o e = longest_run b z o e
len_longest b [] true o h = let f = both_true (b == 60) (0 == 58) h in let g : (0 == 58) ≡ true = f.1 in absurd cc
len_longest b (c ∷ z) true o h =
    let f = both_true (b == 60) (c == 58) h in
    subst (λ i. NoneLonger 2 (i ∷ c ∷ z)) (sym (eqb-true b 60 f.0)) (subst (λ j. NoneLonger 2 (60 ∷ j ∷ z)) (sym (eqb-true c 58 f.1)) (longest_over z))

-- No token at an operator is longer than it.
pub operator_longest : (b : ℕ) (z : Text) → is_operator_byte b ≡ true → NoneLonger (operator_len (b ∷ z)) (b ∷ z)
unfolding operator_len
operator_longest b z o = len_longest b z (is_over (b ∷ z)) o refl

-- What stands at an operator is one.
pub operator_stands : (b : ℕ) (z : Text) → is_operator_byte b ≡ true → IsToken (b ∷ z) (k.Oper (take (operator_len (b ∷ z)) (b ∷ z))) (operator_len (b ∷ z))
unfolding operator operator_len
operator_stands b z o = token_by b z (is_over (b ∷ z)) o refl _ _ refl
