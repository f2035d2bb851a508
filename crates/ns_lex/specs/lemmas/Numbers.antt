-- The piece at a digit is the next token.
use Rattle.std.proofs.Common.{◌≡◌, ℕ, ◌+◌, ◌≤◌, inr, Bool, true, false, ◌==◌, ◌&&◌, cond, if◌then◌else◌, [], ◌∷◌, ◌++◌, length, take, get_or, Option, Some, None, refl, sym, ap, subst, ◌∙◌, arith}
use Rattle.std.specs.Prelude.{nat_lt}
use Rattle.std.proofs.lemmas.Bool.Decides.{nat_tests}
use Rattle.std.specs.List.{prefix_len}
use Rattle.std.proofs.lemmas.List.{append-nil}
use Rattle.std.proofs.lemmas.List.Sums.{prefix_len-le-length}
use Rattle.ns_base.specs.Spelling.{is_digit, begins_name, is_operator_byte}
use Rattle.ns_tree.specs.declared.token.Kind.{Kind}
use Rattle.ns_tree.specs.declared.token.Kind.TheVariants as k
use Rattle.ns_lex.specs.Bytes.{is_in}
use Rattle.ns_lex.specs.declared.bytes.ByteClass.TheVariants as class
use Rattle.ns_lex.specs.Piece.{Text}
use Rattle.ns_lex.specs.Number.{number, sized, at_most_greatest, value, greatest}
use Rattle.ns_lex.specs.declared.piece.Piece.TheVariants.{Token}
use Rattle.ns_lex.specs.Spells.{SpellsToken}
use Rattle.ns_lex.specs.laws.Words.{IsToken, NoneLonger, longest_cut, run_of, run_all, moved, length_taken}
use Rattle.ns_lex.specs.laws.Singles.{no_name, no_operator, first_not, same_first, no_slot_set, split}

name_of : (b : ℕ) → is_digit b ≡ true → begins_name b ≡ false
name_of b h = grind (arith, nat_tests)

oper_of : (b : ℕ) → is_digit b ≡ true → is_operator_byte b ≡ false
oper_of b h = grind (arith, nat_tests)

quote_of : (b : ℕ) → is_digit b ≡ true → (b == 39) ≡ false
quote_of b h = grind (arith, nat_tests)

mark_of : (b : ℕ) → is_digit b ≡ true → (b == 35) ≡ false
mark_of b h = grind (arith, nat_tests)

not_byte : (b c : ℕ) (p q : Text) → is_digit b ≡ true → b ∷ p ≡ c ∷ q → is_digit c ≡ false → ⊥
not_byte b c p q o e f = let same : b ≡ c = cc in let g : is_digit b ≡ is_digit c = ap is_digit same in absurd cc

-- which tokens such a text spells: numbers, no longer than the run
digit_spells : (b : ℕ) (p q : Text) (t : Kind) → is_digit b ≡ true → SpellsToken (b ∷ p) t → length (b ∷ p) ≤ prefix_len is_digit ((b ∷ p) ++ q)
digit_spells b p q (k.Ident s) h (n, e, r) = absurd (no_name b p s [] (name_of b h) n (e ∙ sym (append-nil s)))
digit_spells b p q (k.Word w) h (n, r) = absurd (no_name b p (b ∷ p) [] (name_of b h) n (sym (append-nil (b ∷ p))))
digit_spells b p q (k.Key s) h ((n, name, cut), e) = absurd (no_name b p n (58 ∷ []) (name_of b h) name (e ∙ cut))
digit_spells b p q (k.SetKey s) h (name, e) = absurd (no_name b p s (58 ∷ 58 ∷ []) (name_of b h) name e)
digit_spells b p q (k.Oper s) h (o, e) = absurd (no_operator b p s (oper_of b h) o e)
digit_spells b p q (k.Number v) h (some, all, same, small) = omega (arith, run_all is_digit (b ∷ p) q all)
digit_spells b p q (k.Str s) h x = absurd (first_not (λ c. c == 39) b 39 p _ (quote_of b h) refl x)
digit_spells b p q (k.Symbol s) h x = absurd (first_not (λ c. c == 35) b 35 p _ (mark_of b h) refl x.1)
digit_spells b p q _ h x = absurd (not_byte b _ p _ h x refl)

abbrev pub run : Text → ℕ
run = prefix_len (is_in class.Digit)

longest_run : (b : ℕ) (z : Text) → is_digit b ≡ true → NoneLonger (run (b ∷ z)) (b ∷ z)
longest_run b z h [] r t cut x = omega arith
longest_run b z h (c ∷ p) r t cut x =
    let e : b ≡ c = same_first b c z (p ++ r) cut in
    let f : prefix_len is_digit ((c ∷ p) ++ r) ≡ run (b ∷ z) = ap (prefix_len is_digit) (sym cut) in
    omega (arith, digit_spells c p r t (sym (ap is_digit e) ∙ h) x, f)

not_above : (v : ℕ) → nat_lt greatest v ≡ false → v ≤ greatest
not_above v h = grind (arith, nat_tests)

small_by : (v w : ℕ) (above : Bool) → nat_lt greatest v ≡ above → (if above then None else Some v) ≡ Some w → (v ≡ w) × (w ≤ greatest)
small_by v w true e f = absurd cc
small_by v w false e f = let same : v ≡ w = cc in (same, subst (λ u. u ≤ greatest) same (not_above v e))

small_of : (v w : ℕ) (o : Option ℕ) → at_most_greatest v ≡ o → o ≡ Some w → (v ≡ w) × (w ≤ greatest)
small_of v w o e f = small_by v w (nat_lt greatest v) refl (e ∙ f)

number_token_of : (b : ℕ) (z : Text) (v : ℕ) → is_digit b ≡ true → (value (take (run (b ∷ z)) (b ∷ z)) ≡ v) × (v ≤ greatest) → IsToken (b ∷ z) (k.Number v) (run (b ∷ z))
number_token_of b z v h s =
    let fits : run (b ∷ z) ≤ length (b ∷ z) = prefix_len-le-length (is_in class.Digit) (b ∷ z) in
    let some : run (b ∷ z) ≡ 1 + run z = ap (λ v. cond v (1 + run z) 0) h in
    record {
      size = fits;
      next = (
        (omega (arith, some, length_taken (b ∷ z) (run (b ∷ z)) fits), run_of is_digit (b ∷ z), s.0, s.1),
        inr (longest_cut (b ∷ z) (run (b ∷ z)) fits (longest_run b z h), no_slot_set b z (run (b ∷ z)) (name_of b h)),
      );
    }

sized_token : (b : ℕ) (z : Text) (o : Option ℕ) (t : Kind) (m : ℕ) → is_digit b ≡ true → at_most_greatest (value (take (run (b ∷ z)) (b ∷ z))) ≡ o → sized (run (b ∷ z)) o ≡ Token t m → IsToken (b ∷ z) t m
sized_token b z None t m h e f = absurd cc
sized_token b z (Some v) t m h e f = moved (b ∷ z) (k.Number v) t (run (b ∷ z)) m f (number_token_of b z v h (small_of (value (take (run (b ∷ z)) (b ∷ z))) v (Some v) e refl))

-- The piece at a digit is the next token.
pub number_token : (b : ℕ) (z : Text) (t : Kind) (m : ℕ) → is_digit b ≡ true → number (b ∷ z) ≡ Token t m → IsToken (b ∷ z) t m
unfolding number
number_token b z t m h f =
    split (begins_name (get_or (b ∷ z) (run (b ∷ z)) 0)) _ _ _ f (λ e f. absurd cc)
    (λ _ f. split (get_or (b ∷ z) (run (b ∷ z)) 0 == 46 && is_digit (get_or (b ∷ z) (run (b ∷ z) + 1) 0)) _ _ _ f (λ e f. absurd cc) (λ _ f. sized_token b z _ t m h refl f))

sized_small : (n v : ℕ) (o : Option ℕ) (t : Kind) (m : ℕ) → at_most_greatest v ≡ o → sized n o ≡ Token t m → v ≤ greatest
sized_small n v None t m e f = absurd cc
sized_small n v (Some w) t m e f = let x = small_of v w (Some w) e refl in subst (λ u. u ≤ greatest) (sym x.0) x.1

-- what the tests at a number's end say
pub number_says : (b : ℕ) (z : Text) (t : Kind) (m : ℕ) → number (b ∷ z) ≡ Token t m
    → (begins_name (get_or (b ∷ z) (run (b ∷ z)) 0) ≡ false) × ((get_or (b ∷ z) (run (b ∷ z)) 0 == 46 && is_digit (get_or (b ∷ z) (run (b ∷ z) + 1) 0)) ≡ false) × (value (take (run (b ∷ z)) (b ∷ z)) ≤ greatest)
unfolding number
number_says b z t m f =
    split (begins_name (get_or (b ∷ z) (run (b ∷ z)) 0)) _ _ _ f (λ e f. absurd cc)
    (λ e f. split (get_or (b ∷ z) (run (b ∷ z)) 0 == 46 && is_digit (get_or (b ∷ z) (run (b ∷ z) + 1) 0)) _ _ _ f (λ e f. absurd cc) (λ g f. (e, g, sized_small (run (b ∷ z)) (value (take (run (b ∷ z)) (b ∷ z))) _ t m refl f)))
