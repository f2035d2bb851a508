-- Before a blank, operators and numbers are read again.
use Rattle.std.proofs.Common.{◌≡◌, ℕ, ◌+◌, ◌≤◌, ◌<◌, inl, inr, Bool, true, false, ◌==◌, ◌&&◌, cond, if◌then◌else◌, [], ◌∷◌, ◌++◌, length, take, get_or, Some, None, refl, sym, ap, ◌∙◌, arith}
use Rattle.std.specs.Prelude.{nat_lt}
use Rattle.std.specs.List.{prefix_len}
use Rattle.std.proofs.Math.Seq.{take-append_seam}
use Rattle.std.proofs.lemmas.Bool.Decides.{nat_tests}
use Rattle.ns_base.specs.Spelling.{is_digit, begins_name, is_operator_byte}
use Rattle.ns_tree.specs.declared.token.Kind.TheVariants as k
use Rattle.ns_lex.specs.Bytes.{is_blank}
use Rattle.ns_lex.specs.Piece.{Text}
use Rattle.ns_lex.specs.Next.{next_piece}
use Rattle.ns_lex.specs.Number.{number, sized, at_most_greatest, value, greatest}
use Rattle.ns_lex.specs.Operator.{operator, operator_len}
use Rattle.ns_lex.specs.declared.piece.Piece.TheVariants.{Token}
use Rattle.ns_lex.specs.Spells.{AllOf, IsOperator}
use Rattle.ns_lex.specs.laws.Words.{run_all}
use Rattle.ns_lex.specs.lemmas.Numbers.{run}
use Rattle.ns_lex.specs.laws.Symbols.{oper_start}
use Rattle.ns_lex.specs.laws.Blanks.{Ends, refuse, accept, and_second, first_behind}

-- ---- operators

oper_blank : (c : ℕ) → is_operator_byte c ≡ true → is_blank c ≡ false
oper_blank c h = grind (arith, nat_tests)

oper_remark : (c : ℕ) → is_operator_byte c ≡ true → (c == 34) ≡ false
oper_remark c h = grind (arith, nat_tests)

oper_bracket : (c : ℕ) → is_operator_byte c ≡ true → (c == 40) ≡ false
oper_bracket c h = grind (arith, nat_tests)

oper_name : (c : ℕ) → is_operator_byte c ≡ true → begins_name c ≡ false
oper_name c h = grind (arith, nat_tests)

oper_digit : (c : ℕ) → is_operator_byte c ≡ true → is_digit c ≡ false
oper_digit c h = grind (arith, nat_tests)

oper_quote : (c : ℕ) → is_operator_byte c ≡ true → (c == 39) ≡ false
oper_quote c h = grind (arith, nat_tests)

oper_mark : (c : ℕ) → is_operator_byte c ≡ true → (c == 35) ≡ false
oper_mark c h = grind (arith, nat_tests)

oper_colon : (c : ℕ) → is_operator_byte c ≡ true → (c == 58) ≡ false
oper_colon c h = grind (arith, nat_tests)

at_operator : (c : ℕ) (y : Text) → is_operator_byte c ≡ true → next_piece (c ∷ y) ≡ operator (c ∷ y)
unfolding next_piece
at_operator c y h =
    refuse (is_blank c) _ _ _ (oper_blank c h)
    (refuse (c == 34) _ _ _ (oper_remark c h)
    (refuse (c == 40 && get_or (c ∷ y) 1 0 == 42) _ _ _ (ap (λ v. v && get_or (c ∷ y) 1 0 == 42) (oper_bracket c h))
    (refuse (begins_name c) _ _ _ (oper_name c h)
    (refuse (is_digit c) _ _ _ (oper_digit c h) (refuse (c == 39) _ _ _ (oper_quote c h) (refuse (c == 35) _ _ _ (oper_mark c h) (accept (is_operator_byte c) _ _ _ h refl)))))))

-- no colon stands behind the first byte of a run
no_over : (s : Text) (b : ℕ) (z : Text) → AllOf is_operator_byte s → Ends b → (get_or (s ++ b ∷ z) 0 0 == 58) ≡ false
no_over [] b z h ends = ends.colon
no_over (c ∷ s) b z h ends = oper_colon c h.0

run_ends : (p : ℕ → Bool) (s : Text) (b : ℕ) (z : Text) → AllOf p s → p b ≡ false → prefix_len p (s ++ b ∷ z) ≡ length s
run_ends p s b z h out = run_all p s (b ∷ z) h ∙ ap (λ v. length s + cond v (1 + prefix_len p z) 0) out ∙ omega arith

pub len_again : (s : Text) (b : ℕ) (z : Text) → IsOperator s → Ends b → operator_len (s ++ b ∷ z) ≡ length s
unfolding operator_len
len_again [] b z (inl h) ends = absurd (omega (arith, h.0))
len_again (c ∷ s) b z (inl h) ends =
    refuse (c == 60 && get_or (s ++ b ∷ z) 0 0 == 58) _ _ _ (and_second (c == 60) (get_or (s ++ b ∷ z) 0 0 == 58) (no_over s b z h.1.1 ends)) (run_ends is_operator_byte (c ∷ s) b z h.1 ends.oper)
len_again s b z (inr e) ends = ap (λ w. operator_len (w ++ b ∷ z)) e ∙ sym (ap length e)

operator_again : (s : Text) (b : ℕ) (z : Text) → IsOperator s → Ends b → operator (s ++ b ∷ z) ≡ Token (k.Oper s) (length s)
unfolding operator
operator_again s b z h ends = ap (λ n. Token (k.Oper (take n (s ++ b ∷ z))) n) (len_again s b z h ends) ∙ ap (λ t. Token (k.Oper t) (length s)) (take-append_seam s (b ∷ z))

pub oper_again : (s : Text) (b : ℕ) (z : Text) → IsOperator s → Ends b → next_piece (s ++ b ∷ z) ≡ Token (k.Oper s) (length s)
oper_again [] b z (inl h) ends = absurd (omega (arith, h.0))
oper_again [] b z (inr e) ends = absurd cc
oper_again (c ∷ s) b z h ends = at_operator c (s ++ b ∷ z) (oper_start c s h) ∙ operator_again (c ∷ s) b z h ends

-- ---- numbers

digit_blank : (c : ℕ) → is_digit c ≡ true → is_blank c ≡ false
digit_blank c h = grind (arith, nat_tests)

digit_remark : (c : ℕ) → is_digit c ≡ true → (c == 34) ≡ false
digit_remark c h = grind (arith, nat_tests)

digit_bracket : (c : ℕ) → is_digit c ≡ true → (c == 40) ≡ false
digit_bracket c h = grind (arith, nat_tests)

digit_name : (c : ℕ) → is_digit c ≡ true → begins_name c ≡ false
digit_name c h = grind (arith, nat_tests)

at_digit : (c : ℕ) (y : Text) → is_digit c ≡ true → next_piece (c ∷ y) ≡ number (c ∷ y)
unfolding next_piece
at_digit c y h =
    refuse (is_blank c) _ _ _ (digit_blank c h)
    (refuse (c == 34) _ _ _ (digit_remark c h)
    (refuse (c == 40 && get_or (c ∷ y) 1 0 == 42) _ _ _ (ap (λ v. v && get_or (c ∷ y) 1 0 == 42) (digit_bracket c h)) (refuse (begins_name c) _ _ _ (digit_name c h) (accept (is_digit c) _ _ _ h refl))))

within : (v : ℕ) → v ≤ greatest → nat_lt greatest v ≡ false
within v h = grind (arith, nat_tests)

sized_again : (n v : ℕ) → v ≤ greatest → sized n (at_most_greatest v) ≡ Token (k.Number v) n
sized_again n v h = ap (λ t. sized n (if t then None else Some v)) (within v h)

number_again : (s : Text) (b : ℕ) (z : Text) → AllOf is_digit s → value s ≤ greatest → Ends b → number (s ++ b ∷ z) ≡ Token (k.Number (value s)) (length s)
unfolding number
number_again s b z all small ends =
    let y : Text = s ++ b ∷ z in
    let size : run y ≡ length s = run_ends is_digit s b z all ends.digit in
    let behind : get_or y (run y) 0 ≡ b = ap (λ n. get_or y n 0) size ∙ first_behind s (b ∷ z) in
    refuse (begins_name (get_or y (run y) 0)) _ _ _ (ap begins_name behind ∙ ends.starts)
    (refuse (get_or y (run y) 0 == 46 && is_digit (get_or y (run y + 1) 0)) _ _ _ (ap (λ v. v && is_digit (get_or y (run y + 1) 0)) (ap (λ c. c == 46) behind ∙ ends.stop))
    (ap (λ n. sized n (at_most_greatest (value (take n y)))) size ∙ ap (λ t. sized (length s) (at_most_greatest (value t))) (take-append_seam s (b ∷ z)) ∙ sized_again (length s) (value s) small))

pub digits_again : (s : Text) (b : ℕ) (z : Text) → 0 < length s → AllOf is_digit s → value s ≤ greatest → Ends b → next_piece (s ++ b ∷ z) ≡ Token (k.Number (value s)) (length s)
digits_again [] b z some all small ends = absurd (omega (arith, some))
digits_again (c ∷ s) b z some all small ends = at_digit c (s ++ b ∷ z) all.0 ∙ number_again (c ∷ s) b z all small ends
