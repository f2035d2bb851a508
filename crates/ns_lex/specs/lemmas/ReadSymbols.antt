-- Before a blank, strings and symbols are read again.
use Rattle.std.proofs.Common.{◌≡◌, ◌≢◌, ℕ, ◌+◌, ◌<◌, inl, inr, true, false, ◌==◌, if◌then◌else◌, List, [], ◌∷◌, ◌++◌, length, refl, ap, ◌∙◌, append_assoc, length-append, arith}
use Rattle.std.proofs.Math.Seq.{take-append_seam}
use Rattle.std.proofs.lemmas.Bool.{eq-eqb}
use Rattle.std.proofs.lemmas.Bool.Decides.{nat_tests}
use Rattle.ns_tree.specs.declared.token.Kind.TheVariants as k
use Rattle.ns_lex.specs.Piece.{Text}
use Rattle.ns_lex.specs.Next.{next_piece}
use Rattle.ns_lex.specs.Word.{name_len}
use Rattle.ns_lex.specs.Quoted.{quoted, quoted_from, closed}
use Rattle.ns_lex.specs.Symbol.{symbol, symbol_of, selector_len, keys_from}
use Rattle.ns_lex.specs.declared.piece.Piece.TheVariants.{Token}
use Rattle.ns_lex.specs.Spells.{AllOf, IsIdentifierText, IsKeysText, IsOperator}
use Rattle.ns_base.specs.Quoted.{doubled}
use Rattle.ns_base.specs.Spelling.{begins_name, goes_on_name, is_operator_byte}
use Rattle.ns_lex.specs.laws.Words.{name_end}
use Rattle.ns_lex.specs.lemmas.Strings.{finds}
use Rattle.ns_lex.specs.laws.Symbols.{IsSelector, no_colon, key_then, keys_start, oper_start, no_oper}
use Rattle.ns_lex.specs.laws.Blanks.{Ends, refuse, accept}
use Rattle.ns_lex.specs.lemmas.ReadRuns.{len_again}

-- ---- strings

no_quote : (b : ℕ) → (b == 39) ≡ false → b ≢ 39
no_quote b h e = let f : (b == 39) ≡ true = eq-eqb b 39 e in cc

pub string_again : (s : Text) (b : ℕ) (z : Text) → Ends b → next_piece (39 ∷ ((doubled s ++ 39 ∷ []) ++ b ∷ z)) ≡ Token (k.Str s) (length (39 ∷ (doubled s ++ 39 ∷ [])))
unfolding next_piece quoted
string_again s b z ends =
    ap (λ w. closed (quoted_from false [] 1 w)) (append_assoc (doubled s) (39 ∷ []) (b ∷ z)) ∙ ap closed (finds [] 1 s (b ∷ z) (no_quote b ends.quote))
    ∙ ap (Token (k.Str s)) (omega (arith, length-append (doubled s) (39 ∷ [])))

-- ---- symbols

-- a name without a colon is no key
no_keys : (far at : ℕ) (n : Text) (b : ℕ) (z : Text) → AllOf goes_on_name n → Ends b → keys_from far true at (n ++ b ∷ z) ≡ far
no_keys far at [] b z all ends = refuse (b == 58) _ _ _ ends.colon (refuse (goes_on_name b) _ _ _ ends.name refl)
no_keys far at (c ∷ n) b z all ends = refuse (c == 58) _ _ _ (no_colon c all.0) (accept (goes_on_name c) _ _ _ all.0 (no_keys far (at + 1) n b z all.1 ends))

-- keys are read up to the blank
keys_again : (far at : ℕ) (s : Text) (ks : List Text) (b : ℕ) (z : Text) → IsKeysText s ks → Ends b → keys_from far false at (s ++ b ∷ z) ≡ at + length s
keys_again far at s [] b z x ends = absurd x
keys_again far at s (m ∷ []) b z ((n, name, e), f) ends =
    let cut : s ++ b ∷ z ≡ n ++ 58 ∷ b ∷ z = ap (λ w. w ++ b ∷ z) (f ∙ e) ∙ append_assoc n (58 ∷ []) (b ∷ z) in
    let i : ℕ = at + length n + 1 in
    ap (keys_from far false at) cut ∙ key_then far at n (b ∷ z) name ∙ refuse (begins_name b) (keys_from i true (i + 1) z) i i ends.starts refl
    ∙ omega (arith, ap length (f ∙ e), length-append n (58 ∷ []))
keys_again far at s (m ∷ l ∷ ks) b z ((n, name, e), (u, f, x)) ends =
    let whole : s ≡ n ++ 58 ∷ u = f ∙ ap (λ w. w ++ u) e ∙ append_assoc n (58 ∷ []) u in
    let i : ℕ = at + length n + 1 in
    ap (λ w. keys_from far false at (w ++ b ∷ z)) whole ∙ ap (keys_from far false at) (append_assoc n (58 ∷ u) (b ∷ z)) ∙ key_then far at n (u ++ b ∷ z) name ∙ keys_again i i u (l ∷ ks) b z x ends
    ∙ omega (arith, ap length whole, length-append n (58 ∷ u))

-- how long the selector is that a name begins
named_len : (c : ℕ) (y : Text) (n : ℕ) → begins_name c ≡ true → (if keys_from 0 false 0 (c ∷ y) == 0 then name_len (c ∷ y) else keys_from 0 false 0 (c ∷ y)) ≡ n → selector_len (c ∷ y) ≡ n
unfolding selector_len
named_len c y n h e = refuse (is_operator_byte c) _ _ _ (no_oper c h) (accept (begins_name c) _ _ _ h e)

no_key : (c : ℕ) (n : Text) (b : ℕ) (z : Text) → IsIdentifierText (c ∷ n) → Ends b → keys_from 0 false 0 (c ∷ (n ++ b ∷ z)) ≡ 0
no_key c n b z name ends = accept (begins_name c) _ _ _ name.0 (no_keys 0 1 n b z name.1 ends)

not_none : (n : ℕ) → 0 < n → (n == 0) ≡ false
not_none n h = grind (arith, nat_tests)

keys_len : (c : ℕ) (s : Text) (ks : List Text) (b : ℕ) (z : Text) → IsKeysText (c ∷ s) ks → Ends b → selector_len (c ∷ (s ++ b ∷ z)) ≡ length (c ∷ s)
keys_len c s ks b z x ends =
    let all : keys_from 0 false 0 (c ∷ (s ++ b ∷ z)) ≡ length (c ∷ s) = keys_again 0 0 (c ∷ s) ks b z x ends ∙ omega arith in
    named_len c (s ++ b ∷ z) (length (c ∷ s)) (keys_start c s ks x) (refuse (keys_from 0 false 0 (c ∷ (s ++ b ∷ z)) == 0) _ _ _ (ap (λ n. n == 0) all ∙ not_none (length (c ∷ s)) (omega arith)) all)

oper_len : (c : ℕ) (s : Text) (b : ℕ) (z : Text) → IsOperator (c ∷ s) → Ends b → selector_len (c ∷ (s ++ b ∷ z)) ≡ length (c ∷ s)
unfolding selector_len
oper_len c s b z o ends = accept (is_operator_byte c) _ _ _ (oper_start c s o) (len_again (c ∷ s) b z o ends)

selector_again : (s : Text) (b : ℕ) (z : Text) → IsSelector s → Ends b → (selector_len (s ++ b ∷ z) ≡ length s) × (0 < length s)
selector_again [] b z (inl name) ends = absurd name
selector_again [] b z (inr (inl ([], x))) ends = absurd x
selector_again [] b z (inr (inl (m ∷ [], ((n, name, e), f)))) ends = absurd (omega (arith, ap length (f ∙ e), length-append n (58 ∷ [])))
selector_again [] b z (inr (inl (m ∷ l ∷ ks, ((n, name, e), (u, f, x))))) ends = absurd (omega (arith, ap length (f ∙ ap (λ w. w ++ u) e), length-append (n ++ 58 ∷ []) u, length-append n (58 ∷ [])))
selector_again [] b z (inr (inr (inl o))) ends = absurd (omega (arith, o.0))
selector_again [] b z (inr (inr (inr e))) ends = absurd cc
selector_again (c ∷ s) b z (inl name) ends = (
  named_len c (s ++ b ∷ z) (length (c ∷ s)) name.0
      (accept (keys_from 0 false 0 (c ∷ (s ++ b ∷ z)) == 0) _ _ _ (ap (λ n. n == 0) (no_key c s b z name ends)) (name_end (c ∷ s) b z name ends.name)),
  omega arith,
)
selector_again (c ∷ s) b z (inr (inl (ks, x))) ends = (keys_len c s ks b z x ends, omega arith)
selector_again (c ∷ s) b z (inr (inr o)) ends = (oper_len c s b z o ends, omega arith)

pub symbol_again : (s : Text) (b : ℕ) (z : Text) → IsSelector s → Ends b → next_piece (35 ∷ (s ++ b ∷ z)) ≡ Token (k.Symbol s) (length (35 ∷ s))
unfolding next_piece symbol
symbol_again s b z form ends =
    let x = selector_again s b z form ends in
    ap (λ n. symbol_of n (s ++ b ∷ z)) x.0
    ∙ refuse (length s == 0) _ _ _ (not_none (length s) x.1) (ap (λ t. Token (k.Symbol t) (length s + 1)) (take-append_seam s (b ∷ z)) ∙ ap (Token (k.Symbol s)) (omega arith))
