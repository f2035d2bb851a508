-- Before a blank, names and keys are read again.
use Rattle.std.proofs.Common.{◌≡◌, ℕ, ◌+◌, true, false, ◌==◌, ◌&&◌, [], ◌∷◌, ◌++◌, length, get_or, refl, ap, ◌∙◌, arith}
use Rattle.std.proofs.Math.Seq.{take-append_seam, take-append-add}
use Rattle.std.proofs.lemmas.Bool.Decides.{nat_tests}
use Rattle.ns_base.specs.Spelling.{begins_name}
use Rattle.ns_tree.specs.declared.token.Kind.TheVariants as k
use Rattle.ns_lex.specs.Bytes.{is_blank}
use Rattle.ns_lex.specs.Piece.{Text}
use Rattle.ns_lex.specs.Next.{next_piece}
use Rattle.ns_lex.specs.Word.{word, word_by, name_len, named, reserved}
use Rattle.ns_lex.specs.declared.piece.Piece.TheVariants.{Token}
use Rattle.ns_lex.specs.Spells.{IsIdentifierText}
use Rattle.ns_lex.specs.laws.Words.{name_end, at_end}
use Rattle.ns_lex.specs.laws.Blanks.{Ends, refuse, accept, first_behind}

name_blank : (c : ℕ) → begins_name c ≡ true → is_blank c ≡ false
name_blank c h = grind (arith, nat_tests)

name_remark : (c : ℕ) → begins_name c ≡ true → (c == 34) ≡ false
name_remark c h = grind (arith, nat_tests)

name_bracket : (c : ℕ) → begins_name c ≡ true → (c == 40) ≡ false
name_bracket c h = grind (arith, nat_tests)

at_name : (n u : Text) → IsIdentifierText n → next_piece (n ++ u) ≡ word (n ++ u)
unfolding next_piece
at_name [] u h = absurd h
at_name (c ∷ n) u h =
    refuse (is_blank c) _ _ _ (name_blank c h.0)
    (refuse (c == 34) _ _ _ (name_remark c h.0)
    (refuse (c == 40 && get_or (c ∷ (n ++ u)) 1 0 == 42) _ _ _ (ap (λ v. v && get_or (c ∷ (n ++ u)) 1 0 == 42) (name_bracket c h.0)) (accept (begins_name c) _ _ _ h.0 refl)))

word_is : (z : Text) (n : ℕ) → name_len z ≡ n → word z ≡ word_by (get_or z n 0 == 58) (get_or z (n + 1) 0 == 58) (get_or z (n + 2) 0 == 61) n z
unfolding word
word_is z n e = ap (λ m. word_by (get_or z m 0 == 58) (get_or z (m + 1) 0 == 58) (get_or z (m + 2) 0 == 61) m z) e

pub name_again : (n : Text) (b : ℕ) (z : Text) → IsIdentifierText n → Ends b → next_piece (n ++ b ∷ z) ≡ Token (named n (reserved n)) (length n)
name_again n b z name ends =
    let y : Text = n ++ b ∷ z in
    let i : ℕ = length n in
    at_name n (b ∷ z) name ∙ word_is y i (name_end n b z name ends.name)
    ∙ ap (λ v. word_by v (get_or y (i + 1) 0 == 58) (get_or y (i + 2) 0 == 61) i y) (ap (λ c. c == 58) (first_behind n (b ∷ z)) ∙ ends.colon)
    ∙ ap (λ t. Token (named t (reserved t)) i) (take-append_seam n (b ∷ z))

pub key_again : (n : Text) (b : ℕ) (z : Text) → IsIdentifierText n → Ends b → next_piece (n ++ 58 ∷ b ∷ z) ≡ Token (k.Key (n ++ 58 ∷ [])) (length n + 1)
key_again n b z name ends =
    let y : Text = n ++ 58 ∷ b ∷ z in
    let i : ℕ = length n in
    at_name n (58 ∷ b ∷ z) name ∙ word_is y i (name_end n 58 (b ∷ z) name refl)
    ∙ ap (λ v. word_by v (get_or y (i + 1) 0 == 58) (get_or y (i + 2) 0 == 61) i y) (ap (λ c. c == 58) (first_behind n (58 ∷ b ∷ z)))
    ∙ ap (λ v. word_by true v (get_or y (i + 2) 0 == 61) i y) (ap (λ c. c == 58) (at_end n (58 ∷ b ∷ z) 1) ∙ ends.colon)
    ∙ ap (λ t. Token (k.Key t) (i + 1)) (take-append-add n (58 ∷ b ∷ z) 1)

pub set_again : (n : Text) (b : ℕ) (z : Text) → IsIdentifierText n → Ends b → next_piece (n ++ 58 ∷ 58 ∷ b ∷ z) ≡ Token (k.SetKey n) (length n + 2)
set_again n b z name ends =
    let y : Text = n ++ 58 ∷ 58 ∷ b ∷ z in
    let i : ℕ = length n in
    at_name n (58 ∷ 58 ∷ b ∷ z) name ∙ word_is y i (name_end n 58 (58 ∷ b ∷ z) name refl)
    ∙ ap (λ v. word_by v (get_or y (i + 1) 0 == 58) (get_or y (i + 2) 0 == 61) i y) (ap (λ c. c == 58) (first_behind n (58 ∷ 58 ∷ b ∷ z)))
    ∙ ap (λ v. word_by true v (get_or y (i + 2) 0 == 61) i y) (ap (λ c. c == 58) (at_end n (58 ∷ 58 ∷ b ∷ z) 1))
    ∙ ap (λ v. word_by true true v i y) (ap (λ c. c == 61) (at_end n (58 ∷ 58 ∷ b ∷ z) 2) ∙ ends.equals)
    ∙ ap (λ t. Token (k.SetKey t) (i + 2)) (take-append_seam n (58 ∷ 58 ∷ b ∷ z))
