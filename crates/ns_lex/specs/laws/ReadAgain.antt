-- Before a blank, a text that spells a token is read as that token.
use Rattle.std.proofs.Common.{◌≡◌, ℕ, ◌≤◌, true, ◌==◌, ◌&&◌, [], ◌∷◌, ◌++◌, length, get_or, refl, sym, ap, subst, ◌∙◌, append_assoc, length-append}
use Rattle.ns_tree.specs.declared.token.Kind.{Kind}
use Rattle.ns_tree.specs.declared.token.Kind.TheVariants as k
use Rattle.ns_lex.specs.Bytes.{is_blank}
use Rattle.ns_lex.specs.Piece.{Text}
use Rattle.ns_lex.specs.Next.{next_piece}
use Rattle.ns_lex.specs.Word.{named}
use Rattle.ns_lex.specs.Number.{greatest}
use Rattle.ns_lex.specs.Single.{single}
use Rattle.ns_lex.specs.declared.piece.Piece.TheVariants.{Token}
use Rattle.ns_lex.specs.Spells.{SpellsToken}
use Rattle.ns_base.specs.Quoted.{doubled}
use Rattle.ns_lex.specs.laws.Blanks.{Ends, blank_ends, refuse}
use Rattle.ns_lex.specs.lemmas.ReadNames.{name_again, key_again, set_again}
use Rattle.ns_lex.specs.lemmas.ReadRuns.{oper_again, digits_again}
use Rattle.ns_lex.specs.lemmas.ReadSymbols.{string_again, symbol_again}

-- ---- signs

open_again : (b : ℕ) (z : Text) → Ends b → next_piece (40 ∷ b ∷ z) ≡ Token k.Open 1
unfolding next_piece single
open_again b z ends = refuse (b == 42) _ _ _ ends.star refl

colon_again : (b : ℕ) (z : Text) → Ends b → next_piece (58 ∷ b ∷ z) ≡ Token k.Colon 1
unfolding next_piece single
colon_again b z ends = refuse (b == 58 && get_or z 0 0 == 61) _ _ _ (ap (λ v. v && get_or z 0 0 == 61) ends.colon) refl

sign_again : (w : Text) (kind : Kind) (b : ℕ) (z : Text) (t : Text) → w ≡ t → next_piece (t ++ b ∷ z) ≡ Token kind (length t) → next_piece (w ++ b ∷ z) ≡ Token kind (length w)
sign_again w kind b z t e h = ap (λ v. next_piece (v ++ b ∷ z)) e ∙ h ∙ ap (λ v. Token kind (length v)) (sym e)

-- ---- each kind

again : (w : Text) (kind : Kind) (b : ℕ) (z : Text) → SpellsToken w kind → Ends b → next_piece (w ++ b ∷ z) ≡ Token kind (length w)
unfolding next_piece single
again w (k.Ident s) b z (name, e, free) ends = sign_again w (k.Ident s) b z s e (name_again s b z name ends ∙ ap (λ r. Token (named s r) (length s)) free)
again w (k.Word r) b z (name, is) ends = name_again w b z name ends ∙ ap (λ r. Token (named w r) (length w)) is
again w (k.Key s) b z ((n, name, cut), e) ends =
    sign_again w (k.Key s) b z (n ++ 58 ∷ []) (e ∙ cut)
    (ap next_piece (append_assoc n (58 ∷ []) (b ∷ z)) ∙ key_again n b z name ends ∙ ap (Token (k.Key (n ++ 58 ∷ []))) (sym (length-append n (58 ∷ []))) ∙ ap (λ t. Token (k.Key t) (length (n ++ 58 ∷ []))) (sym cut))
again w (k.SetKey s) b z (name, e) ends =
    sign_again w (k.SetKey s) b z (s ++ 58 ∷ 58 ∷ []) e (ap next_piece (append_assoc s (58 ∷ 58 ∷ []) (b ∷ z)) ∙ set_again s b z name ends ∙ ap (Token (k.SetKey s)) (sym (length-append s (58 ∷ 58 ∷ []))))
again w (k.Oper s) b z (o, e) ends = sign_again w (k.Oper s) b z s e (oper_again s b z o ends)
again w (k.Number v) b z (some, all, is, small) ends = digits_again w b z some all (subst (λ i. i ≤ greatest) (sym is) small) ends ∙ ap (λ i. Token (k.Number i) (length w)) is
again w (k.Str s) b z e ends = sign_again w (k.Str s) b z (39 ∷ (doubled s ++ 39 ∷ [])) e (string_again s b z ends)
again w (k.Symbol s) b z (form, e) ends = sign_again w (k.Symbol s) b z (35 ∷ s) e (symbol_again s b z form ends)
again w k.Open b z e ends = sign_again w k.Open b z (40 ∷ []) e (open_again b z ends)
again w k.Close b z e ends = sign_again w k.Close b z (41 ∷ []) e refl
again w k.OpenBlock b z e ends = sign_again w k.OpenBlock b z (91 ∷ []) e refl
again w k.CloseBlock b z e ends = sign_again w k.CloseBlock b z (93 ∷ []) e refl
again w k.OpenTuple b z e ends = sign_again w k.OpenTuple b z (123 ∷ []) e refl
again w k.CloseTuple b z e ends = sign_again w k.CloseTuple b z (125 ∷ []) e refl
again w k.Stop b z e ends = sign_again w k.Stop b z (46 ∷ []) e refl
again w k.Semi b z e ends = sign_again w k.Semi b z (59 ∷ []) e refl
again w k.Caret b z e ends = sign_again w k.Caret b z (94 ∷ []) e refl
again w k.Colon b z e ends = sign_again w k.Colon b z (58 ∷ []) e (colon_again b z ends)
again w k.SlotSet b z e ends = sign_again w k.SlotSet b z (58 ∷ 58 ∷ 61 ∷ []) e refl

-- Before a blank, a text that spells a token is read as that token.
pub read_again : (w : Text) (kind : Kind) (b : ℕ) (z : Text) → SpellsToken w kind → is_blank b ≡ true → next_piece (w ++ b ∷ z) ≡ Token kind (length w)
read_again w kind b z spelled blank = again w kind b z spelled (blank_ends b blank)
