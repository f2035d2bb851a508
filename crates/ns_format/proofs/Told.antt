-- The pieces of a source are its tokens and comments, and it has nothing else but blanks.
use Rattle.std.proofs.Common.{◌≡◌, ℕ, ◌<◌, ◌⊎◌, inl, inr, false, true, List, [], ◌∷◌, ◌++◌, Ok, length, take, drop, refl, sym, ap, subst, ◌∙◌, arith}
use Rattle.std.proofs.Math.Seq.{take-append_seam}
use Rattle.ns_tree.specs.Tokens.{kinds}
use Rattle.ns_tree.specs.declared.token.Kind.{Kind}
use Rattle.ns_tree.specs.declared.token.Token.{Token}
use Rattle.ns_lex.specs.Bytes.{is_blank}
use Rattle.ns_lex.specs.Gap.{IsGapPart, IsComment, IsRemark}
use Rattle.ns_lex.specs.Next.{next_piece}
use Rattle.ns_lex.specs.Piece.{Text}
use Rattle.ns_lex.specs.Scan.{scan_from}
use Rattle.ns_lex.specs.Spells.{SpellsToken}
use Rattle.ns_lex.specs.declared.piece.Piece.TheVariants as lexed
use Rattle.ns_lex.specs.laws.Stands.{stands_spells}
use Rattle.ns_lex.specs.laws.Gaps.{IsPart}
use Rattle.ns_lex.specs.laws.Pieces.{next_gap, next_token, IsFirst}
use Rattle.ns_lex.specs.laws.Singles.{clash, same_first}
use Rattle.ns_format.specs.declared.piece.Gap.{Gap}
use Rattle.ns_format.specs.declared.piece.Gap.TheVariants as gap
use Rattle.ns_format.specs.declared.piece.Piece.{Piece}
use Rattle.ns_format.specs.Consists.{ArePieces, Consists}
use Rattle.ns_format.specs.Pieces.{pieces_from, with_blank}
use Rattle.ns_format.proofs.Again.{blank_goes, comment_goes, token_piece}
use Rattle.ns_format.proofs.Over.{Keeps, over_pieces}
use Rattle.ns_format.proofs.Steps.{ends}

-- The pieces of a text behind a gap are what it consists of.
abbrev Told : Gap → Text → List Kind → Type 0
Told g z wanted = ArePieces (pieces_from 0 g z) z wanted

-- one more blank
blank_more : (b : ℕ) (z : Text) (ps : List Piece) → is_blank b ≡ true → Consists z ps → Consists (b ∷ z) ps
blank_more b z [] h x = (h, x)
blank_more b z (p ∷ ps) h (g, q, all, cut, more) = (b ∷ g, q, (h, all), ap (λ v. b ∷ v) cut, more)

no_blank : (b : ℕ) (w : Text) → is_blank b ≡ false → IsGapPart (b ∷ w) → IsComment (b ∷ w) ⊎ IsRemark (b ∷ w)
no_blank b w h (inl (c, k, e)) = absurd (clash (is_blank b) h (ap is_blank (same_first b c w [] e) ∙ k))
no_blank b w h (inr x) = x

spelled : (w z : Text) (kind : Kind) → 0 < length w → next_piece (w ++ z) ≡ lexed.Token kind (length w) → SpellsToken w kind
spelled [] z kind some e = absurd (omega (arith, some))
spelled (b ∷ w) z kind some e =
    let first : IsFirst (b ∷ (w ++ z)) kind (length (b ∷ w)) = next_token b (w ++ z) kind (length (b ∷ w)) e in
    subst (λ v. SpellsToken v kind) (take-append_seam (b ∷ w) z) (stands_spells (take (length (b ∷ w)) (b ∷ (w ++ z))) (drop (length (b ∷ w)) (b ∷ (w ++ z))) kind first.token.next.0)

told_blank : (g : Gap) (b : ℕ) (z : Text) (wanted : List Kind) → is_blank b ≡ true → Told (with_blank b g) z wanted → Told g (b ∷ z) wanted
told_blank g b z wanted blank x =
    let ps : List Piece = pieces_from 0 (with_blank b g) z in
    subst (λ v. ArePieces v (b ∷ z) wanted) (sym (blank_goes b g z blank)) (record { consists = blank_more b z ps blank x.consists; marked = x.marked; kinds = x.kinds })

told_comment : (g : Gap) (b : ℕ) (w z : Text) (wanted : List Kind) → is_blank b ≡ false → next_piece (b ∷ (w ++ z)) ≡ lexed.Gap (length (b ∷ w))
    → Told gap.Blanks z wanted → Told g (b ∷ (w ++ z)) wanted
told_comment g b w z wanted blank is x =
    let part : IsPart (b ∷ (w ++ z)) (length (b ∷ w)) = next_gap b (w ++ z) (length (b ∷ w)) is in
    subst (λ v. ArePieces v (b ∷ (w ++ z)) wanted) (sym (comment_goes b w z g blank is))
    (record { consists = ([], z, tt, refl, x.consists); marked = (no_blank b w blank (subst IsGapPart (take-append_seam (b ∷ w) z) part.part), x.marked); kinds = x.kinds })

told_token : (g : Gap) (w z : Text) (kind : Kind) (wanted : List Kind) → 0 < length w → next_piece (w ++ z) ≡ lexed.Token kind (length w) → Told gap.Nothing z wanted → Told g (w ++ z) (kind ∷ wanted)
told_token g w z kind wanted some is x =
    subst (λ v. ArePieces v (w ++ z) (kind ∷ wanted)) (sym (token_piece w z kind g some is))
    (record { consists = ([], z, tt, refl, x.consists); marked = (spelled w z kind some is, x.marked); kinds = ap (λ ks. kind ∷ ks) x.kinds })

told_end : (g : Gap) → Told g [] []
told_end g = subst (λ v. ArePieces v [] []) (sym (ends g)) (record { consists = tt; marked = tt; kinds = refl })

told_keeps : Keeps Told
told_keeps = record { at_end = told_end; at_blank = told_blank; at_comment = told_comment; at_token = told_token }

-- The pieces of a text whose scan has no fault are what it consists of.
pub pieces_told : (source : Text) (ts : List Token) → scan_from 0 0 source ≡ Ok ts → ArePieces (pieces_from 0 gap.First source) source (kinds ts)
pieces_told source ts e = over_pieces Told told_keeps source ts gap.First e
