-- Texts of tokens with blanks between them are cut into these tokens.
use Rattle.std.proofs.Common.{◌≡◌, ℕ, ◌+◌, ◌<◌, true, List, [], ◌∷◌, ◌++◌, Ok, length, refl, sym, ap, ◌∙◌, length-append, arith}
use Rattle.std.proofs.Math.Seq.{drop-append_seam}
use Rattle.ns_tree.specs.Tokens.{kinds}
use Rattle.ns_tree.specs.declared.token.Kind.{Kind}
use Rattle.ns_tree.specs.declared.token.Token.{Token}
use Rattle.ns_lex.specs.Bytes.{is_blank}
use Rattle.ns_lex.specs.Piece.{Text}
use Rattle.ns_lex.specs.Scan.{scan_from, before}
use Rattle.ns_lex.specs.Spaced.{IsSpaced, LexesTo}
use Rattle.ns_lex.specs.Spells.{AllOf, SpellsToken}
use Rattle.ns_lex.specs.laws.Cutting.{scan_lexes}
use Rattle.ns_lex.specs.lemmas.OneKind.{spelled_some}
use Rattle.ns_lex.specs.laws.Blanks.{blank_read}
use Rattle.ns_lex.specs.laws.ReadAgain.{read_again}
use Rattle.ns_lex.specs.laws.Steps.{gap_goes, token_goes, ends}

-- The scan of a text gives tokens of these kinds.
record ScansTo (at : ℕ) (z : Text) (wanted : List Kind) : Type 0 where
  tokens : List Token
  scanned : scan_from 0 at z ≡ Ok tokens
  same : kinds tokens ≡ wanted

-- behind a blank
blank_goes : (at b : ℕ) (z : Text) → is_blank b ≡ true → scan_from 0 at (b ∷ z) ≡ scan_from 0 (at + 1) z
blank_goes at b z h = gap_goes (b ∷ z) 1 at (omega arith) (sym (blank_read b z h)) (omega arith) (omega arith)

-- behind a token and a blank
step_goes : (at : ℕ) (w : Text) (kind : Kind) (b : ℕ) (u : Text) → SpellsToken w kind → is_blank b ≡ true
    → scan_from 0 at (w ++ b ∷ u) ≡ before (record { kind = kind; start = at; «end» = at + length w } ∷ []) (scan_from 0 (at + length w + 1) u)
step_goes at w kind b u spelled blank =
    let t : Token = record { kind = kind; start = at; «end» = at + length w } in
    let size : length (w ++ b ∷ u) ≡ length w + length (b ∷ u) = length-append w (b ∷ u) in
    let some : 0 < length w = spelled_some w kind spelled in
    token_goes (w ++ b ∷ u) kind (length w) at (omega (arith, size)) (sym (read_again w kind b u spelled blank)) (omega (arith, some)) (omega (arith, size))
    ∙ ap (λ y. before (t ∷ []) (scan_from 0 (at + length w) y)) (drop-append_seam w (b ∷ u)) ∙ ap (before (t ∷ [])) (blank_goes (at + length w) b u blank)

blanks_end : (at : ℕ) (z : Text) → AllOf is_blank z → scan_from 0 at z ≡ Ok []
blanks_end at [] h = ends at
blanks_end at (b ∷ z) h = blank_goes at b z h.0 ∙ blanks_end (at + 1) z h.1

spaced_scan : (at : ℕ) (z : Text) (wanted : List Kind) → IsSpaced z wanted → ScansTo at z wanted
spaced_scan at z [] h = record { tokens = []; scanned = blanks_end at z h; same = refl }
spaced_scan at z (kind ∷ rest) (w, b, u, spelled, blank, cut, more) =
    let x : ScansTo (at + length w + 1) u rest = spaced_scan (at + length w + 1) u rest more in
    let t : Token = record { kind = kind; start = at; «end» = at + length w } in
    record {
      tokens = t ∷ x.tokens;
      scanned = ap (scan_from 0 at) cut ∙ step_goes at w kind b u spelled blank ∙ ap (before (t ∷ [])) x.scanned;
      same = ap (λ ks. kind ∷ ks) x.same;
    }

-- Texts of tokens with blanks between them are cut into these tokens.
pub spaced_lexes : (source : Text) (wanted : List Kind) → IsSpaced source wanted → LexesTo source wanted
spaced_lexes source wanted h =
    let x : ScansTo 0 source wanted = spaced_scan 0 source wanted h in
    (x.tokens, scan_lexes source x.tokens x.scanned, x.same)
