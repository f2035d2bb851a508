-- What is laid out keeps the tokens and the pieces of its source.
use Rattle.std.proofs.Common.{◌≡◌, List, subst}
use Rattle.ns_tree.specs.Tokens.{kinds}
use Rattle.ns_tree.specs.declared.token.Token.{Token}
use Rattle.ns_lex.specs.Lexes.{Lexes}
use Rattle.ns_lex.specs.Piece.{Text}
use Rattle.ns_lex.specs.Spaced.{LexesTo}
use Rattle.ns_lex.specs.laws.Cutting.{scan_lexes}
use Rattle.ns_lex.specs.laws.Scanned.{lexes_scanned}
use Rattle.ns_format.specs.Consists.{ArePieces}
use Rattle.ns_format.specs.Format.{formatted}
use Rattle.ns_format.specs.Pieces.{pieces}
use Rattle.ns_format.proofs.Again.{laid_again}
use Rattle.ns_format.proofs.Told.{pieces_told}

pub pieces_all : (source : Text) (tokens : List Token) → Lexes source tokens → ArePieces (pieces source) source (kinds tokens)
pieces_all source tokens x = pieces_told source tokens (lexes_scanned source tokens x)

pub pieces_kept : (source : Text) (tokens : List Token) → Lexes source tokens → pieces (formatted source) ≡ pieces source
pieces_kept source tokens x = (laid_again source tokens (lexes_scanned source tokens x)).cut

pub tokens_kept : (source : Text) (tokens : List Token) → Lexes source tokens → LexesTo (formatted source) (kinds tokens)
tokens_kept source tokens x =
    let y = (laid_again source tokens (lexes_scanned source tokens x)).scans 0 in
    (y.0, scan_lexes (formatted source) y.0 y.1, y.2)

-- the pieces of what is laid out are those of the source
pub laid_all : (source : Text) (tokens : List Token) → Lexes source tokens → ArePieces (pieces source) (formatted source) (kinds tokens)
laid_all source tokens x =
    let y = tokens_kept source tokens x in
    subst (λ ps. ArePieces ps (formatted source) (kinds tokens)) (pieces_kept source tokens x) (subst (ArePieces (pieces (formatted source)) (formatted source)) y.2 (pieces_all (formatted source) y.0 y.1))
