-- What a text consists of.
use Rattle.std.specs.Prelude.{◌≡◌, ◌⊎◌, List, [], ◌∷◌, ◌++◌}
use Rattle.ns_tree.specs.declared.token.Kind.{Kind}
use Rattle.ns_lex.specs.Bytes.{is_blank}
use Rattle.ns_lex.specs.Gap.{IsComment, IsRemark}
use Rattle.ns_lex.specs.Piece.{Text}
use Rattle.ns_lex.specs.Spells.{AllOf, SpellsToken}
use Rattle.ns_format.specs.declared.piece.Mark.{Mark}
use Rattle.ns_format.specs.declared.piece.Mark.TheVariants as mark
use Rattle.ns_format.specs.declared.piece.Piece.{Piece}

-- The text is that of these pieces, with blanks alone before, between and behind them.
abbrev pub Consists : Text → List Piece → Type 0
Consists z [] = AllOf is_blank z
Consists z (p ∷ ps) = (g q : Text) × AllOf is_blank g × (z ≡ g ++ (p.text ++ q)) × Consists q ps

-- The text is a comment, or spells the token.
abbrev pub IsMarked : Text → Mark → Type 0
IsMarked w (mark.Token kind) = SpellsToken w kind
IsMarked w mark.Comment = IsComment w ⊎ IsRemark w

-- The text of each piece is what the piece is said to be.
abbrev pub AreMarked : List Piece → Type 0
AreMarked [] = Unit {0}
AreMarked (p ∷ ps) = IsMarked p.text p.mark × AreMarked ps

-- the kinds of tokens, with that of a piece before them if it is a token
abbrev pub kinds_with : Mark → List Kind → List Kind
kinds_with (mark.Token kind) kinds = kind ∷ kinds
kinds_with mark.Comment kinds = kinds

-- the kinds of the tokens among pieces
abbrev pub kinds_in : List Piece → List Kind
kinds_in [] = []
kinds_in (p ∷ ps) = kinds_with p.mark (kinds_in ps)

-- These are the tokens of these kinds, and comments, of which the text consists.
pub record ArePieces (ps : List Piece) (z : Text) (wanted : List Kind) : Type 0 where
  pub consists : Consists z ps
  pub marked : AreMarked ps
  pub kinds : kinds_in ps ≡ wanted
