-- What can stand at the front of a text.
use Rattle.std.specs.Prelude.{ℕ, ◌≤◌, List}
use Rattle.ns_lex.specs.declared.piece.Piece.{Piece}
use Rattle.ns_lex.specs.declared.piece.Piece.TheVariants.{Gap, Token, Fault}

abbrev pub Text : Type 0
Text = List ℕ

-- In a text of that length a part of a gap and a token take at least a byte, and no more than there are.
abbrev pub PieceTakes : ℕ → Piece → Type 0
PieceTakes length (Gap n) = (1 ≤ n) × (n ≤ length)
PieceTakes length (Token kind n) = (1 ≤ n) × (n ≤ length)
PieceTakes length (Fault cause n) = n ≤ length
