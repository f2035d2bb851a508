-- Texts of tokens with blanks between them.
use Rattle.std.specs.Prelude.{◌≡◌, ℕ, true, List, [], ◌∷◌, ◌++◌}
use Rattle.ns_tree.specs.Tokens.{kinds}
use Rattle.ns_tree.specs.declared.token.Kind.{Kind}
use Rattle.ns_tree.specs.declared.token.Token.{Token}
use Rattle.ns_lex.specs.Bytes.{is_blank}
use Rattle.ns_lex.specs.Lexes.{Lexes}
use Rattle.ns_lex.specs.Piece.{Text}
use Rattle.ns_lex.specs.Spells.{AllOf, SpellsToken}

-- The text is a text of each kind, each with a blank behind it, and then blanks.
abbrev pub IsSpaced : Text → List Kind → Type 0
IsSpaced z [] = AllOf is_blank z
IsSpaced z (kind ∷ rest) = (w : Text) × (b : ℕ) × (u : Text) × SpellsToken w kind × (is_blank b ≡ true) × (z ≡ w ++ b ∷ u) × IsSpaced u rest

-- Tokens of these kinds cut the source.
abbrev pub LexesTo : Text → List Kind → Type 0
LexesTo source wanted = (tokens : List Token) × Lexes source tokens × (kinds tokens ≡ wanted)
