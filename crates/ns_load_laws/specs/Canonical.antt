-- Sources of trees, and the canonical one among them.
use Rattle.std.specs.Prelude.{◌≡◌, ℕ, List, Ok}
use Rattle.ns_lex.specs.Lexes.{Lexes}
use Rattle.ns_lex.specs.Scan.{scan}
use Rattle.ns_parse.specs.Parse.{parse}
use Rattle.ns_print.specs.Printed.{printed}
use Rattle.ns_tree.specs.Flat.{flat}
use Rattle.ns_tree.specs.Plain.{SourceUnit}
use Rattle.ns_tree.specs.Tokens.{kinds}
use Rattle.ns_tree.specs.Tree.{Spells}
use Rattle.ns_tree.specs.declared.token.Kind.{Kind}
use Rattle.ns_tree.specs.declared.token.Token.{Token}

-- Tokens that spell the tree cut the source.
abbrev pub IsSourceOf : List ℕ → SourceUnit → Type 0
IsSourceOf source unit = (tokens : List Token) × Lexes source tokens × Spells (kinds tokens) unit

-- The scan of the source gives tokens of these kinds.
abbrev pub ScansTo : List ℕ → List Kind → Type 0
ScansTo source wanted = (tokens : List Token) × (scan source ≡ Ok tokens) × (kinds tokens ≡ wanted)

-- The source is scanned, and its tokens are parsed to the tree.
abbrev pub IsParsedTo : List ℕ → SourceUnit → Type 0
IsParsedTo source unit = (tokens : List Token) × (scan source ≡ Ok tokens) × (parse (kinds tokens) ≡ Ok unit)

-- the canonical source of a tree
abbrev pub canonical : SourceUnit → List ℕ
canonical unit = printed (flat unit)
