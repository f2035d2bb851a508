-- What is answered of a file's tokens, by the grammar alone.
use Rattle.std.specs.Prelude.{◌≡◌, List, Some, None, Result, Ok, Err}
use Rattle.ns_parse.specs.Places.{TokensStopAt}
use Rattle.ns_parse_tokens.specs.declared.fault.ParseFault.{ParseFault}
use Rattle.ns_parse_tokens.specs.declared.fault.ParseFault.TheVariants.{TooDeep, Syntax, Memory}
use Rattle.ns_tree.specs.Deep.{deep}
use Rattle.ns_tree.specs.Plain as p
use Rattle.ns_tree.specs.Tree.{Spells}
use Rattle.ns_tree.specs.declared.token.Kind.{Kind}

-- A tree that the tokens spell, or the token with which no file goes on, where no bracket is too deep; or the first
-- token that opens a bracket too deep.
abbrev pub ParsesAs : List Kind → Result p.SourceUnit ParseFault → Type 0
ParsesAs ts (Ok unit) = Spells ts unit × (deep ts ≡ None)
ParsesAs ts (Err (Syntax k)) = TokensStopAt ts k × (deep ts ≡ None)
ParsesAs ts (Err (TooDeep k)) = deep ts ≡ Some k
ParsesAs ts (Err Memory) = ⊥
