-- The tree of a file's tokens, or its fault.
use Rattle.std.specs.Prelude.{ℕ, List, [], ◌∷◌, length, Option, Some, None, Result, Ok, Err}
use Rattle.ns_tree.specs.declared.token.Kind.{Kind}
use Rattle.ns_tree.specs.Deep.{deep}
use Rattle.ns_tree.specs.Plain as p
use Rattle.ns_parse_tokens.specs.declared.fault.ParseFault.{ParseFault}
use Rattle.ns_parse_tokens.specs.declared.fault.ParseFault.TheVariants.{TooDeep, Syntax}
use Rattle.ns_parse_tokens.specs.Read.{Outcome, got, fault}
use Rattle.ns_parse.specs.Classes.{file}

-- what the readers give of a file; no more brackets nest than there are tokens
abbrev pub unit : List Kind → Outcome p.SourceUnit
unit ts = file (length ts) 0 ts

-- Tokens may not be left.
abbrev pub whole : Outcome p.SourceUnit → Result p.SourceUnit ParseFault
whole (got u n []) = Ok u
whole (got u n (t ∷ ts)) = Err (Syntax n)
whole (fault k) = Err (Syntax k)

abbrev pub parse_by : Option ℕ → Outcome p.SourceUnit → Result p.SourceUnit ParseFault
parse_by (Some k) outcome = Err (TooDeep k)
parse_by None outcome = whole outcome

-- the tree that the tokens spell, or the first token at which it goes wrong
unfoldable pub parse : List Kind → Result p.SourceUnit ParseFault
parse ts = parse_by (deep ts) (unit ts)
