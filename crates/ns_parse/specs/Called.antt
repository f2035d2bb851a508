-- What the call `parse` says of tokens.
use Rattle.std.specs.Prelude.{◌≡◌, ◌≢◌, List, Ok, Err}
use Rattle.ns_parse.specs.Answers.{ParsesAs}
use Rattle.ns_parse.specs.Parse.{parse}
use Rattle.ns_parse_tokens.specs.declared.fault.ParseFault.{ParseFault}
use Rattle.ns_parse_tokens.specs.declared.fault.ParseFault.TheVariants.{Memory}
use Rattle.ns_tree.specs.PlainOf.{unit_of}
use Rattle.ns_tree.specs.declared.token.Kind.{Kind}
use Rattle.ns_tree.specs.declared.tree.Unit as tree

-- The grammar answers the tree.
abbrev pub AnswersTree : List Kind → tree.Unit → Type 0
AnswersTree ts unit = ParsesAs ts (Ok (unit_of unit))

-- The grammar answers the fault. Want of memory says nothing of the tokens.
abbrev pub AnswersFault : List Kind → ParseFault → Type 0
AnswersFault ts fault = fault ≢ Memory → ParsesAs ts (Err fault)

-- The tree is what the definition gives.
abbrev pub GivesTree : List Kind → tree.Unit → Type 0
GivesTree ts unit = parse ts ≡ Ok (unit_of unit)

-- The fault is what the definition gives. Want of memory says nothing of the tokens.
abbrev pub GivesFault : List Kind → ParseFault → Type 0
GivesFault ts fault = fault ≢ Memory → parse ts ≡ Err fault
