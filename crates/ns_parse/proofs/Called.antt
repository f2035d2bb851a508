-- What is given by the definition is answered by the grammar.
use Rattle.std.proofs.Common.{Result, Ok, Err, MatchResult, List}
use Rattle.ns_parse.specs.Called.{AnswersFault, AnswersTree, GivesFault, GivesTree}
use Rattle.ns_parse.proofs.Answered.{answers}
use Rattle.ns_parse_tokens.specs.declared.fault.ParseFault.{ParseFault}
use Rattle.ns_tree.specs.PlainOf.{unit_of}
use Rattle.ns_tree.specs.Tree.{AllHaveText}
use Rattle.ns_tree.specs.declared.token.Kind.{Kind}
use Rattle.ns_tree.specs.declared.tree.Unit as tree

pub given_is_answered : (ts : List Kind) (result : Result tree.Unit ParseFault) → MatchResult result (GivesTree ts) (GivesFault ts) → AllHaveText ts → MatchResult result (AnswersTree ts) (AnswersFault ts)
given_is_answered ts (Ok unit) given told = (answers ts (Ok (unit_of unit)) told).0 given
given_is_answered ts (Err fault) given told = λ known. (answers ts (Err fault) told).0 (given known)
