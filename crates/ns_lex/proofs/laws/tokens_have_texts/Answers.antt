use Rattle.std.proofs.Common.{length, []}
use Rattle.ns_lex.proofs.Texts.{cuts_told, token_told}
use Rattle.ns_lex.proofs.laws.tokens_have_texts.Goals as goal

pub returns-clause-each : goal.returns-clause-each
returns-clause-each c = token_told

pub returns-clause-all : goal.returns-clause-all
returns-clause-all c = λ source tokens cut. cuts_told 0 source tokens (length source) [] cut
