use Rattle.ns_parse.proofs.Answered.{answers}
use Rattle.ns_parse.proofs.laws.parse_answers_what_the_grammar_says.Goals as goal

pub returns : goal.returns
returns c = answers
