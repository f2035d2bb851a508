use Rattle.ns_lex.specs.laws.ReadAgain.{read_again}
use Rattle.ns_lex.proofs.laws.texts_are_read_again.Goals as goal

pub returns : goal.returns
returns c = λ w z kind b. read_again w kind b z
