use Rattle.ns_kint.proofs.Answering.{simple}
use Rattle.ns_kint.proofs.laws.answers_are_integers_and_booleans.Goals as goal

pub returns : goal.returns
returns c = simple
