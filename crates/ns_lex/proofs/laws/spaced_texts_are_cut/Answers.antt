use Rattle.ns_lex.proofs.SpacedScan.{spaced_lexes}
use Rattle.ns_lex.proofs.laws.spaced_texts_are_cut.Goals as goal

pub returns : goal.returns
returns c = spaced_lexes
