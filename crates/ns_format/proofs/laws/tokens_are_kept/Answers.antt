use Rattle.ns_format.proofs.Kept.{tokens_kept}
use Rattle.ns_format.proofs.laws.tokens_are_kept.Goals as goal

pub returns : goal.returns
returns c = tokens_kept
