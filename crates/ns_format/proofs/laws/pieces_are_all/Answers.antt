use Rattle.ns_format.proofs.Kept.{pieces_all}
use Rattle.ns_format.proofs.laws.pieces_are_all.Goals as goal

pub returns : goal.returns
returns c = pieces_all
