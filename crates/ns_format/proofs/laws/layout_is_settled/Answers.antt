use Rattle.std.proofs.Common.{ap}
use Rattle.ns_format.specs.Format.{laid}
use Rattle.ns_format.proofs.laws.layout_is_settled.Goals as goal

pub returns : goal.returns
returns c = λ source tokens lexes. ap laid (c.pieces_are_kept.ensures.same source tokens lexes)
