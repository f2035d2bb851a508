use Rattle.ns_snapshot.proofs.Wholes.{written_is_read}
use Rattle.ns_snapshot.proofs.laws.written_snapshot_is_read.Goals as goal

pub returns : goal.returns
returns c = λ code frozen. written_is_read code frozen (c.written_code_is_read.ensures code)
