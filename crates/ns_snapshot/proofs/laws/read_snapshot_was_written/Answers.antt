use Rattle.ns_snapshot.proofs.Wholes.{read_was_written}
use Rattle.ns_snapshot.proofs.laws.read_snapshot_was_written.Goals as goal

pub returns : goal.returns
returns c = read_was_written c.read_code_was_written.ensures c.image_is_written_again.ensures
