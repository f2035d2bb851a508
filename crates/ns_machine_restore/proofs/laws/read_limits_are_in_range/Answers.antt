use Rattle.ns_machine_restore.proofs.Limits.{limits_read}
use Rattle.ns_machine_restore.proofs.laws.read_limits_are_in_range.Goals as goal

pub returns : goal.returns
returns c = limits_read
