use Rattle.ns_run_told.proofs.Lines.{lines_tell_ends}
use Rattle.ns_run_told.proofs.laws.lines_tell_ends.Goals as goal

pub returns : goal.returns
returns c = lines_tell_ends
