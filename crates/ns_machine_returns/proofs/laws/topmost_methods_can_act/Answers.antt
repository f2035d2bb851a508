use Rattle.ns_machine_returns.proofs.Topmost.{ready_acts}
use Rattle.ns_machine_returns.proofs.laws.topmost_methods_can_act.Goals as goal

pub returns : goal.returns
returns c = ready_acts c.valid_frames_are_framed.ensures.framed
