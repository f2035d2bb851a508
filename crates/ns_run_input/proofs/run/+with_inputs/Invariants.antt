use Rattle.std.proofs.Common.{length}
use Rattle.ns_run_input.proofs.run.+with_inputs.Given as goal

abbrev pub decreases-with_inputs : goal.decreases-with_inputs
decreases-with_inputs g l = length l.options.now
