use Rattle.ns_run_code.specs.Run.{granted}
use Rattle.ns_run_code.proofs.Ends.{code_ends}
use Rattle.ns_run_code.proofs.laws.code_comes_to_its_end.Goals as goal

pub returns : goal.returns
returns c code =
    code_ends code (c.valid_runs_come_to_rest.ensures.rests code granted) (c.new_machines_are_valid.ensures code granted)
    (c.opening_sends_are_valid.ensures.first code granted)
