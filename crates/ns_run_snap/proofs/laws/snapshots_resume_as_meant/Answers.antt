use Rattle.ns_gen_code.specs.Code.{code_of}
use Rattle.ns_run_code.specs.Run.{granted}
use Rattle.ns_run_snap.proofs.Resuming.{resumes_as_meant}
use Rattle.ns_run_snap.proofs.laws.snapshots_resume_as_meant.Goals as goal

pub returns : goal.returns
returns c meant =
    let code = code_of meant in
    resumes_as_meant meant
    (record {
      new = c.new_machines_are_valid.ensures code granted;
      start = c.opening_sends_are_valid.ensures.first code granted;
      turns = c.turns_go_on.ensures code granted;
      still = c.valid_runs_come_to_rest.ensures.still code granted;
      ends = c.code_comes_to_its_end.ensures code;
      back = c.states_thaw_back.ensures code;
      freezes = c.valid_states_freeze.ensures code;
      read = λ frozen. c.written_snapshot_is_read.ensures code frozen;
    })
    (c.code_runs_as_meant.ensures meant)
