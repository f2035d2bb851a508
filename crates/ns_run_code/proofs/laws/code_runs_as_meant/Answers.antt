use Rattle.ns_gen_code.specs.Code.{code_of}
use Rattle.ns_run_code.proofs.Meant.{runs_as_meant}
use Rattle.ns_run_code.proofs.laws.code_runs_as_meant.Goals as goal

pub returns : goal.returns
returns c meant =
    runs_as_meant meant (c.moves_add.ensures.moves (code_of meant)) (c.ended_runs_stay.ensures (code_of meant)) (c.code_comes_to_its_end.ensures (code_of meant))
    (c.the_machine_does_what_is_meant.ensures.ends meant) (c.the_machine_does_what_is_meant.ensures.reported meant)
