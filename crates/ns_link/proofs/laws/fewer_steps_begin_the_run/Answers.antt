use Rattle.ns_gen_code.specs.Code.{code_of}
use Rattle.ns_link.proofs.FewerSteps.{fewer_begin}
use Rattle.ns_link.proofs.laws.fewer_steps_begin_the_run.Goals as goal

pub returns : goal.returns
returns c meant =
    let code = code_of meant in
    fewer_begin meant
    (record { add = c.moves_add.ensures.moves code; stay = c.ended_runs_stay.ensures code; onward = c.moves_go_onward.ensures code })
    (c.the_machine_does_what_is_meant.ensures.ends meant)
