use Rattle.ns_run_code.specs.Run.{granted}
use Rattle.ns_run_code.proofs.AtRest.{ends_at_rest, runs_at_rest, sends_at_rest}
use Rattle.ns_run_code.proofs.laws.runs_end_at_rest.Goals as goal

pub returns-clause-valid : goal.returns-clause-valid
returns-clause-valid c code grants =
    ends_at_rest code grants (c.moves_add.ensures.moves code) (c.ended_runs_stay.ensures code)
    (c.valid_runs_come_to_rest.ensures.rests code grants)

pub returns-clause-runs : goal.returns-clause-runs
returns-clause-runs c code =
    runs_at_rest code (c.new_machines_are_valid.ensures code granted) (c.opening_sends_are_valid.ensures.first code granted)
    (ends_at_rest code granted (c.moves_add.ensures.moves code) (c.ended_runs_stay.ensures code)
    (c.valid_runs_come_to_rest.ensures.rests code granted))

pub returns-clause-sends : goal.returns-clause-sends
returns-clause-sends c code grants =
    sends_at_rest code grants (c.sends_of_a_host_are_valid.ensures code grants)
    (ends_at_rest code grants (c.moves_add.ensures.moves code) (c.ended_runs_stay.ensures code)
    (c.valid_runs_come_to_rest.ensures.rests code grants))
