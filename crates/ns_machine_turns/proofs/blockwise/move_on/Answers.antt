use Rattle.ns_machine_turns.proofs.Untouched.{untouched_moves, untouched_running, untouched_runs}
use Rattle.ns_machine_turns.proofs.blockwise.move_on.Goals as goal

pub run_on-requires-clause-runs : goal.run_on-requires-clause-runs
run_on-requires-clause-runs c =
    untouched_runs c.args.code.now c.args.plan.now c.args.own c.args.core.now c.send_on.new.core c.args.at c.requires.runs c.in-None.ensures

pub run_on-requires-clause-running : goal.run_on-requires-clause-running
run_on-requires-clause-running c =
    untouched_running c.args.code.now c.args.core.now c.send_on.new.core c.requires.running c.in-None.ensures

pub returns-in-None : goal.returns-in-None
returns-in-None c =
    untouched_moves c.args.code.now c.args.core.now c.send_on.new.core c.run_on.new.core c.args.at c.run_on.result c.in-None.ensures c.run_on.ensures
