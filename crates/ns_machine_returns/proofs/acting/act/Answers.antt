use Rattle.ns_machine_returns.proofs.acting.act.Goals as goal

pub prepare-above-requires : goal.prepare-above-requires
prepare-above-requires c = (c.args.core.now, c.in-Evaluates.ensures)

pub end_method-requires-clause-asked : goal.end_method-requires-clause-asked
end_method-requires-clause-asked c = (c.args.core.now, c.in-Ends.ensures)

pub returns-in-Evaluates : goal.returns-in-Evaluates
returns-in-Evaluates c = c.prepare-above.ensures.moves c.args.core.now c.in-Evaluates.ensures

pub returns-in-Ends : goal.returns-in-Ends
returns-in-Ends c = c.end_method.ensures c.args.core.now c.in-Ends.ensures
