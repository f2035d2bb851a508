use Rattle.std.proofs.Common.{ap, subst, ◌∙◌}
use Rattle.ns_run.proofs.top.refuse_cut.Goals as goal
use Rattle.ns_run_outcome.specs.Outcome.{LeavesStreams}
use Rattle.ns_run_outcome.specs.Report.{bad_word}
use Rattle.ns_run_outcome.specs.declared.report.Report.{Report}

pub returns-in-Ok-clause-told : goal.returns-in-Ok-clause-told
returns-in-Ok-clause-told g c =
    subst (λ (report : Report). LeavesStreams report c.write.result (g.O.Sink.written c.args.out.now) (g.O.Sink.written c.write.new.out)
    (g.E.Sink.written c.args.err.now) (g.E.Sink.written c.write.new.err)) (c.in-Ok.ensures ∙ ap bad_word c.first_bad.ensures) c.write.ensures.streams
