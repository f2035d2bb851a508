use Rattle.ns_run.proofs.ReportLaws.{names_missing, on_true}
use Rattle.ns_run.proofs.top.write.Goals as goal

pub returns-then-deliver-clause-missing : goal.returns-then-deliver-clause-missing
returns-then-deliver-clause-missing g c = λ reading refused tells.
    names_missing reading c.args.report.now (g.E.Sink.written c.args.err.now) (g.E.Sink.written c.deliver.new.err) refused
    (on_true _ _ c.if-deliver.true c.deliver.ensures.err) tells
