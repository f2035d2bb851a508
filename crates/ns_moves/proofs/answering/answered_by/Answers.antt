use Rattle.std.proofs.Common.{◌∙◌}
use Rattle.ns_moves.specs.Run.{progress_of}
use Rattle.ns_moves.proofs.Others.{others_answer, few_begun}
use Rattle.ns_moves.proofs.answering.answered_by.Goals as goal

pub done_with-requires-clause-begun : goal.done_with-requires-clause-begun
done_with-requires-clause-begun c = few_begun c.args.code.now c.args.run.now c.requires.ready

pub returns-in_default-clause-answered : goal.returns-in_default-clause-answered
returns-in_default-clause-answered c = λ site.
    c.done_with.ensures.answered site c.args.sel ∙ others_answer c.args.code.now c.args.found c.args.sel c.args.receiver c.args.values.now site (progress_of c.args.run.now) c.in_default.not-Absent
