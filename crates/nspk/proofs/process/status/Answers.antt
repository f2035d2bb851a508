use Rattle.std.proofs.Common.{false, map, string_bytes, drop, IfSome, ap, subst, ◌∙◌}
use Rattle.ns_run.specs.Meaning.{meaning}
use Rattle.ns_run_outcome.specs.Outcome.{Leaves}
use Rattle.ns_system.specs.Line.{AreWords}
use Rattle.nspk.proofs.Words.{same_words}
use Rattle.nspk.proofs.process.status.Goals as goal

pub returns-in-Ok-clause-told : goal.returns-in-Ok-clause-told
returns-in-Ok-clause-told g c = λ told w texts a files h.
    let read = map string_bytes c.in-Ok.line.words.items in
    let r = same_words (drop 1 told) read texts c.in-Ok.line.cut false (subst (λ o. IfSome o (λ all. AreWords (drop 1 all) read c.in-Ok.line.cut)) w c.in-Ok.ensures) a in
    subst (λ words. Leaves (meaning words files) c.answer.result (g.S.Shelf.holds c.args.shelf.now) (g.S.Shelf.holds c.answer.new.shelf)
    (g.O.Sink.written c.args.out.now) (g.O.Sink.written c.answer.new.out) (g.E.Sink.written c.args.err.now) (g.E.Sink.written c.answer.new.err))
    (ap (map string_bytes) c.as_slice.ensures.value ∙ r.1) (c.answer.ensures.told r.0 files h)
