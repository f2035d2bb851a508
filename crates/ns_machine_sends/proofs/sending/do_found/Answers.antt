use Rattle.std.proofs.Common.{◌≡◌, sym, subst}
use Rattle.ns_find.specs.declared.found.Found.{Found}
use Rattle.ns_moves.specs.Sends.{To, answered_by}
use Rattle.ns_moves.specs.Suiting.{FoundSuits}
use Rattle.ns_moves.specs.Answered.{answered_shown}
use Rattle.ns_moves.specs.Run.{progress_of}
use Rattle.ns_machine_frames.specs.View.{site_shown}
use Rattle.ns_machine_core.specs.Shown.{progress_in}
use Rattle.ns_machine_sends.specs.Sending.{looked_up}
use Rattle.ns_machine_sends.specs.laws.Looked.{answer_goes, answer_sends}
use Rattle.ns_machine_sends.specs.laws.Stepped.{no_one}
use Rattle.ns_machine_sends.proofs.Stepped.{answer_can, with_values}
use Rattle.ns_machine_sends.proofs.sending.do_found.Goals as goal

pub go_on-requires-clause-goes : goal.go_on-requires-clause-goes
go_on-requires-clause-goes c =
    answer_goes c.args.code.now c.args.core.now c.args.at c.args.sent c.args.receiver c.answered_by-answered.new.run c.answered_by-answered.result
    (looked_up c.args.code.now c.args.core.now c.args.at c.args.sent no_one (To c.args.receiver c.args.kind))
    (with_values c.args.code.now c.args.core.now c.args.at c.args.sent c.args.receiver c.answered_by-answered.new.run c.answered_by-answered.result no_one
    (To c.args.receiver c.args.kind) c.from-arguments.result.now c.from-arguments.ensures
    (subst (λ (f : Found). answered_shown c.args.code.now c.args.sent.site.sel c.args.receiver (site_shown c.args.core.now.places c.args.sent.site)
    c.from-arguments.result.now c.answered_by-answered.result (progress_of c.answered_by-answered.new.run)
    ≡ answered_by c.args.code.now f c.args.sent.site.sel c.args.receiver c.from-arguments.result.now (site_shown c.args.core.now.places c.args.sent.site)
    (progress_in c.args.core.now)) c.requires.found
    (c.answered_by-answered.ensures.answered (site_shown c.args.core.now.places c.args.sent.site))))
    (c.requires.goes no_one)

pub go_on-requires-clause-can : goal.go_on-requires-clause-can
go_on-requires-clause-can c =
    answer_can c.args.code.now c.args.core.now c.args.at c.args.sent c.args.receiver c.answered_by-answered.new.run c.args.found c.answered_by-answered.result
    c.requires.can
    (subst (λ (f : Found). FoundSuits c.args.core.now.run.world.world.cells c.args.receiver f) (sym c.requires.found)
    (c.rows_that_are_found_suit.ensures.value c.args.core.now.run.world.world.cells c.args.code.now c.args.receiver c.args.sent.site.sel.0 c.args.kind))
    c.answered_by-answered.ensures.member

pub returns : goal.returns
returns c activation =
    answer_sends c.args.code.now c.args.core.now c.go_on.new.core c.args.at c.args.sent c.args.receiver c.answered_by-answered.new.run c.answered_by-answered.result
    (looked_up c.args.code.now c.args.core.now c.args.at c.args.sent activation (To c.args.receiver c.args.kind)) c.go_on.result
    (with_values c.args.code.now c.args.core.now c.args.at c.args.sent c.args.receiver c.answered_by-answered.new.run c.answered_by-answered.result activation
    (To c.args.receiver c.args.kind) c.from-arguments.result.now c.from-arguments.ensures
    (subst (λ (f : Found). answered_shown c.args.code.now c.args.sent.site.sel c.args.receiver (site_shown c.args.core.now.places c.args.sent.site)
    c.from-arguments.result.now c.answered_by-answered.result (progress_of c.answered_by-answered.new.run)
    ≡ answered_by c.args.code.now f c.args.sent.site.sel c.args.receiver c.from-arguments.result.now (site_shown c.args.core.now.places c.args.sent.site)
    (progress_in c.args.core.now)) c.requires.found
    (c.answered_by-answered.ensures.answered (site_shown c.args.core.now.places c.args.sent.site))))
    c.answered_by-answered.ensures.rest c.answered_by-answered.ensures.kept c.go_on.ensures
