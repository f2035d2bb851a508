use Rattle.std.proofs.Common.{◌≡◌, sym, subst}
use Rattle.ns_world.specs.declared.value.Value.{Value}
use Rattle.ns_moves.specs.Answered.{answered_shown, answered}
use Rattle.ns_moves.specs.Run.{progress_of}
use Rattle.ns_machine_core.specs.Shown.{progress_in}
use Rattle.ns_moves.specs.Bodies.{enclosing, side_at}
use Rattle.ns_moves.specs.Sends.{ToPrivate, found_at}
use Rattle.ns_moves.specs.Running.{code_of}
use Rattle.ns_machine_frames.specs.View.{site_shown}
use Rattle.ns_machine_sends.specs.Sending.{looked_up}
use Rattle.ns_machine_sends.specs.laws.Looked.{answer_goes, answer_sends}
use Rattle.ns_machine_sends.proofs.Stepped.{answer_can, with_values}
use Rattle.ns_machine_sends.proofs.around.look_around.Goals as goal

pub go_on-requires-clause-goes : goal.go_on-requires-clause-goes
go_on-requires-clause-goes c =
    answer_goes c.args.code.now c.args.core.now c.args.at c.args.sent c.args.receiver c.send_private-answered.new.run c.send_private-answered.result
    (looked_up c.args.code.now c.args.core.now c.args.at c.args.sent (code_of c.args.running) (ToPrivate c.args.level))
    (with_values c.args.code.now c.args.core.now c.args.at c.args.sent c.args.receiver c.send_private-answered.new.run c.send_private-answered.result
    (code_of c.args.running) (ToPrivate c.args.level) c.from-arguments.result.now c.from-arguments.ensures
    (subst (λ (r : Value). answered_shown c.args.code.now c.args.sent.site.sel r (site_shown c.args.core.now.places c.args.sent.site)
    c.from-arguments.result.now c.send_private-answered.result (progress_of c.send_private-answered.new.run)
    ≡ answered c.args.code.now (code_of c.args.running) (ToPrivate c.args.level) c.args.sent.site.sel c.from-arguments.result.now
    (site_shown c.args.core.now.places c.args.sent.site) (progress_in c.args.core.now)) (sym c.requires.receiver)
    (c.send_private-answered.ensures.answered (site_shown c.args.core.now.places c.args.sent.site))))
    c.requires.goes

pub go_on-requires-clause-can : goal.go_on-requires-clause-can
go_on-requires-clause-can c =
    answer_can c.args.code.now c.args.core.now c.args.at c.args.sent c.args.receiver c.send_private-answered.new.run
    (found_at c.args.core.now.run.world.world.cells c.args.code.now (code_of c.args.running) (ToPrivate c.args.level) c.args.sent.site.sel.0)
    c.send_private-answered.result c.requires.can
    (c.rows_that_are_found_suit.ensures.own c.args.core.now.run.world.world.cells c.args.code.now c.args.receiver
    (enclosing c.args.core.now.run.world.world.cells (code_of c.args.running) c.args.level).holder
    (side_at c.args.code.now (code_of c.args.running) c.args.level) c.args.sent.site.sel.0)
    c.send_private-answered.ensures.member

pub returns : goal.returns
returns c =
    answer_sends c.args.code.now c.args.core.now c.go_on.new.core c.args.at c.args.sent c.args.receiver c.send_private-answered.new.run c.send_private-answered.result
    (looked_up c.args.code.now c.args.core.now c.args.at c.args.sent (code_of c.args.running) (ToPrivate c.args.level)) c.go_on.result
    (with_values c.args.code.now c.args.core.now c.args.at c.args.sent c.args.receiver c.send_private-answered.new.run c.send_private-answered.result
    (code_of c.args.running) (ToPrivate c.args.level) c.from-arguments.result.now c.from-arguments.ensures
    (subst (λ (r : Value). answered_shown c.args.code.now c.args.sent.site.sel r (site_shown c.args.core.now.places c.args.sent.site)
    c.from-arguments.result.now c.send_private-answered.result (progress_of c.send_private-answered.new.run)
    ≡ answered c.args.code.now (code_of c.args.running) (ToPrivate c.args.level) c.args.sent.site.sel c.from-arguments.result.now
    (site_shown c.args.core.now.places c.args.sent.site) (progress_in c.args.core.now)) (sym c.requires.receiver)
    (c.send_private-answered.ensures.answered (site_shown c.args.core.now.places c.args.sent.site))))
    c.send_private-answered.ensures.rest c.send_private-answered.ensures.kept c.go_on.ensures
