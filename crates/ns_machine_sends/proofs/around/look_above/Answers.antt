use Rattle.ns_moves.specs.Bodies.{side_of_body}
use Rattle.ns_moves.specs.Sends.{ToSuper, found_at}
use Rattle.ns_moves.specs.Running.{code_of}
use Rattle.ns_machine_frames.specs.View.{site_shown}
use Rattle.ns_machine_sends.specs.Sending.{looked_up}
use Rattle.ns_machine_sends.specs.laws.Looked.{answer_goes, answer_sends}
use Rattle.ns_machine_sends.proofs.Stepped.{answer_can, with_values}
use Rattle.ns_machine_sends.proofs.around.look_above.Goals as goal

pub go_on-requires-clause-goes : goal.go_on-requires-clause-goes
go_on-requires-clause-goes c =
    answer_goes c.args.code.now c.args.core.now c.args.at c.args.sent c.args.running.me c.send_super-answered.new.run c.send_super-answered.result
    (looked_up c.args.code.now c.args.core.now c.args.at c.args.sent (code_of c.args.running) ToSuper)
    (with_values c.args.code.now c.args.core.now c.args.at c.args.sent c.args.running.me c.send_super-answered.new.run c.send_super-answered.result
    (code_of c.args.running) ToSuper c.from-arguments.result.now c.from-arguments.ensures
    (c.send_super-answered.ensures.answered (site_shown c.args.core.now.places c.args.sent.site)))
    c.requires.goes

pub go_on-requires-clause-can : goal.go_on-requires-clause-can
go_on-requires-clause-can c =
    answer_can c.args.code.now c.args.core.now c.args.at c.args.sent c.args.running.me c.send_super-answered.new.run
    (found_at c.args.core.now.run.world.world.cells c.args.code.now (code_of c.args.running) ToSuper c.args.sent.site.sel.0) c.send_super-answered.result
    c.requires.can
    (c.rows_that_are_found_suit.ensures.above c.args.core.now.run.world.world.cells c.args.code.now c.args.running.me c.args.running.holder
    (side_of_body c.args.code.now c.args.running.body) c.args.sent.site.sel.0)
    c.send_super-answered.ensures.member

pub returns : goal.returns
returns c =
    answer_sends c.args.code.now c.args.core.now c.go_on.new.core c.args.at c.args.sent c.args.running.me c.send_super-answered.new.run c.send_super-answered.result
    (looked_up c.args.code.now c.args.core.now c.args.at c.args.sent (code_of c.args.running) ToSuper) c.go_on.result
    (with_values c.args.code.now c.args.core.now c.args.at c.args.sent c.args.running.me c.send_super-answered.new.run c.send_super-answered.result
    (code_of c.args.running) ToSuper c.from-arguments.result.now c.from-arguments.ensures
    (c.send_super-answered.ensures.answered (site_shown c.args.core.now.places c.args.sent.site)))
    c.send_super-answered.ensures.rest c.send_super-answered.ensures.kept c.go_on.ensures
