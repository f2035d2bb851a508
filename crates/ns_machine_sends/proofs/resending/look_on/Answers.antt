use Rattle.ns_world.specs.Starts.{start_of}
use Rattle.ns_find.specs.declared.found.Sending.TheVariants.{Plain}
use Rattle.ns_find.specs.Find.{found_from}
use Rattle.ns_machine_frames.specs.View.{site_shown}
use Rattle.ns_machine_sends.specs.Waiting.{looked_on}
use Rattle.ns_machine_sends.proofs.Resent.{answer_can_on, answer_is, answer_goes, answer_led}
use Rattle.ns_machine_sends.specs.laws.Stepped.{no_one}
use Rattle.ns_machine_sends.proofs.resending.look_on.Goals as goal

pub come_to-requires-clause-goes : goal.come_to-requires-clause-goes
come_to-requires-clause-goes c =
    answer_goes c.args.code.now c.args.core.now c.args.sent c.args.receiver c.args.sel c.send-answered.new.run c.send-answered.result
    (looked_on c.args.code.now c.args.core.now c.args.sent c.args.receiver c.args.sel)
    (answer_is c.args.code.now c.args.core.now c.args.sent c.args.receiver c.args.sel c.send-answered.new.run c.send-answered.result
    c.as_slice.result.now c.as_slice.ensures
    (c.send-answered.ensures.answered (site_shown c.args.core.now.places c.args.sent.site) no_one))
    c.requires.goes

pub come_to-requires-clause-can : goal.come_to-requires-clause-can
come_to-requires-clause-can c =
    answer_can_on c.args.code.now c.args.core.now c.args.at c.args.sent c.args.receiver c.args.sel c.send-answered.new.run
    (found_from c.args.core.now.run.world.world.cells c.args.code.now (start_of c.args.core.now.run.world.world.cells c.args.receiver) c.args.sel.0 Plain)
    c.send-answered.result c.requires.can
    (c.rows_that_are_found_suit.ensures.value c.args.core.now.run.world.world.cells c.args.code.now c.args.receiver c.args.sel.0 Plain)
    c.send-answered.ensures.member

pub returns : goal.returns
returns c =
    answer_led c.args.code.now c.args.core.now c.come_to.new.core c.args.at c.args.sent c.args.receiver c.args.sel c.send-answered.new.run c.send-answered.result
    (looked_on c.args.code.now c.args.core.now c.args.sent c.args.receiver c.args.sel) c.come_to.result
    (answer_is c.args.code.now c.args.core.now c.args.sent c.args.receiver c.args.sel c.send-answered.new.run c.send-answered.result
    c.as_slice.result.now c.as_slice.ensures
    (c.send-answered.ensures.answered (site_shown c.args.core.now.places c.args.sent.site) no_one))
    c.send-answered.ensures.rest c.send-answered.ensures.kept c.come_to.ensures
