use Rattle.ns_machine_sends.proofs.Evaluated.{evaluated_goes, evaluated_control, evaluation_goes, evaluation_enters, evaluation_leads, enters_comes}
use Rattle.ns_machine_sends.proofs.waiting.enter_block_kept.Goals as goal

pub arrive_kept-requires-clause-goes : goal.arrive_kept-requires-clause-goes
arrive_kept-requires-clause-goes c =
    evaluation_goes c.args.code.now c.args.core.now c.args.sent c.args.block c.args.core.now.arguments.items c.evaluate-reached.new.world c.evaluate-reached.result
    (evaluated_control c.args.code.now c.args.core.now c.args.sent c.args.block c.evaluate-reached.new.world c.evaluate-reached.result c.as_slice-arguments.result.now
    c.args.core.now.arguments.items c.as_slice-arguments.ensures c.evaluate-reached.ensures.reached)
    (evaluated_goes c.args.code.now c.args.core.now c.args.sent c.args.block c.args.core.now.arguments.items
    (record { lawful = c.sends_keep_lawful.ensures.evaluated; hands = c.what_is_handed_on_fits.ensures; spends = c.actions_spend_exactly.ensures; stays = c.sites_stay.ensures.evaluated })
    c.requires.is)

pub arrive_kept-requires-clause-body : goal.arrive_kept-requires-clause-body
arrive_kept-requires-clause-body c =
    enters_comes c.evaluate-reached.result c.args.core.now.stack.frames.items
    (evaluation_enters c.args.code.now c.args.core.now c.args.sent c.args.block c.args.core.now.arguments.items c.evaluate-reached.new.world c.evaluate-reached.result
    (evaluated_control c.args.code.now c.args.core.now c.args.sent c.args.block c.evaluate-reached.new.world c.evaluate-reached.result c.as_slice-arguments.result.now
    c.args.core.now.arguments.items c.as_slice-arguments.ensures c.evaluate-reached.ensures.reached))

pub returns : goal.returns
returns c =
    evaluation_leads c.args.code.now c.args.core.now c.args.sent c.args.block c.args.core.now.arguments.items c.evaluate-reached.new.world c.evaluate-reached.result
    (evaluated_control c.args.code.now c.args.core.now c.args.sent c.args.block c.evaluate-reached.new.world c.evaluate-reached.result c.as_slice-arguments.result.now
    c.args.core.now.arguments.items c.as_slice-arguments.ensures c.evaluate-reached.ensures.reached)
    c.arrive_kept.new.core c.args.at c.arrive_kept.result c.evaluate-reached.ensures.rest c.arrive_kept.ensures
