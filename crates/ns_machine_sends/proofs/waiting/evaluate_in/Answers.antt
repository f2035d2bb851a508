use Rattle.ns_machine_sends.specs.Going.{arguments_in}
use Rattle.ns_machine_sends.proofs.Evaluated.{evaluated_goes, evaluated_control, evaluation_goes, evaluation_enters, evaluation_leads}
use Rattle.ns_machine_sends.proofs.waiting.evaluate_in.Goals as goal

pub arrive_in-requires-clause-goes : goal.arrive_in-requires-clause-goes
arrive_in-requires-clause-goes c =
    evaluation_goes c.args.code.now c.args.core.now c.args.sent c.args.block (arguments_in c.args.core.now c.args.at c.args.sent) c.evaluate-reached.new.world c.evaluate-reached.result
    (evaluated_control c.args.code.now c.args.core.now c.args.sent c.args.block c.evaluate-reached.new.world c.evaluate-reached.result c.from-arguments.result.now
    (arguments_in c.args.core.now c.args.at c.args.sent) c.from-arguments.ensures c.evaluate-reached.ensures.reached)
    (evaluated_goes c.args.code.now c.args.core.now c.args.sent c.args.block (arguments_in c.args.core.now c.args.at c.args.sent)
    (record { lawful = c.sends_keep_lawful.ensures.evaluated; hands = c.what_is_handed_on_fits.ensures; spends = c.actions_spend_exactly.ensures; stays = c.sites_stay.ensures.evaluated })
    c.requires.is)

pub arrive_in-requires-clause-enters : goal.arrive_in-requires-clause-enters
arrive_in-requires-clause-enters c =
    evaluation_enters c.args.code.now c.args.core.now c.args.sent c.args.block (arguments_in c.args.core.now c.args.at c.args.sent) c.evaluate-reached.new.world c.evaluate-reached.result
    (evaluated_control c.args.code.now c.args.core.now c.args.sent c.args.block c.evaluate-reached.new.world c.evaluate-reached.result c.from-arguments.result.now
    (arguments_in c.args.core.now c.args.at c.args.sent) c.from-arguments.ensures c.evaluate-reached.ensures.reached)

pub returns : goal.returns
returns c =
    evaluation_leads c.args.code.now c.args.core.now c.args.sent c.args.block (arguments_in c.args.core.now c.args.at c.args.sent) c.evaluate-reached.new.world c.evaluate-reached.result
    (evaluated_control c.args.code.now c.args.core.now c.args.sent c.args.block c.evaluate-reached.new.world c.evaluate-reached.result c.from-arguments.result.now
    (arguments_in c.args.core.now c.args.at c.args.sent) c.from-arguments.ensures c.evaluate-reached.ensures.reached)
    c.arrive_in.new.core c.args.at c.arrive_in.result c.evaluate-reached.ensures.rest c.arrive_in.ensures
