use Rattle.ns_machine_sends.proofs.Entered.{may_enter}
use Rattle.ns_machine_sends.proofs.entering.enter_shaped.Goals as goal

pub enter-requires-clause-can : goal.enter-requires-clause-can
enter-requires-clause-can c =
    may_enter c.what_is_reached_can_be_entered.ensures.entered c.args.code.now c.args.core.now c.args.at c.args.sent c.leaving_of.result c.args.exit c.args.entered
    c.requires.left c.requires.goes c.requires.taken
