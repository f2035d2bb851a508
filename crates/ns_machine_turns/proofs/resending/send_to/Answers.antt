use Rattle.ns_machine_turns.proofs.Resent.{given_takes, given_sends}
use Rattle.ns_machine_turns.proofs.resending.send_to.Goals as goal

pub hand-requires-clause-can : goal.hand-requires-clause-can
hand-requires-clause-can c =
    (given_takes c.args.code.now (c.sends_that_waited_go_on.ensures.lawful c.args.code.now) c.args.core.now c.send_on.new.core c.args.at c.args.sent c.args.receiver c.args.sel
    c.in-Gives.value c.requires.can c.requires.room c.in-Gives.ensures).0

pub hand-requires-clause-live : goal.hand-requires-clause-live
hand-requires-clause-live c =
    (given_takes c.args.code.now (c.sends_that_waited_go_on.ensures.lawful c.args.code.now) c.args.core.now c.send_on.new.core c.args.at c.args.sent c.args.receiver c.args.sel
    c.in-Gives.value c.requires.can c.requires.room c.in-Gives.ensures).1

pub returns-in-Gives : goal.returns-in-Gives
returns-in-Gives c =
    given_sends c.args.code.now c.args.core.now c.send_on.new.core c.hand.new.core c.args.at c.args.sent c.args.receiver c.args.sel c.in-Gives.value c.hand.result
    c.in-Gives.ensures c.hand.ensures
