use Rattle.ns_machine_sends.proofs.Resent.{step_can_on, on_goes, on_leads}
use Rattle.ns_machine_sends.proofs.resending.send_on.Goals as goal

pub look_on-requires-clause-can : goal.look_on-requires-clause-can
look_on-requires-clause-can c =
    step_can_on c.charging_keeps_lawful.ensures.steps c.args.code.now c.args.core.now c.args.at c.args.sent c.args.receiver c.args.sel c.step.new.self
    c.in-Ok.ensures.charges.0 c.in-Ok.ensures.charges.1 c.requires.can

pub look_on-requires-clause-goes : goal.look_on-requires-clause-goes
look_on-requires-clause-goes c =
    on_goes c.args.code.now (c.sends_that_waited_go_on.ensures.lawful c.args.code.now) (c.sends_that_waited_go_on.ensures.fits c.args.code.now)
    (c.sends_that_waited_go_on.ensures.at c.args.code.now) (c.sends_that_waited_go_on.ensures.spends c.args.code.now) c.args.core.now c.args.at c.args.sent
    c.args.receiver c.args.sel c.step.new.self c.in-Ok.ensures.charges.0 c.requires.can

pub returns-in-Ok : goal.returns-in-Ok
returns-in-Ok c =
    on_leads c.args.code.now c.args.core.now c.look_on.new.core c.args.at c.args.sent c.args.receiver c.args.sel c.step.new.self c.look_on.result c.in-Ok.ensures.charges.0
    c.in-Ok.ensures.charges.1 c.look_on.ensures
