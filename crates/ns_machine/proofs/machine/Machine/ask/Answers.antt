use Rattle.std.proofs.Common.{subst}
use Rattle.ns_base.specs.declared.selector.Sel.{Sel}
use Rattle.ns_machine_alike.specs.Isolated.{ComesToTheSame}
use Rattle.ns_machine.proofs.machine.Machine.ask.Goals as goal

pub returns-in-Some-clause-alike : goal.returns-in-Some-clause-alike
returns-in-Some-clause-alike c = λ some grants.
    let m = c.args.self.now in
    subst (λ (sel : Sel). ComesToTheSame m.code grants c.args.receiver sel c.args.arguments.now m.state c.send.new.self.state) c.in-Some.ensures.may.1
    (c.send.ensures.alike grants)
