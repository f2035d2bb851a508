use Rattle.std.proofs.Common.{◌∙◌, ap, refl}
use Rattle.ns_machine.specs.Machine.{MachineView}
use Rattle.ns_opened.proofs.Turning.{told_alike}
use Rattle.ns_opened.proofs.open.open_code.Goals as goal
use Rattle.ns_opened.specs.Opened.{gone_on, opened}

pub returns : goal.returns
returns c =
    let terms = c.args.terms in
    told_alike c.reply_of.result terms.name 0 0 c.go_on.new.machine (opened terms c.args.arguments.now c.args.code) refl
    (c.go_on.ensures ∙ ap (λ (machine : MachineView). gone_on terms.steps machine) c.in_ok-machine.ensures) c.reply_of.ensures
