use Rattle.std.proofs.Common.{◌≡◌, IfOk, Option, Some, subst}
use Rattle.ns_machine.specs.Machine.{MachineView}
use Rattle.ns_opened.proofs.program.turn.Goals as goal
use Rattle.ns_opened.specs.Opened.{program_in, turn_of}

pub returns-in-Some : goal.returns-in-Some
returns-in-Some c =
    let is : Some c.in-Some.machine ≡ program_in c.args.bytes.now = cc (c.in-Some.is, c.in_ok-machine.ensures) in
    subst (λ (program : Option MachineView). IfOk c.turn_machine.result (λ reply. reply ≡ turn_of c.args.name c.args.steps program)) is c.turn_machine.ensures
