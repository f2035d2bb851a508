use Rattle.std.proofs.Common.{◌≡◌, IfOk, Option, Some, subst}
use Rattle.ns_machine.specs.Machine.{MachineView}
use Rattle.ns_opened.proofs.ask.ask_own.Goals as goal
use Rattle.ns_opened.specs.Opened.{AnswersOf, program_in, shown}

pub returns-in-Some : goal.returns-in-Some
returns-in-Some c =
    let is : Some c.in-Some.machine ≡ program_in c.args.bytes.now = cc (c.in-Some.is, c.in_ok-machine.ensures) in
    subst (λ (program : Option MachineView). IfOk c.ask_program.result (λ reply. AnswersOf (shown c.args.question) program reply)) is c.ask_program.ensures
