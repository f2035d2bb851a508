use Rattle.std.proofs.Common.{codes}
use Rattle.ns_machine.specs.Machine.{MachineView}
use Rattle.ns_run_code.specs.Run.{granted}
use Rattle.ns_test.specs.Alone.{sent_on}
use Rattle.ns_test.specs.Opening.{opened}
use Rattle.ns_test.proofs.SentOn.{sent_twice}
use Rattle.ns_test.proofs.alone.run_alone.Goals as goal

pub returns-clause-machine : goal.returns-clause-machine
returns-clause-machine c =
    let start : MachineView = record { code = c.args.code.now; grants = granted; state = opened c.args.code.now c.args.limits } in
    sent_twice sent_on c.as_slice.result.now (codes "new") c.args.name.now start c.in_ok-machine.machine c.send_on.new.machine
    c.send_on-2.new.machine c.as_slice.ensures c.in_ok-machine.ensures.machine c.send_on.ensures.machine c.send_on-2.ensures.machine
