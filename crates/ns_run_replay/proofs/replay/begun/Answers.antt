use Rattle.std.proofs.Common.{[], ◌∙◌, ap, subst, sym}
use Rattle.ns_machine.specs.Machine.{MachineView}
use Rattle.ns_moves.specs.Starts.{started}
use Rattle.ns_replay.specs.Replay.{CanBegin}
use Rattle.ns_run_code.specs.Run.{granted}
use Rattle.ns_run_replay.proofs.replay.begun.Goals as goal

pub new-requires-2-clause-begins : goal.new-requires-2-clause-begins
new-requires-2-clause-begins c =
    subst (λ (m : MachineView). CanBegin m.state)
    (sym (c.start.ensures ∙ ap (λ (m : MachineView). record m { state = started m.code m.state }) c.in_ok-machine.ensures))
    (c.started_machines_can_begin.ensures c.args.code granted c.args.limits [])
