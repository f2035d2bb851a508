use Rattle.std.proofs.Common.{◌≡◌, ◌∙◌, [], ap, subst}
use Rattle.ns_machine.specs.Machine.{MachineView}
use Rattle.ns_moves.specs.Starts.{started}
use Rattle.ns_moves.specs.State.{State}
use Rattle.ns_moves.specs.Turn.{Turns}
use Rattle.ns_moves.specs.Valid.{Valid}
use Rattle.ns_run_code.specs.Machine.{begins_with}
use Rattle.ns_run_code.specs.Run.{granted}
use Rattle.ns_run_snap.proofs.snap.paused_machine.Goals as goal
use Rattle.ns_run_snap.specs.Snapped.{paused}

pub returns : goal.returns
returns c =
    let code = c.args.code in
    let begun : MachineView = record { code = code; grants = granted; state = begins_with code c.args.limits [] } in
    let fresh : c.start.new.self ≡ begun = c.start.ensures ∙ ap (λ (m : MachineView). record m { state = started m.code m.state }) c.in_ok-machine.ensures in
    let new = c.turn-turn.new.self.state in
    let turns = subst (λ (m : MachineView). Turns m.code c.args.steps m.state new) fresh c.turn-turn.ensures.turns in
    let valid = subst (λ (m : MachineView). Valid m.code m.grants m.state) fresh c.idle-idle.ensures.valid in
    let is : new ≡ paused code c.args.limits c.args.steps = c.turns_are_a_function.ensures code granted c.args.steps begun.state new valid turns in
    c.turn-turn.ensures.rest ∙ (ap (λ (m : MachineView). record m { state = new }) fresh ∙ ap (λ (s : State). record { code = code; grants = granted; state = s }) is)
