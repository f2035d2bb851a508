use Rattle.std.proofs.Common.{◌≡◌, ◌∙◌, ap, subst}
use Rattle.ns_machine.specs.Machine.{MachineView}
use Rattle.ns_moves.specs.Starts.{started}
use Rattle.ns_moves.specs.State.{State}
use Rattle.ns_moves.specs.Turn.{Turns}
use Rattle.ns_moves.specs.Valid.{Valid}
use Rattle.ns_opened.proofs.program.go_on.Goals as goal
use Rattle.ns_session.specs.Turned.{turned}

pub returns : goal.returns
returns c =
    let machine = c.args.machine.now in
    let begun = started machine.code machine.state in
    let new = c.turn-turn.new.self.state in
    let turns = subst (λ (m : MachineView). Turns m.code c.args.steps m.state new) c.start.ensures c.turn-turn.ensures.turns in
    let valid = subst (λ (m : MachineView). Valid m.code m.grants m.state) c.start.ensures c.idle-idle.ensures.valid in
    let is : new ≡ turned machine.code c.args.steps begun = c.turns_are_a_function.ensures machine.code machine.grants c.args.steps begun new valid turns in
    c.turn-turn.ensures.rest ∙ (ap (λ (m : MachineView). record m { state = new }) c.start.ensures ∙ ap (λ (s : State). record machine { state = s }) is)
