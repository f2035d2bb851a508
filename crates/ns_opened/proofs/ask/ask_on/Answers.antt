use Rattle.std.proofs.Common.{◌≡◌, ◌∙◌, ap, subst}
use Rattle.ns_machine.specs.Machine.{MachineView}
use Rattle.ns_moves.specs.Starts.{begun}
use Rattle.ns_moves.specs.State.{State}
use Rattle.ns_moves.specs.Turn.{Turns}
use Rattle.ns_moves.specs.Valid.{Valid}
use Rattle.ns_opened.proofs.ask.ask_on.Goals as goal
use Rattle.ns_session.specs.Turned.{turned}

pub returns : goal.returns
returns c =
    let machine = c.args.machine.now in
    let waits = begun c.args.receiver c.args.sel c.args.arguments.now machine.state in
    let new = c.turn-turn.new.self.state in
    let turns = subst (λ (m : MachineView). Turns m.code c.args.steps m.state new) c.begin.ensures.began c.turn-turn.ensures.turns in
    let valid = subst (λ (m : MachineView). Valid m.code m.grants m.state) c.begin.ensures.began c.idle-idle.ensures.valid in
    let is : new ≡ turned machine.code c.args.steps waits = c.turns_are_a_function.ensures machine.code machine.grants c.args.steps waits new valid turns in
    c.turn-turn.ensures.rest ∙ (ap (λ (m : MachineView). record m { state = new }) c.begin.ensures.began ∙ ap (λ (s : State). record machine { state = s }) is)
