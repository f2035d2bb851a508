-- What a turn of a machine answers.
use Rattle.ns_moves.specs.State.{State, Unbegun, Going, Pends, Ended, Stuck}
use Rattle.ns_machine.specs.declared.stage.Turn.{Turn}
use Rattle.ns_machine.specs.declared.stage.Turn.TheVariants as turn

-- how the run ended, or that it goes on
abbrev pub turn_at : State → Turn
turn_at (Unbegun arguments progress) = turn.Going
turn_at (Going phase frames progress) = turn.Going
turn_at (Pends phase pending frames progress) = turn.Going
turn_at (Ended ending phase progress) = turn.Ended ending
turn_at (Stuck progress) = turn.Going
