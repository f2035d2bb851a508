-- What another board leaves of a state.
use Rattle.std.proofs.Common.{◌≡◌, refl}
use Rattle.ns_facets.specs.declared.board.Board.{Board}
use Rattle.ns_moves.specs.State.{State, Unbegun, Going, Pends, Ended, Stuck, swapped}
use Rattle.ns_machine.specs.Turned.{turn_at}

-- what a turn answers is the same
pub swapped_turn : (board : Board) (state : State) → turn_at (swapped board state) ≡ turn_at state
swapped_turn board (Unbegun arguments p) = refl
swapped_turn board (Going phase frames p) = refl
swapped_turn board (Pends phase pending frames p) = refl
swapped_turn board (Ended ending phase p) = refl
swapped_turn board (Stuck p) = refl
