-- The turn of an application beside a shared board is a function.
use Rattle.std.proofs.Common.{◌≡◌, ℕ, ap, ◌∙◌, Bool, true, false}
use Rattle.ns_facets.specs.declared.board.Board.{Board}
use Rattle.ns_moves.specs.State.{State, swapped}
use Rattle.ns_moves.specs.WorldStays.{SwapsKeepValid}
use Rattle.ns_session.specs.Member.{Application, TurnOf, board_of}
use Rattle.ns_session.specs.Reached.{StateIsReached}
use Rattle.ns_session.specs.RobinLaws.{TurnsAreTurned, TurnsAreTurnedBeside}
use Rattle.ns_session.specs.Turned.{given_back, left_as, turned, turned_beside}

-- what a turn leaves, part by part
after_is : (one other : State) (here there : Board) → one ≡ other → here ≡ there
    → left_as one here ≡ left_as other there
after_is one other here there e f = ap (λ (s : State). left_as s here) e ∙ ap (left_as other) f

turned_with : (granted : Bool) (application : Application) → TurnsAreTurned application.code application.grants
    → SwapsKeepValid application.code application.grants → (steps : ℕ) (old : State) (shared : Board) (new : State) (left : Board)
    → StateIsReached application old → TurnOf granted application.code steps old shared new left
    → left_as new left ≡ turned_beside granted application.code steps old shared
turned_with true application turns swaps steps old shared new left is turn =
    let inside = turns steps (swapped shared old) turn.inside (swaps shared old is.valid) turn.turns in
    after_is new (swapped (board_of old) turn.inside) left (board_of turn.inside) turn.state turn.board
    ∙ ap (given_back (board_of old)) inside
turned_with false application turns swaps steps old shared new left is turn =
    after_is new (turned application.code steps old) left shared (turns steps old new is.valid turn.turns) turn.board

pub turns_beside : (application : Application) → TurnsAreTurned application.code application.grants
    → SwapsKeepValid application.code application.grants → TurnsAreTurnedBeside application
turns_beside application turns swaps granted = turned_with granted application turns swaps
