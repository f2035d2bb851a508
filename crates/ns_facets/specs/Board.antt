-- The rows of Board.
use Rattle.std.specs.Prelude.{ℕ, List, slice_set, Result, Ok, Err}
use Rattle.std.specs.List.{slice_index_or}
use Rattle.ns_world.specs.declared.value.Value.{Value}
use Rattle.ns_world.specs.declared.value.Value.TheVariants as value
use Rattle.ns_world.specs.declared.ending.Fault.{Fault}
use Rattle.ns_kdata.specs.Outcome.{wrong_kind}
use Rattle.ns_kdata.specs.Arguments.{place_in}
use Rattle.ns_facets.specs.declared.board.Plain.{Plain}
use Rattle.ns_facets.specs.declared.board.Plain.TheVariants.{Nil, True, False, Int}
use Rattle.ns_facets.specs.declared.board.Board.{Board}

-- the value that a place holds
abbrev pub value_of : Plain → Value
value_of Nil = value.Nil
value_of True = value.True
value_of False = value.False
value_of (Int number) = value.Int number

-- what a place holds of a value; WrongKind where it can't hold it
abbrev pub plain_of : Value → Result Plain Fault
plain_of value.Nil = Ok Nil
plain_of value.True = Ok True
plain_of value.False = Ok False
plain_of (value.Int number) = Ok (Int number)
plain_of other = Err wrong_kind

-- the value of a place, or the fault of the place
abbrev pub value_at_place : List Plain → Result ℕ Fault → Result Value Fault
value_at_place places (Ok place) = Ok (value_of (slice_index_or places place Nil))
value_at_place places (Err fault) = Err fault

-- `at:`
abbrev pub board_at : Board → Value → Result Value Fault
board_at board place = value_at_place board.places (place_in place 64)

-- the value where it can be stored: the place is tried first
abbrev pub answer_of_put : Result ℕ Fault → Result Plain Fault → Value → Result Value Fault
answer_of_put (Err fault) plain value = Err fault
answer_of_put (Ok place) (Err fault) value = Err fault
answer_of_put (Ok place) (Ok plain) value = Ok value

-- `at:put:`
abbrev pub board_put : Value → Value → Result Value Fault
board_put place value = answer_of_put (place_in place 64) (plain_of value) value

-- the board with a value stored, where it can be
abbrev pub board_after_put : Board → Result ℕ Fault → Result Plain Fault → Board
board_after_put board (Ok place) (Ok plain) = record { places = slice_set board.places place plain }
board_after_put board place plain = board

-- the board after `at:put:`
abbrev pub board_with : Board → Value → Value → Board
board_with board place value = board_after_put board (place_in place 64) (plain_of value)
