-- The round robin as a function.
use Rattle.std.specs.Prelude.{ℕ, zero, suc, ◌+◌, ◌&&◌, List, [], ◌∷◌, Bool, true, Option, Some, None, length, slice_get, slice_set, if◌then◌else◌}
use Rattle.std.specs.Option.{is_some}
use Rattle.ns_world.specs.declared.ending.Ending.{Ending}
use Rattle.ns_moves.specs.State.{ending_of}
use Rattle.ns_session.specs.Member.{Application, MemberView}
use Rattle.ns_session.specs.Play.{opened}
use Rattle.ns_session.specs.Reached.{left_of}
use Rattle.ns_session.specs.Session.{SessionView}
use Rattle.ns_session.specs.Turned.{AfterTurn, turned_beside}

-- the session after a turn of that application, which left this
abbrev pub with_turn : ℕ → MemberView → SessionView → AfterTurn → SessionView
with_turn number member session after =
    record { members = slice_set session.members number (record member { state = after.state }); board = after.board }

-- an application that has ended is passed over, and any other has its turn
abbrev pub turn_unless : Option Ending → ℕ → ℕ → MemberView → SessionView → SessionView
turn_unless (Some ending) quantum number member session = session
turn_unless None quantum number member session =
    with_turn number member session
    (turned_beside member.application.grants.board member.application.code quantum member.state session.board)

-- the application of that number has its turn, if there is one
abbrev pub turn_for : Option MemberView → ℕ → ℕ → SessionView → SessionView
turn_for None quantum number session = session
turn_for (Some member) quantum number session = turn_unless (ending_of member.state) quantum number member session

-- so many applications have theirs in order, from a number on, each with the quantum
abbrev pub round_from : ℕ → ℕ → ℕ → SessionView → SessionView
round_from quantum zero number session = session
round_from quantum (suc more) number session =
    round_from quantum more (number + 1) (turn_for (slice_get session.members number) quantum number session)

-- all have theirs
abbrev pub round_of : ℕ → SessionView → SessionView
round_of quantum session = round_from quantum (length session.members) 0 session

-- whether all runs have ended
abbrev pub have_ended : List MemberView → Bool
have_ended [] = true
have_ended (member ∷ members) = is_some (ending_of member.state) && have_ended members

-- rounds until all runs have ended, at most so many
abbrev pub rounds_in : ℕ → ℕ → SessionView → SessionView
rounds_in quantum zero session = session
rounds_in quantum (suc enough) session =
    if have_ended session.members then session else rounds_in quantum enough (round_of quantum session)

-- the round robin: each round uses up some of what is left (by a law), so these are enough
abbrev pub robin : ℕ → SessionView → SessionView
robin quantum session = rounds_in quantum (left_of session.members) session

-- the session of these applications at the end of the round robin
abbrev pub session_run : ℕ → List Application → SessionView
session_run quantum applications = robin quantum (opened applications)
