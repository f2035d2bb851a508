-- What is said of sessions, of schedules and of applications that don't share the board.
use Rattle.std.specs.Prelude.{◌≡◌, ◌<◌, ◌≤◌, ℕ, List, [], ◌∷◌, ◌++◌, Some, None, length, slice_get, Bool, true, false}
use Rattle.ns_code.specs.declared.program.CodeProgram.{CodeProgram}
use Rattle.ns_resolved.specs.Program.{Meant}
use Rattle.ns_resolved.specs.Tables.{tables}
use Rattle.ns_gen_code.specs.Code.{code_of}
use Rattle.ns_model.specs.Whole.{ran}
use Rattle.ns_facets.specs.declared.board.Board.{Board}
use Rattle.ns_moves.specs.State.{State, ending_of, world_of}
use Rattle.ns_moves.specs.Move.{moves}
use Rattle.ns_moves.specs.Turn.{Turns, is_still}
use Rattle.ns_link.specs.Stated.{HasFirst, IsOnTheWay}
use Rattle.ns_session.specs.Member.{Application, MayStart, start_of, IsAlone, TurnOf}
use Rattle.ns_session.specs.Reached.{HasBegun, StateIsReached, left_for}
use Rattle.ns_session.specs.Session.{SessionView, Pair, Plays, added}
use Rattle.ns_session.specs.Play.{opened, Played, given}

-- ---- one application

-- Its start is a state of its run on its own.
abbrev pub StartsAlone : Application → Type 0
StartsAlone application = MayStart application → IsAlone application (start_of application)

-- A turn of its own leads from such a state to such a state.
abbrev pub TurnsStayAlone : Application → Type 0
TurnsStayAlone application =
    MayStart application → (steps : ℕ) (old new : State) → IsAlone application old → Turns application.code steps old new → IsAlone application new

-- So many moves lead from its start to a state in which its run moves no more.
pub record ComesToRest (application : Application) (last : State) : Type 0 where
  pub count : ℕ
  pub is : moves application.code count (start_of application) ≡ last
  pub still : is_still last ≡ true

-- What was printed by one state begins what was printed by the last, and a state that moves no more is the last.
pub record ComesToLast (state last : State) : Type 0 where
  pub more : List ℕ
  pub printed : (world_of last).output ≡ (world_of state).output ++ more
  pub at_rest : is_still state ≡ true → state ≡ last

-- So each state of a run on its own leads to where that run comes to rest.
abbrev pub AloneLeads : Application → Type 0
AloneLeads application = (state last : State) → IsAlone application state → ComesToRest application last → ComesToLast state last

-- A turn of more steps than the limit comes to rest.
abbrev pub LongTurnsRest : Application → Type 0
LongTurnsRest application =
    MayStart application → (steps : ℕ) (state : State) → application.limits.steps < steps → Turns application.code steps (start_of application) state
    → is_still state ≡ true

-- Where the code is that of a program, each such state is on the way to the end that the program means.
abbrev pub SourceLeads : Meant → Type 0
SourceLeads meant =
    HasFirst meant → (application : Application) (state : State) → application.code ≡ code_of meant → IsAlone application state
    → IsOnTheWay application.code state (ran meant (tables meant) application.grants [] application.limits)

-- ---- what it reaches

-- Its start is a state that it reaches.
abbrev pub StartsReached : Application → Type 0
StartsReached application = MayStart application → StateIsReached application (start_of application)

-- A turn, with the board or without, leads from such a state to such a state.
abbrev pub TurnsReach : Application → Type 0
TurnsReach application =
    (granted : Bool) (steps : ℕ) (old : State) (shared : Board) (new : State) (left : Board) → TurnOf granted application.code steps old shared new left
    → StateIsReached application old → StateIsReached application new

-- A run that has begun stays so, in whatever moves.
abbrev pub BegunStays : CodeProgram → Type 0
BegunStays code = (count : ℕ) (state : State) → HasBegun state → HasBegun (moves code count state)

-- A turn of at least one step of a run that hasn't ended leaves less to do.
abbrev pub TurnsLower : Application → Type 0
TurnsLower application =
    (granted : Bool) (steps : ℕ) (old : State) (shared : Board) (new : State) (left : Board) → TurnOf granted application.code steps old shared new left
    → StateIsReached application old → 1 ≤ steps → ending_of old ≡ None
    → left_for (record { application = application; state = new }) < left_for (record { application = application; state = old })

-- ---- schedules

-- Each pair names one of so many applications.
abbrev pub NameApplications : ℕ → List Pair → Type 0
NameApplications count [] = Unit {0}
NameApplications count (pair ∷ pairs) = (pair.number < count) × NameApplications count pairs

-- A session of these applications, in which this schedule was played.
pub record IsPlayed (applications : List Application) (pairs : List Pair) (session : SessionView) : Type 0 where
  pub within : NameApplications (length applications) pairs
  pub played : Played pairs (opened applications) session

-- An application that is added comes to a session as if it had been there from the beginning.
abbrev pub AddingPlays : Application → Type 0
AddingPlays application =
    (applications : List Application) (pairs : List Pair) (session : SessionView) → IsPlayed applications pairs session
    → IsPlayed (applications ++ application ∷ []) pairs (added application session)

-- A turn of an application that is there is the schedule's next pair.
abbrev pub TurnsPlay : Pair → Type 0
TurnsPlay pair =
    (applications : List Application) (pairs : List Pair) (old new : SessionView) → IsPlayed applications pairs old → pair.number < length applications
    → Plays pair old new → IsPlayed applications (pairs ++ pair ∷ []) new

-- In a session of some applications and some schedule, this one has that number and was given so many steps in all.
pub record WasGiven (application : Application) (steps number : ℕ) (session : SessionView) : Type 0 where
  pub applications : List Application
  pub pairs : List Pair
  pub there : slice_get applications number ≡ Some application
  pub played : Played pairs (opened applications) session
  pub steps_are : given number pairs ≡ steps

-- Without the board it is then the same in every such session: in whatever turns, and whatever the others are.
abbrev pub EqualStepsAgree : Application → Type 0
EqualStepsAgree application =
    MayStart application → application.grants.board ≡ false → (steps here there : ℕ) (one other : SessionView) → WasGiven application steps here one
    → WasGiven application steps there other → slice_get one.members here ≡ slice_get other.members there
