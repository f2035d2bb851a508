-- What the steps of a turn ask and leave.
use Rattle.std.specs.Prelude.{◌≡◌, ℕ, ◌+◌, List, [], ◌∷◌, length, slice_get, option_map, Option, Some, Bool, true, false, IsTrue}
use Rattle.std.specs.Option.{ForSome}
use Rattle.ns_code.specs.declared.program.CodeProgram.{CodeProgram}
use Rattle.ns_code.specs.Selector.{has_name, text_arity}
use Rattle.ns_facets.specs.Board.{value_of}
use Rattle.ns_world.specs.declared.value.Value.{Value}
use Rattle.ns_world.specs.Lawful.{IsLiveValue}
use Rattle.ns_moves.specs.Starts.{begun}
use Rattle.ns_moves.specs.State.{State, is_idle, world_of}
use Rattle.ns_machine.specs.Asking.{named}
use Rattle.ns_machine.specs.Machine.{MachineView}
use Rattle.ns_actors.specs.declared.letter.Letter.{Letter}
use Rattle.ns_actors.specs.declared.turn.ActorTurn.{ActorTurn}
use Rattle.ns_actors.specs.declared.turn.ActorTurn.TheVariants as turn
use Rattle.ns_actors.specs.Actor.{ActorView, Stage, Opening, Between, Sending, Holding, Stopped}
use Rattle.ns_actors.specs.Alone.{letters_at}
use Rattle.ns_actors.specs.Turn.{sending}
use Rattle.ns_actors_calls.specs.declared.stage.Standing.{Standing}
use Rattle.ns_actors_calls.specs.declared.stage.Standing.TheVariants as standing

-- It opens, or is in a send.
abbrev pub IsRunning : Standing → Type 0
IsRunning standing.Opening = Unit {0}
IsRunning (standing.Between behaviour) = ⊥
IsRunning (standing.Sending behaviour) = Unit {0}
IsRunning (standing.Holding held) = ⊥
IsRunning (standing.Stopped why) = ⊥

-- the letters of the outbox with which its run has ended, as the actor of that number among so many
abbrev pub outbox_at : ℕ → ℕ → ActorView → Option (List Letter)
outbox_at k count actor = letters_at actor.application k count actor.state

-- It holds its outbox, as that number among so many, and this is its behaviour.
pub record HoldsOutbox (k count : ℕ) (behaviour : Value) (actor : ActorView) : Type 0 where
  pub outbox : List Letter
  pub stage_is : actor.stage ≡ Holding behaviour outbox
  pub outbox_is : outbox_at k count actor ≡ Some outbox

-- It holds none.
abbrev pub HoldsNone : Stage → Type 0
HoldsNone Opening = Unit {0}
HoldsNone (Between behaviour) = Unit {0}
HoldsNone (Sending behaviour) = Unit {0}
HoldsNone (Holding behaviour outbox) = ⊥
HoldsNone (Stopped why) = Unit {0}

-- the answer of a turn that holds these letters
abbrev pub handled : Option (List Letter) → Option ActorTurn
handled letters = option_map (λ (held : List Letter). turn.Handled (length held)) letters

-- ---- the next letter

-- The machine is idle, the behaviour is live there, and the letter's selector takes one argument.
pub record MayBeSent (behaviour : Value) (letter : Letter) (code : CodeProgram) (state : State) : Type 0 where
  pub idle : IsTrue (is_idle state)
  pub live : IsLiveValue (world_of state).cells code behaviour
  pub one : text_arity letter.sel ≡ 1

-- So it is with the next letter of an actor.
abbrev pub MayTake : Value → ActorView → Type 0
MayTake behaviour actor =
    ForSome (slice_get actor.box actor.taken) (λ (letter : Letter). MayBeSent behaviour letter actor.application.code actor.state)

-- a machine that has begun the send of a letter
abbrev pub begun_with : Value → Letter → MachineView → MachineView
begun_with behaviour letter machine =
    record machine { state = begun behaviour (named machine.code letter.sel) (value_of letter.arg ∷ []) machine.state }

-- an actor that has taken a letter, by whether its code names the selector
abbrev pub taken_so : Bool → Value → Letter → ActorView → ActorView
taken_so true behaviour letter actor = sending behaviour letter actor
taken_so false behaviour letter actor = record actor { taken = actor.taken + 1 }

-- It has taken the next letter, whose selector its code names or not.
pub record TakesLetter (behaviour : Value) (named : Bool) (old new : ActorView) (letter : Letter) : Type 0 where
  pub named_is : named ≡ has_name old.application.code letter.sel
  pub new_is : new ≡ taken_so named behaviour letter old

abbrev pub TakesNext : Value → Bool → ActorView → ActorView → Type 0
TakesNext behaviour named old new = ForSome (slice_get old.box old.taken) (TakesLetter behaviour named old new)
