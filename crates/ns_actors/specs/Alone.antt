-- An actor on its own: where its run stands after the opening and one whole send for each letter, and what these sends post.
use Rattle.std.specs.Prelude.{ℕ, List, [], ◌∷◌, ◌++◌, Option, Some, None, Bool, true, false}
use Rattle.ns_code.specs.Selector.{has_name}
use Rattle.ns_world.specs.declared.value.Value.{Value}
use Rattle.ns_world.specs.declared.value.Value.TheVariants.{Nil}
use Rattle.ns_world.specs.declared.ending.Ending.{Ending}
use Rattle.ns_world.specs.declared.ending.Ending.TheVariants.{Done, Error, Limit}
use Rattle.ns_facets.specs.Board.{value_of}
use Rattle.ns_run_code.specs.Machine.{rested}
use Rattle.ns_moves.specs.State.{State, ending_of, world_of}
use Rattle.ns_moves.specs.Starts.{begun}
use Rattle.ns_session.specs.Member.{Application, start_of}
use Rattle.ns_machine.specs.Asking.{named}
use Rattle.ns_actors.specs.declared.letter.Letter.{Letter}
use Rattle.ns_actors.specs.Outbox.{outbox}

-- ---- where it stands

-- after its opening
abbrev pub opened : Application → State
opened application = rested application.code (start_of application)

-- the value that a run ended with, nil where it ended otherwise
abbrev pub value_in : Option Ending → Value
value_in (Some (Done value)) = value
value_in (Some (Error error)) = Nil
value_in (Some (Limit limit)) = Nil
value_in None = Nil

abbrev pub value_at : State → Value
value_at state = value_in (ending_of state)

-- its behaviour
abbrev pub behaviour_of : Application → Value
behaviour_of application = value_at (opened application)

-- one whole send of a letter to a behaviour; a run that has ended in an error or a limit stays so
abbrev pub sent : Application → Value → Letter → State → State
sent application behaviour letter state =
    rested application.code (begun behaviour (named application.code letter.sel) (value_of letter.arg ∷ []) state)

-- where its code doesn't name the selector there is no send
abbrev pub answered_where : Bool → Application → Value → Letter → State → State
answered_where true application behaviour letter state = sent application behaviour letter state
answered_where false application behaviour letter state = state

abbrev pub answered : Application → Value → Letter → State → State
answered application behaviour letter state = answered_where (has_name application.code letter.sel) application behaviour letter state

-- the sends of letters, one after another
abbrev pub after_letters : Application → Value → List Letter → State → State
after_letters application behaviour [] state = state
after_letters application behaviour (letter ∷ letters) state =
    after_letters application behaviour letters (answered application behaviour letter state)

-- the state after the opening and the sends of these letters
abbrev pub alone : Application → List Letter → State
alone application letters = after_letters application (behaviour_of application) letters (opened application)

-- ---- what it posts

-- the letters that the end of a run stands for, as actor k of so many: none of an end that is no value
abbrev pub letters_in : Option Ending → Application → ℕ → ℕ → State → Option (List Letter)
letters_in (Some (Done value)) application k count state = outbox application.code (world_of state).cells value k count
letters_in (Some (Error error)) application k count state = None
letters_in (Some (Limit limit)) application k count state = None
letters_in None application k count state = None

abbrev pub letters_at : Application → ℕ → ℕ → State → Option (List Letter)
letters_at application k count state = letters_in (ending_of state) application k count state

-- where its code doesn't name the selector there is no send, and no letter
abbrev pub posts_where : Bool → Application → ℕ → ℕ → State → Option (List Letter)
posts_where true application k count state = letters_at application k count state
posts_where false application k count state = Some []

abbrev pub joined : Option (List Letter) → Option (List Letter) → Option (List Letter)
joined (Some letters) (Some more) = Some (letters ++ more)
joined letters more = None

-- the outboxes of the sends of letters, in order, where each send ends with one
abbrev pub posts_after : Application → Value → ℕ → ℕ → List Letter → State → Option (List Letter)
posts_after application behaviour k count [] state = Some []
posts_after application behaviour k count (letter ∷ letters) state =
    joined (posts_where (has_name application.code letter.sel) application k count (answered application behaviour letter state))
    (posts_after application behaviour k count letters (answered application behaviour letter state))

abbrev pub posts : Application → ℕ → ℕ → List Letter → Option (List Letter)
posts application k count letters = posts_after application (behaviour_of application) k count letters (opened application)
