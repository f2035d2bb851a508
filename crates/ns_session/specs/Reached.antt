-- The states that an application of a session reaches, in whatever turns, and how much it can still do.
use Rattle.std.specs.Prelude.{◌≡◌, ◌+◌, ◌-◌, ℕ, suc, List, [], ◌∷◌, Option, Some, None}
use Rattle.ns_world.specs.declared.ending.Ending.{Ending}
use Rattle.ns_moves.specs.State.{State, Unbegun, Going, Pends, Ended, Stuck, ending_of, world_of}
use Rattle.ns_moves.specs.Valid.{Valid}
use Rattle.ns_session.specs.Member.{Application, MemberView}

-- A run has begun.
abbrev pub HasBegun : State → Type 0
HasBegun (Unbegun arguments progress) = ⊥
HasBegun (Going phase frames progress) = Unit {0}
HasBegun (Pends phase pending frames progress) = Unit {0}
HasBegun (Ended ending phase progress) = Unit {0}
HasBegun (Stuck progress) = Unit {0}

-- The state is valid, it has the application's limits, and its run has begun.
pub record StateIsReached (application : Application) (state : State) : Type 0 where
  pub valid : Valid application.code application.grants state
  pub limits_are : (world_of state).limits ≡ application.limits
  pub begun : HasBegun state

-- how many steps a run may still use, and one more until it has ended
abbrev pub left_by : Option Ending → MemberView → ℕ
left_by (Some ending) member = 0
left_by None member = suc (member.application.limits.steps - (world_of member.state).steps)

abbrev pub left_for : MemberView → ℕ
left_for member = left_by (ending_of member.state) member

-- that of all
abbrev pub left_of : List MemberView → ℕ
left_of [] = 0
left_of (member ∷ members) = left_for member + left_of members
