-- A turn of a machine that is under way.
use Rattle.std.specs.Prelude.{◌≡◌, ◌⊎◌, ℕ, ◌+◌, ◌-◌, ◌≤◌, ◌<◌, true, false}
use Rattle.ns_code.specs.declared.program.CodeProgram.{CodeProgram}
use Rattle.ns_facets.specs.declared.row.Grants.{Grants}
use Rattle.ns_moves.specs.State.{State, world_of}
use Rattle.ns_moves.specs.Turn.{is_still, Turns}
use Rattle.ns_moves.specs.Falling.{run_left}
use Rattle.ns_machine_plan.specs.declared.plan.Plan.{Plan}
use Rattle.ns_machine_core.specs.declared.own.OwnSends.{OwnSends}
use Rattle.ns_machine_core.specs.declared.state.Core.{Core}
use Rattle.ns_machine_core.specs.declared.state.Next.{Next}
use Rattle.ns_machine_core.specs.Own.{AreOwn}
use Rattle.ns_machine_core.specs.Shown.{shown}
use Rattle.ns_machine_core.specs.Standing.{KeepsRooms}
use Rattle.ns_machine_core.specs.Passing.{MovesTwice}
use Rattle.ns_machine_core.specs.Ready.{MachineIsReady, MakesMove}
use Rattle.ns_machine_core.specs.Turning.{EndsTheWhole}
use Rattle.ns_machine_turns.specs.Prepared.{IsPrepared, IsPreparedToRun}

-- how many of so many steps are left at a state, of a turn that began at another
abbrev pub steps_left : ℕ → State → State → ℕ
steps_left steps first now = steps - ((world_of now).steps - (world_of first).steps)

-- The turn is over, since the run is still.
pub record IsOver (code : CodeProgram) (steps : ℕ) (first now : State) : Type 0 where
  pub still : is_still now ≡ true
  pub turns : Turns code steps first now

-- What ends a turn of the steps that are left from here on ends the whole turn.
pub record EndsTheTurn (code : CodeProgram) (steps : ℕ) (first now : State) : Type 0 where
  pub since : (world_of first).steps ≤ (world_of now).steps
  pub within : EndsTheWhole code steps first (steps_left steps first now) now

-- A turn that began at a state has come to another.
abbrev pub IsUnderWay : CodeProgram → ℕ → State → State → Type 0
IsUnderWay code steps first now = IsOver code steps first now ⊎ EndsTheTurn code steps first now

-- The machine runs by a plan, and sends by itself what the code says.
pub record RunsBy (code : CodeProgram) (plan : Plan) (sends : OwnSends) (core : Core) (next : Next) : Type 0 where
  pub prepared : IsPrepared code plan core.places
  pub own : AreOwn code core.places sends
  pub can : IsPreparedToRun code core next

-- With such a machine a turn has come from where it began to where it is.
pub record IsTurning (code : CodeProgram) (steps : ℕ) (first : Core) (from : Next) (now : Core) (next : Next) : Type 0 where
  pub ready : (grants : Grants) → MachineIsReady code grants first from → MachineIsReady code grants now next
  pub stays : KeepsRooms first now
  pub under : IsUnderWay code steps (shown code first from) (shown code now next)

-- Moves of the machine, if any, have led from one state to another: a turn that had come to the first with so many steps left, or
-- more, has come to the other, no step is taken back, and no more is left to be done.
pub record GoesAlong (code : CodeProgram) (plan : Plan) (sends : OwnSends) (left : ℕ) (old : Core) (from : Next) (new : Core) (to : Next) : Type 0 where
  pub runs : RunsBy code plan sends new to
  pub turning : (steps : ℕ) (first : Core) (began : Next) → left ≤ steps_left steps (shown code first began) (shown code old from)
      → IsTurning code steps first began old from → IsTurning code steps first began new to
  pub onward : old.run.world.world.steps ≤ new.run.world.world.steps
  pub lower : run_left code (shown code new to) ≤ run_left code (shown code old from)

-- So one move or more have, and less is left.
pub record HasGone (code : CodeProgram) (plan : Plan) (sends : OwnSends) (left : ℕ) (old : Core) (from : Next) (new : Core) (to : Next) : Type 0 where
  pub along : GoesAlong code plan sends left old from new to
  pub falls : run_left code (shown code new to) < run_left code (shown code old from)

-- A move more, made with a step left, leaves it so.
abbrev pub MovesGoAlong : CodeProgram → Type 0
MovesGoAlong code =
    (plan : Plan) (sends : OwnSends) (left : ℕ) (old now new : Core) (from here next : Next)
    → GoesAlong code plan sends left old from now here → is_still (shown code old from) ≡ false → is_still (shown code now here) ≡ false
    → now.run.world.world.steps - old.run.world.world.steps < left → MakesMove code now here new next → HasGone code plan sends left old from new next

-- So do two moves that are made as one.
abbrev pub PassingGoesAlong : CodeProgram → Type 0
PassingGoesAlong code =
    (plan : Plan) (sends : OwnSends) (left : ℕ) (old now new : Core) (from here next : Next)
    → GoesAlong code plan sends left old from now here → is_still (shown code old from) ≡ false → is_still (shown code now here) ≡ false
    → now.run.world.world.steps - old.run.world.world.steps < left → MovesTwice code now here new next → HasGone code plan sends left old from new next

-- No more than so many steps were charged.
abbrev pub ChargesAtMost : ℕ → Core → Core → Type 0
ChargesAtMost count old new = new.run.world.world.steps ≤ old.run.world.world.steps + count

-- No move charges more than one,
abbrev pub MovesChargeOne : CodeProgram → Type 0
MovesChargeOne code =
    (plan : Plan) (sends : OwnSends) (old new : Core) (from next : Next) → RunsBy code plan sends old from → is_still (shown code old from) ≡ false
    → MakesMove code old from new next → ChargesAtMost 1 old new

-- nor do two that are made as one.
abbrev pub PassingChargesOne : CodeProgram → Type 0
PassingChargesOne code =
    (plan : Plan) (sends : OwnSends) (old new : Core) (from next : Next) → RunsBy code plan sends old from → is_still (shown code old from) ≡ false
    → MovesTwice code old from new next → ChargesAtMost 1 old new

-- Moves have led from one state to another, and one step was charged at most.
abbrev pub HasGoneOnce : CodeProgram → Plan → OwnSends → ℕ → Core → Next → Core → Next → Type 0
HasGoneOnce code plan sends left old from new next = HasGone code plan sends left old from new next × ChargesAtMost 1 old new
