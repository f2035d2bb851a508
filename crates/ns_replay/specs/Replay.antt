-- A replay: a run that is gone through forward and back.
use Rattle.std.specs.Prelude.{◌≡◌, ℕ, ◌≤◌, ◌⊎◌, false, Some}
use Rattle.slab.specs.Slab.{Slab, get}
use Rattle.ns_code.specs.declared.program.CodeProgram.{CodeProgram}
use Rattle.ns_facets.specs.declared.row.Grants.{Grants}
use Rattle.ns_frozen.specs.Freezing.{frozen_of}
use Rattle.ns_frozen.specs.Thawing.{thawed}
use Rattle.ns_frozen.specs.declared.frozen.Frozen.{Frozen}
use Rattle.ns_machine.specs.Machine.{MachineView}
use Rattle.ns_moves.specs.State.{State, Ended, Start}
use Rattle.ns_moves.specs.Turn.{is_still, Turns}
use Rattle.ns_moves.specs.Valid.{Valid}
use Rattle.ns_replay.specs.At.{at, position_in}
use Rattle.ns_replay.specs.declared.kept.Kept.{Kept}

-- ---- what a host sees

-- The code, what its run is granted, the state from which the run is replayed, the step that was asked for last, and where the
-- run stands.
pub record ReplayView : Type 0 where
  pub code : CodeProgram
  pub grants : Grants
  pub start : State
  pub asked : ℕ
  pub state : State

-- the steps that are used where a step is asked for
abbrev pub reached : ReplayView → ℕ → ℕ
reached replay step = position_in (at replay.code replay.start step)

-- the same replay at another step
abbrev pub gone_to : ReplayView → ℕ → ReplayView
gone_to replay step = record replay { asked = step; state = at replay.code replay.start step }

-- the replay of a machine's run from where it stands, at step 0
abbrev pub replay_of : MachineView → ReplayView
replay_of machine =
    record { code = machine.code; grants = machine.grants; start = machine.state; asked = 0; state = at machine.code machine.state 0 }

-- The run was ended by its start.
abbrev pub IsEndedAtStart : State → Type 0
IsEndedAtStart (Ended ending Start progress) = Unit {0}
IsEndedAtStart state = ⊥

-- A run can be replayed from a state in which it has used no step, and moves on or was ended by its start.
pub record CanBegin (state : State) : Type 0 where
  pub unused : position_in state ≡ 0
  pub goes : (is_still state ≡ false) ⊎ IsEndedAtStart state

-- ---- what is kept

-- Plain data stands for a valid state, and is all of it.
pub record StandsFor (code : CodeProgram) (grants : Grants) (frozen : Frozen) : Type 0 where
  pub valid : Valid code grants (thawed code frozen)
  pub told : frozen_of code grants (thawed code frozen) ≡ frozen

-- A kept state is the one to which a turn of its steps leads from the start.
pub record IsKept (code : CodeProgram) (grants : Grants) (start : State) (kept : Kept) : Type 0 where
  pub stands : StandsFor code grants kept.frozen
  pub here : Turns code kept.step start (thawed code kept.frozen)

-- So is each that is kept, under whatever key.
abbrev pub AreKept : CodeProgram → Grants → State → Slab Kept → Type 0
AreKept code grants start states = (key : ℕ) (kept : Kept) → get states key ≡ Some kept → IsKept code grants start kept

-- Under that key a state is kept, whose step isn't behind this one.
pub record IsBefore (states : Slab Kept) (step key : ℕ) : Type 0 where
  pub kept : Kept
  pub is : get states key ≡ Some kept
  pub before : kept.step ≤ step

-- Each state that is left was there.
abbrev pub AreLeft : Slab Kept → Slab Kept → Type 0
AreLeft old new = (key : ℕ) (kept : Kept) → get new key ≡ Some kept → get old key ≡ Some kept

-- what a clause sees of a machine, the start as plain data, and the step that was asked for last
abbrev pub view_of : MachineView → Frozen → ℕ → ReplayView
view_of machine start asked =
    record { code = machine.code; grants = machine.grants; start = thawed machine.code start; asked = asked; state = machine.state }

-- A machine stands where a turn of the steps that were asked for last leads from the start, in which none is used and of which the
-- plain data is all; and each kept state is one of its run.
pub record Replays (machine : MachineView) (start : Frozen) (states : Slab Kept) (asked : ℕ) : Type 0 where
  pub stands : StandsFor machine.code machine.grants start
  pub unused : position_in (thawed machine.code start) ≡ 0
  pub here : Turns machine.code asked (thawed machine.code start) machine.state
  pub kept : AreKept machine.code machine.grants (thawed machine.code start) states
