-- Jumps.
use Rattle.std.specs.Prelude.{◌≡◌, ℕ, ◌<◌, ◌≤◌, List, [], ◌∷◌, length}
use Rattle.ns_base.specs.declared.place.Place.{Place as SourcePlace}
use Rattle.ns_code.specs.declared.program.CodeProgram.{CodeProgram}
use Rattle.ns_world.specs.declared.ending.Ending.{Ending}
use Rattle.ns_world.specs.declared.ending.Kind.TheVariants.{MustBeBoolean}
use Rattle.ns_moves.specs.Site.{error}
use Rattle.ns_moves.specs.Control.{Progress}
use Rattle.ns_moves.specs.State.{Phase, State, Stuck}
use Rattle.ns_moves.specs.Steps.{steps_of, steps_from}
use Rattle.ns_moves.specs.Jumps.{jumped}
use Rattle.ns_machine_frames.specs.declared.frame.Frame.{Frame}
use Rattle.ns_machine_frames.specs.declared.frame.Frame.TheVariants.{Running, Looping}
use Rattle.ns_machine_frames.specs.declared.registers.Registers.{Registers}
use Rattle.ns_machine_frames.specs.Standing.{Stood, Runs, Loops}
use Rattle.ns_machine_frames.specs.Stack.{stood}
use Rattle.ns_machine_frames.specs.View.{site_shown, leaving_shown, activation_shown, frames_shown}
use Rattle.ns_machine_core.specs.declared.state.Core.{Core}
use Rattle.ns_machine_core.specs.declared.state.Next.{Next}
use Rattle.ns_machine_core.specs.Shown.{phase_shown, progress_in, shown}
use Rattle.ns_machine_core.specs.Standing.{AreStanding, StandAt, KeepsRooms}

-- The topmost frame is a body's, which stands behind one of its instructions, and the target is one of them.
abbrev pub HasTarget : CodeProgram → ℕ → List Stood → Type 0
HasTarget code target [] = ⊥
HasTarget code target (Loops frame ∷ stood) = ⊥
HasTarget code target (Runs frame locals stack ∷ stood) =
    (1 ≤ frame.next) × (frame.next ≤ length (steps_of code frame.activation.body)) × (target < length (steps_of code frame.activation.body))

-- what a jump that is taken leads to
abbrev pub jump_taken : CodeProgram → List SourcePlace → Phase → ℕ → List Stood → Progress → State
jump_taken code places phase target [] progress = Stuck progress
jump_taken code places phase target (Loops frame ∷ stood) progress = Stuck progress
jump_taken code places phase target (Runs frame locals stack ∷ stood) progress =
    jumped phase (leaving_shown frame.leaving frame.activation) (activation_shown places frame.activation) locals
    (steps_from code frame.activation.body frame.next) (steps_from code frame.activation.body target) stack (frames_shown code places stood) progress

-- A machine can take the jump.
pub record CanJump (code : CodeProgram) (core : Core) (at : Registers) (target : ℕ) : Type 0 where
  pub stands : AreStanding code core.stack at
  pub lands : HasTarget code target (stood core.stack at)

-- It was taken.
pub record Jumps (code : CodeProgram) (old : Core) (at : Registers) (target : ℕ) (new : Core) (next : Next) : Type 0 where
  pub state : shown code new next ≡ jump_taken code old.places (phase_shown old.phase) target (stood old.stack at) (progress_in old)
  pub stand : StandAt code new next
  pub memo : new.run.memo ≡ old.run.memo
  pub stays : KeepsRooms old new

-- A run ends since a jump found no boolean, at the site of the topmost frame, which is a body's.
abbrev pub EndsWithoutBoolean : List SourcePlace → List Frame → Ending → Type 0
EndsWithoutBoolean places [] ending = ⊥
EndsWithoutBoolean places (Running frame ∷ frames) ending = ending ≡ error MustBeBoolean (site_shown places frame.activation.site)
EndsWithoutBoolean places (Looping frame ∷ frames) ending = ⊥
