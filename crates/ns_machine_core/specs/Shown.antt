-- The state of a run that a machine shows.
use Rattle.ns_code.specs.declared.program.CodeProgram.{CodeProgram}
use Rattle.ns_moves.specs.Control.{Progress}
use Rattle.ns_moves.specs.State as state
use Rattle.ns_moves.specs.State.{State, Going, Ended}
use Rattle.ns_moves.specs.Run.{progress_of}
use Rattle.ns_machine_frames.specs.Stack.{stood}
use Rattle.ns_machine_frames.specs.View.{frames_shown, state_shown}
use Rattle.ns_machine_core.specs.declared.state.Phase.{Phase}
use Rattle.ns_machine_core.specs.declared.state.Phase.TheVariants as phase
use Rattle.ns_machine_core.specs.declared.state.Core.{Core}
use Rattle.ns_machine_core.specs.declared.state.Next.{Next}
use Rattle.ns_machine_core.specs.declared.state.Next.TheVariants as next

-- how far it has come
abbrev pub phase_shown : Phase → state.Phase
phase_shown phase.Start = state.Start
phase_shown (phase.First arguments) = state.First arguments
phase_shown phase.Second = state.Second
phase_shown phase.Hosted = state.Hosted

-- what it has done
abbrev pub progress_in : Core → Progress
progress_in core = progress_of core.run

-- where it stands, by where it goes next
abbrev pub shown : CodeProgram → Core → Next → State
shown code core (next.On at) = Going (phase_shown core.phase) (frames_shown code core.places (stood core.stack at)) (progress_in core)
shown code core (next.Waits at) =
    state_shown code core.places (phase_shown core.phase) core.waiting core.arguments.items core.stack at (progress_in core)
shown code core next.Ended = Ended core.ending (phase_shown core.phase) (progress_in core)
