-- Runs with another limit on steps.
use Rattle.std.specs.Prelude.{ℕ, Option, Some, None}
use Rattle.ns_base.specs.declared.limits.Limits.{Limits}
use Rattle.ns_world.specs.World.{World}
use Rattle.ns_moves.specs.Control.{Progress, After, Gives, Halts, Control, Now, Enter, Evaluate, Begin, Perform, PartControl, Skip, Stop, EnterPart}
use Rattle.ns_moves.specs.Control.{Waiting, Waits, Finishes}
use Rattle.ns_moves.specs.State.{State, Unbegun, Going, Pends, Ended, Stuck}

-- the same limits, but so many steps
abbrev pub limits_to : ℕ → Limits → Limits
limits_to steps limits = record limits { steps = steps }

-- the same world, progress or state with that limit
abbrev pub world_to : ℕ → World → World
world_to steps world = record world { limits = limits_to steps world.limits }

abbrev pub to_steps : ℕ → Progress → Progress
to_steps steps progress = record progress { world = world_to steps progress.world }

abbrev pub state_to : ℕ → State → State
state_to steps (Unbegun arguments progress) = Unbegun arguments (to_steps steps progress)
state_to steps (Going phase frames progress) = Going phase frames (to_steps steps progress)
state_to steps (Pends phase pending frames progress) = Pends phase pending frames (to_steps steps progress)
state_to steps (Ended ending phase progress) = Ended ending phase (to_steps steps progress)
state_to steps (Stuck progress) = Stuck (to_steps steps progress)

-- ---- what actions come to, with that limit

abbrev pub maybe_to : ℕ → Option World → Option World
maybe_to steps (Some world) = Some (world_to steps world)
maybe_to steps None = None

abbrev pub after_to : ℕ → After → After
after_to steps (Gives value progress) = Gives value (to_steps steps progress)
after_to steps (Halts ending progress) = Halts ending (to_steps steps progress)

abbrev pub control_to : ℕ → Control → Control
control_to steps (Now after) = Now (after_to steps after)
control_to steps (Enter exit activation locals progress) = Enter exit activation locals (to_steps steps progress)
control_to steps (Evaluate block arguments site progress) = Evaluate block arguments site (to_steps steps progress)
control_to steps (Begin method state site progress) = Begin method state site (to_steps steps progress)
control_to steps (Perform receiver sel array site progress) = Perform receiver sel array site (to_steps steps progress)

abbrev pub part_to : ℕ → PartControl → PartControl
part_to steps (Skip progress) = Skip (to_steps steps progress)
part_to steps (Stop ending progress) = Stop ending (to_steps steps progress)
part_to steps (EnterPart activation locals progress) = EnterPart activation locals (to_steps steps progress)

abbrev pub waiting_to : ℕ → Waiting → Waiting
waiting_to steps (Waits block arguments state progress) = Waits block arguments state (to_steps steps progress)
waiting_to steps (Finishes after) = Finishes (after_to steps after)
