-- What an action has given, and its fault.
use Rattle.std.proofs.Common.{◌≡◌, List, [], ◌∷◌, ◌∙◌, refl, Ok, Err, take}
use Rattle.ns_code.specs.declared.program.CodeProgram.{CodeProgram}
use Rattle.ns_world.specs.declared.value.Value.{Value}
use Rattle.ns_world.specs.declared.ending.Fault.{Fault}
use Rattle.ns_moves.specs.Site.{fault_ending}
use Rattle.ns_moves.specs.State.{Going}
use Rattle.ns_moves.specs.Returns.{delivered}
use Rattle.ns_machine_frames.specs.declared.frame.Frame.{Frame}
use Rattle.ns_machine_frames.specs.declared.frame.Frame.TheVariants.{Running, Looping}
use Rattle.ns_machine_frames.specs.declared.frame.KeptSite.{KeptSite}
use Rattle.ns_machine_frames.specs.declared.registers.Registers.{Registers}
use Rattle.ns_machine_frames.specs.Standing.{pushed, standing, at_next}
use Rattle.ns_machine_frames.specs.Stack.{stood}
use Rattle.ns_machine_frames.specs.View.{site_shown, frames_shown}
use Rattle.ns_machine_core.specs.declared.state.Core.{Core}
use Rattle.ns_machine_core.specs.declared.state.Next.TheVariants as next
use Rattle.ns_machine_core.specs.Shown.{phase_shown, progress_in, shown}
use Rattle.ns_machine_core.specs.Doing.{IsRunning, Pushed, IsSettled}
use Rattle.ns_machine_core.specs.laws.Pushed.{ended_stays}

pub given : (code : CodeProgram) (old new : Core) (at to : Registers) (site : KeptSite) (value : Value) → IsRunning old.stack.frames.items
    → Pushed code old at value new to → IsSettled code old at site (Ok value) new (next.On to)
given code old new at to site value runs is = record {
  state = pushed_state ∙ by_frames old.stack.frames.items runs;
  stand = is.stands;
  run = is.run;
  stays = is.stays;
}
  where
    pushed_state : shown code new (next.On to) ≡ Going (phase_shown old.phase) (frames_shown code old.places (pushed value (stood old.stack at))) (progress_in old)
    pushed_state = rw (is.stood, is.run, is.stays.places, is.phase) refl

    by_frames : (frames : List Frame) → IsRunning frames
        → Going (phase_shown old.phase) (frames_shown code old.places (pushed value (standing (at_next at.next frames) (take at.top old.stack.values.items)))) (progress_in old)
        ≡ delivered code (phase_shown old.phase) value
        (frames_shown code old.places (standing (at_next at.next frames) (take at.top old.stack.values.items))) (progress_in old)
    by_frames [] runs = absurd runs
    by_frames (Looping frame ∷ frames) runs = absurd runs
    by_frames (Running frame ∷ frames) runs = refl

pub ended : (code : CodeProgram) (core : Core) (at : Registers) (site : KeptSite) (fault : Fault)
    → IsSettled code core at site (Err fault) (record core { ending = fault_ending fault (site_shown core.places site) }) next.Ended
ended code core at site fault =
    record { state = refl; stand = tt; run = refl; stays = ended_stays core (fault_ending fault (site_shown core.places site)) }
