-- What the instruction that begins a superclass part leads to.
use Rattle.std.proofs.Common.{◌≡◌, ℕ, ◌-◌, List, [], ◌∷◌, ◌++◌, length, drop, reverse, refl, ap, sym, ◌∙◌, subst, Option}
use Rattle.ns_base.specs.declared.place.Place.{Place as SourcePlace}
use Rattle.ns_code.specs.declared.program.CodeProgram.{CodeProgram}
use Rattle.ns_code.specs.declared.instruction.Instr.TheVariants as instr
use Rattle.ns_world.specs.declared.value.Value.{Value}
use Rattle.ns_world.specs.declared.ending.Fault.{Fault}
use Rattle.ns_world.specs.World.{WorldView}
use Rattle.ns_moves.specs.declared.control.Entered.{Entered}
use Rattle.ns_moves.specs.declared.control.PartReached.{PartReached}
use Rattle.ns_moves.specs.declared.control.PartReached.TheVariants as part
use Rattle.ns_moves.specs.Site.{fault_ending}
use Rattle.ns_moves.specs.Control.{PartControl, EnterPart, in_world}
use Rattle.ns_moves.specs.Classes.{super_part}
use Rattle.ns_moves.specs.Shown.{part_shown, locals_shown}
use Rattle.ns_moves.specs.Shown as shows
use Rattle.ns_moves.specs.State.{State, Stuck}
use Rattle.ns_moves.specs.Arrivals.{part_arrived}
use Rattle.ns_moves.specs.Room.{SameRest}
use Rattle.ns_machine_frames.specs.declared.frame.Frame.TheVariants.{Running}
use Rattle.ns_machine_frames.specs.declared.frame.Activation.{Activation}
use Rattle.ns_machine_frames.specs.declared.frame.RunningFrame.{RunningFrame}
use Rattle.ns_machine_frames.specs.declared.registers.Registers.{Registers}
use Rattle.ns_machine_frames.specs.Standing.{Stood, Runs, Loops, below, pushed_all}
use Rattle.ns_machine_frames.specs.Stack.{stood, in_use, with_top, IsLaid}
use Rattle.ns_machine_frames.specs.Stated.{ComeOffAgain}
use Rattle.ns_machine_frames.specs.View.{site_shown, activation_shown, frames_shown}
use Rattle.ns_machine_core.specs.declared.state.Core.{Core}
use Rattle.ns_machine_core.specs.declared.state.Next.{Next}
use Rattle.ns_machine_core.specs.declared.state.Next.TheVariants as next
use Rattle.ns_machine_core.specs.Shown.{phase_shown, progress_in}
use Rattle.ns_machine_core.specs.Standing.{KeepsRooms}
use Rattle.ns_machine_core.specs.Doing.{done, Finds, CanDo, IsDone}
use Rattle.ns_machine_core.specs.laws.Pushed.{top_stands}
use Rattle.ns_machine_core.specs.laws.Worlds.{in_other}
use Rattle.ns_machine_core.specs.laws.Kept.{stays_on}
use Rattle.ns_machine_returns.specs.Parts.{listed, PartBegins}
use Rattle.ns_machine_returns.proofs.PartLocals.{HasAll, part_all}

-- what stays in another world of the same limits
pub world_stays : (core : Core) (world : WorldView) → SameRest core.run.world world → KeepsRooms core (in_other core world)
world_stays core world rest = record { world = rest; values = refl; frames = refl; places = refl; arguments = refl }

-- What the action came to.
pub record IsReached (code : CodeProgram) (core : Core) (world : WorldView) (activation : Activation) (items : List Value) (reached : PartReached) : Type 0 where
  pub is : part_shown code (site_shown core.places activation.site) items reached (in_world (progress_in core) world.world)
      ≡ super_part code (activation_shown core.places activation) items (progress_in core)
  pub rest : SameRest core.run.world world

-- ---- what the instruction leads to

pub leads : ((missing : State) → ComeOffAgain missing) →
    (code : CodeProgram) (core : Core) (world : WorldView) (at : Registers) (argc : ℕ) (place : Option SourcePlace)
    (frame : RunningFrame) (items : List Value) (reached : PartReached) → CanDo code core at (instr.InitSuper argc)
    → core.stack.frames.items ≡ Running frame ∷ below core.stack.frames.items
    → stood core.stack at ≡ pushed_all items (stood core.stack (with_top (at.top - argc) at)) → length items ≡ argc
    → IsReached code core world frame.activation items reached
    → part_arrived code (phase_shown core.phase)
    (part_shown code (site_shown core.places frame.activation.site) items reached (in_world (progress_in core) world.world))
    (frames_shown code core.places (stood core.stack (with_top (at.top - argc) at)))
    ≡ done code core.places (phase_shown core.phase) (instr.InitSuper argc) place (stood core.stack at) (progress_in core)
leads taken code core world at argc place frame items reached can top e many is =
    ap (λ (p : PartControl). part_arrived code (phase_shown core.phase) p (frames_shown code core.places (stood core.stack (with_top (at.top - argc) at)))) is.is
    ∙ (by_stood (stood core.stack (with_top (at.top - argc) at)) e
    (subst (λ (s : List Stood). Finds code core.places (instr.InitSuper argc) s (progress_in core)) e can.finds)
    ∙ ap (λ (s : List Stood). done code core.places (phase_shown core.phase) (instr.InitSuper argc) place s (progress_in core)) (sym e))
  where
    by_stood : (s : List Stood) → stood core.stack at ≡ pushed_all items s → Finds code core.places (instr.InitSuper argc) (pushed_all items s) (progress_in core)
        → part_arrived code (phase_shown core.phase) (super_part code (activation_shown core.places frame.activation) items (progress_in core)) (frames_shown code core.places s)
        ≡ done code core.places (phase_shown core.phase) (instr.InitSuper argc) place (pushed_all items s) (progress_in core)
    by_stood [] e finds = absurd finds
    by_stood (Loops one ∷ s) e finds = absurd finds
    by_stood (Runs one locals stack ∷ s) e finds =
        let same = top_stands core at frame one locals (reverse items ++ stack) s top (sym e) in
        ap (λ (f : RunningFrame). part_arrived code (phase_shown core.phase) (super_part code (activation_shown core.places f.activation) items (progress_in core))
        (frames_shown code core.places (Runs one locals stack ∷ s))) (sym same)
        ∙ subst (λ (n : ℕ). part_arrived code (phase_shown core.phase) (super_part code (activation_shown core.places one.activation) items (progress_in core))
        (frames_shown code core.places (Runs one locals stack ∷ s))
        ≡ done code core.places (phase_shown core.phase) (instr.InitSuper n) place (pushed_all items (Runs one locals stack ∷ s)) (progress_in core)) many
        (sym (taken (Stuck (progress_in core)) items stack _))

pub part_skipped : ((missing : State) → ComeOffAgain missing) →
    (code : CodeProgram) (core : Core) (world : WorldView) (at : Registers) (argc : ℕ) (place : Option SourcePlace)
    (frame : RunningFrame) (items : List Value) → CanDo code core at (instr.InitSuper argc)
    → core.stack.frames.items ≡ Running frame ∷ below core.stack.frames.items
    → stood core.stack at ≡ pushed_all items (stood core.stack (with_top (at.top - argc) at)) → length items ≡ argc
    → IsLaid core.stack (with_top (at.top - argc) at) → IsReached code core world frame.activation items part.Skips
    → IsDone code (instr.InitSuper argc) place core at (in_other core world) (next.On (with_top (at.top - argc) at))
part_skipped taken code core world at argc place frame items can top e many laid is = record {
  state = leads taken code core world at argc place frame items part.Skips can top e many is;
  stand = record { laid = laid; within = can.stands.frames.within };
  stays = world_stays core world is.rest;
  kept = can.kept;
}

pub part_failed : ((missing : State) → ComeOffAgain missing) →
    (code : CodeProgram) (core : Core) (world : WorldView) (at : Registers) (argc : ℕ) (place : Option SourcePlace)
    (frame : RunningFrame) (items : List Value) (fault : Fault) → CanDo code core at (instr.InitSuper argc)
    → core.stack.frames.items ≡ Running frame ∷ below core.stack.frames.items
    → stood core.stack at ≡ pushed_all items (stood core.stack (with_top (at.top - argc) at)) → length items ≡ argc
    → IsReached code core world frame.activation items (part.Fails fault)
    → IsDone code (instr.InitSuper argc) place core at
    (record (in_other core world) { ending = fault_ending fault (site_shown core.places frame.activation.site) }) next.Ended
part_failed taken code core world at argc place frame items fault can top e many is = record {
  state = leads taken code core world at argc place frame items (part.Fails fault) can top e many is;
  stand = tt;
  stays = record { world = is.rest; values = refl; frames = refl; places = refl; arguments = refl };
  kept = can.kept;
}

-- the locals beside a part are those of its arguments as they stand
pub locals_are : (code : CodeProgram) (core : Core) (world : WorldView) (activation : Activation) (items : List Value) (entered : Entered)
    → IsReached code core world activation items (part.Enters entered)
    → locals_shown code world.world.cells items entered ≡ locals_shown code world.world.cells items (listed entered)
locals_are code core world activation items entered is =
    subst (HasAll code items) (sym is.is) (part_all code items (activation_shown core.places activation) (progress_in core))

pub part_entered : ((missing : State) → ComeOffAgain missing) →
    (code : CodeProgram) (core new : Core) (world : WorldView) (at : Registers) (argc : ℕ) (place : Option SourcePlace)
    (frame : RunningFrame) (items : List Value) (entered : Entered) (n : Next) → CanDo code core at (instr.InitSuper argc)
    → core.stack.frames.items ≡ Running frame ∷ below core.stack.frames.items
    → stood core.stack at ≡ pushed_all items (stood core.stack (with_top (at.top - argc) at)) → length items ≡ argc
    → items ≡ drop (at.top - argc) (in_use core.stack at) → IsReached code core world frame.activation items (part.Enters entered)
    → PartBegins code (in_other core world) at (at.top - argc) frame.activation.site entered new n
    → IsDone code (instr.InitSuper argc) place core at new n
part_entered taken code core new world at argc place frame items entered n can top e many items_are is begins = record {
  state = begins.state
      ∙ (ap (λ (values : List Value). part_arrived code (phase_shown core.phase)
      (part_shown code (site_shown core.places frame.activation.site) values (part.Enters (listed entered)) (in_world (progress_in core) world.world))
      (frames_shown code core.places (stood core.stack (with_top (at.top - argc) at)))) (sym items_are)
      ∙ (ap (λ (locals : List Value). part_arrived code (phase_shown core.phase)
      (EnterPart (shows.activation_shown (site_shown core.places frame.activation.site) entered) locals (in_world (progress_in core) world.world))
      (frames_shown code core.places (stood core.stack (with_top (at.top - argc) at)))) (sym (locals_are code core world frame.activation items entered is))
      ∙ leads taken code core world at argc place frame items (part.Enters entered) can top e many is));
  stand = begins.stand;
  stays = stays_on core (in_other core world) new (world_stays core world is.rest) begins.stays;
  kept = rw begins.run can.kept;
}
