-- The instruction that returns from a home.
use Rattle.std.proofs.Common.{◌≡◌, ℕ, List, [], ◌∷◌, take, ap, sym, ◌∙◌, subst, arith, Option, Some, None, Bool, if◌then◌else◌}
use Rattle.ns_base.specs.declared.place.Place.{Place as SourcePlace}
use Rattle.ns_code.specs.declared.program.CodeProgram.{CodeProgram}
use Rattle.ns_code.specs.declared.instruction.Instr.TheVariants as instr
use Rattle.ns_world.specs.declared.value.Value.{Value}
use Rattle.ns_world.specs.declared.ending.Kind.TheVariants.{DeadReturn}
use Rattle.ns_world.specs.declared.ending.Fault.TheVariants as fault
use Rattle.ns_world.specs.Lawful.{IsLawful, IsLiveValue}
use Rattle.ns_moves.specs.Site.{error, fault_ending}
use Rattle.ns_moves.specs.State.{State, Ended}
use Rattle.ns_moves.specs.Returns as returns
use Rattle.ns_machine_frames.specs.declared.frame.Frame.TheVariants.{Running}
use Rattle.ns_machine_frames.specs.declared.frame.RunningFrame.{RunningFrame}
use Rattle.ns_machine_frames.specs.declared.frame.Activation.{Activation as KeptActivation}
use Rattle.ns_machine_frames.specs.declared.registers.Registers.{Registers}
use Rattle.ns_machine_frames.specs.Standing.{Stood, Runs, Loops, below, pushed}
use Rattle.ns_machine_frames.specs.Stack.{stood, IsLaid}
use Rattle.ns_machine_frames.specs.Leaving.{frames_to}
use Rattle.ns_machine_frames.specs.Stated.{is_there, FindsHome}
use Rattle.ns_machine_frames.specs.View.{site_shown, activation_shown, frames_shown}
use Rattle.ns_machine_core.specs.declared.state.Core.{Core}
use Rattle.ns_machine_core.specs.declared.state.Next.{Next}
use Rattle.ns_machine_core.specs.declared.state.Next.TheVariants as next
use Rattle.ns_machine_core.specs.Shown.{phase_shown, progress_in}
use Rattle.ns_machine_core.specs.Framed.{AreFramed}
use Rattle.ns_machine_core.specs.Doing.{done, Finds, CanDo, IsDone}
use Rattle.ns_machine_core.specs.laws.Pushed.{ended_stays, top_stands}
use Rattle.ns_machine_returns.specs.Unwinding.{CanUnwind, IsUnwound}
use Rattle.ns_machine_returns.proofs.Returned.{unpushed}

-- What a block that returns finds.
record Found (code : CodeProgram) (core : Core) (value : Value) : Type 0 where
  pub live : IsLiveValue core.run.world.world.cells code value
  pub lawful : IsLawful core.run.world.world code

home_found : (code : CodeProgram) (core : Core) (at to : Registers) (value : Value) → CanDo code core at instr.ReturnHome
    → stood core.stack at ≡ pushed value (stood core.stack to) → Found code core value
home_found code core at to value can e =
    by_stood (stood core.stack to) (subst (λ (s : List Stood). Finds code core.places instr.ReturnHome s (progress_in core)) e can.finds)
  where
    by_stood : (s : List Stood) → Finds code core.places instr.ReturnHome (pushed value s) (progress_in core) → Found code core value
    by_stood [] finds = absurd finds
    by_stood (Loops one ∷ s) finds = absurd finds
    by_stood (Runs one locals stack ∷ s) finds = record { live = finds.live 0 value (omega arith); lawful = finds.lawful }

pub can_unwind : (code : CodeProgram) (core : Core) (at to : Registers) (home count : ℕ) (value : Value) →
    CanDo code core at instr.ReturnHome
    → stood core.stack at ≡ pushed value (stood core.stack to) → IsLaid core.stack to → frames_to home core.stack.frames.items ≡ Some count
    → CanUnwind code core to home count value
can_unwind code core at to home count value can e laid there =
    let found = home_found code core at to value can e in
    record {
      stands = record { rooms = can.stands.rooms; frames = record { laid = laid; within = can.stands.frames.within } };
      framed = unpushed code value (progress_in core) (stood core.stack to) (subst (λ (s : List Stood). AreFramed code s (progress_in core)) e can.framed);
      home_is = there;
      lawful = found.lawful;
      live = found.live;
      kept = can.kept;
    }

-- what the instruction leads to
leads : (code : CodeProgram) (core : Core) (at to : Registers) (frame : RunningFrame) (value : Value) (place : Option SourcePlace) →
    CanDo code core at instr.ReturnHome
    → core.stack.frames.items ≡ Running frame ∷ below core.stack.frames.items → stood core.stack at ≡ pushed value (stood core.stack to)
    → returns.returned_home code (phase_shown core.phase) (activation_shown core.places frame.activation) value (frames_shown code core.places (stood core.stack to)) (progress_in core)
    ≡ done code core.places (phase_shown core.phase) instr.ReturnHome place (stood core.stack at) (progress_in core)
leads code core at to frame value place can top e =
    by_stood (stood core.stack to) e (subst (λ (s : List Stood). Finds code core.places instr.ReturnHome s (progress_in core)) e can.finds)
    ∙ ap (λ (s : List Stood). done code core.places (phase_shown core.phase) instr.ReturnHome place s (progress_in core)) (sym e)
  where
    by_stood : (s : List Stood) → stood core.stack at ≡ pushed value s → Finds code core.places instr.ReturnHome (pushed value s) (progress_in core)
        → returns.returned_home code (phase_shown core.phase) (activation_shown core.places frame.activation) value (frames_shown code core.places s) (progress_in core)
        ≡ done code core.places (phase_shown core.phase) instr.ReturnHome place (pushed value s) (progress_in core)
    by_stood [] e finds = absurd finds
    by_stood (Loops one ∷ s) e finds = absurd finds
    by_stood (Runs one locals stack ∷ s) e finds =
        let same = top_stands core at frame one locals (value ∷ stack) s top (sym e) in
        ap (λ (f : RunningFrame). returns.returned_home code (phase_shown core.phase) (activation_shown core.places f.activation) value
        (frames_shown code core.places (Runs one locals stack ∷ s)) (progress_in core)) (sym same)

-- by whether the home is there
abbrev by_home : CodeProgram → Core → Registers → KeptActivation → Value → Bool → State
by_home code core to activation value there =
    if there
    then returns.unwound code (phase_shown core.phase) activation.home value (frames_shown code core.places (stood core.stack to)) (progress_in core)
    else Ended (error DeadReturn (site_shown core.places activation.site)) (phase_shown core.phase) (progress_in core)

pub home_returned : ((code : CodeProgram) (places : List SourcePlace) → FindsHome code places)
    → (code : CodeProgram) (core new : Core) (at to : Registers) (frame : RunningFrame) (count : ℕ) (value : Value) (place : Option SourcePlace) (n : Next)
    → CanDo code core at instr.ReturnHome → core.stack.frames.items ≡ Running frame ∷ below core.stack.frames.items
    → stood core.stack at ≡ pushed value (stood core.stack to) → frames_to frame.activation.home core.stack.frames.items ≡ Some count
    → IsUnwound code core to frame.activation.home value new n → IsDone code instr.ReturnHome place core at new n
home_returned law code core new at to frame count value place n can top e there unwound = record {
  state = unwound.state
      ∙ (ap (by_home code core to frame.activation value)
      (sym (law code core.places frame.activation.home to.next core.stack.frames.items (take to.top core.stack.values.items) ∙ ap is_there there))
      ∙ leads code core at to frame value place can top e);
  stand = unwound.stand;
  stays = unwound.stays;
  kept = unwound.kept;
}

pub dead_returned : ((code : CodeProgram) (places : List SourcePlace) → FindsHome code places)
    → (code : CodeProgram) (core : Core) (at to : Registers) (frame : RunningFrame) (value : Value) (place : Option SourcePlace)
    → CanDo code core at instr.ReturnHome → core.stack.frames.items ≡ Running frame ∷ below core.stack.frames.items
    → stood core.stack at ≡ pushed value (stood core.stack to) → frames_to frame.activation.home core.stack.frames.items ≡ None
    → IsDone code instr.ReturnHome place core at
    (record core { ending = fault_ending (fault.Kind DeadReturn) (site_shown core.places frame.activation.site) }) next.Ended
dead_returned law code core at to frame value place can top e gone = record {
  state = ap (by_home code core to frame.activation value)
      (sym (law code core.places frame.activation.home to.next core.stack.frames.items (take to.top core.stack.values.items) ∙ ap is_there gone))
      ∙ leads code core at to frame value place can top e;
  stand = tt;
  stays = ended_stays core (fault_ending (fault.Kind DeadReturn) (site_shown core.places frame.activation.site));
  kept = can.kept;
}
