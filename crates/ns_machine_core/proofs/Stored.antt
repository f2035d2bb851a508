-- What is stored by instructions.
use Rattle.std.proofs.Common.{◌≡◌, ℕ, List, [], ◌∷◌, ap, sym, ◌∙◌, refl, subst, Option}
use Rattle.std.specs.Prelude.{IsTrue}
use Rattle.ns_base.specs.declared.place.Place.{Place as SourcePlace}
use Rattle.ns_code.specs.declared.program.CodeProgram.{CodeProgram}
use Rattle.ns_code.specs.declared.instruction.Instr.TheVariants as instr
use Rattle.ns_world.specs.declared.value.Value.{Value}
use Rattle.ns_world.specs.World.{World, WorldView}
use Rattle.ns_world.specs.Heap.{find_cell, is_class}
use Rattle.ns_world.specs.Lawful.{IsLawful}
use Rattle.ns_moves.specs.declared.site.Site.{Site}
use Rattle.ns_moves.specs.Control.{Progress, Activation, in_world}
use Rattle.ns_moves.specs.Classes.{slot_filled}
use Rattle.ns_moves.specs.Lawful.{FitsActivation, FitsSlot}
use Rattle.ns_moves.specs.State.{Going}
use Rattle.ns_moves.specs.Room.{SameRest}
use Rattle.ns_moves.specs.Running.{activation_at, code_of}
use Rattle.ns_machine_frames.specs.declared.frame.Frame.TheVariants.{Running}
use Rattle.ns_machine_frames.specs.declared.frame.RunningFrame.{RunningFrame}
use Rattle.ns_machine_frames.specs.declared.registers.Registers.{Registers}
use Rattle.ns_machine_frames.specs.Standing.{Stood, Runs, Loops, below, pushed}
use Rattle.ns_machine_frames.specs.Stack.{stood, IsLaid}
use Rattle.ns_machine_frames.specs.View.{frames_shown, site_shown}
use Rattle.ns_machine_core.specs.declared.state.Core.{Core}
use Rattle.ns_machine_core.specs.declared.state.Next.TheVariants as next
use Rattle.ns_machine_core.specs.Shown.{phase_shown, progress_in}
use Rattle.ns_machine_core.specs.Doing.{done, Finds, CanDo, running_of, IsDone}
use Rattle.ns_machine_core.specs.laws.Pushed.{top_stands}
use Rattle.ns_machine_core.specs.laws.Worlds.{in_other}
use Rattle.ns_machine_core.specs.laws.Finds.{finds_in, fits_anywhere}

-- ---- slots

pub slot_lawful : (code : CodeProgram) (core : Core) (at : Registers) (slot : ℕ) (running : RunningFrame) →
    CanDo code core at (instr.StoreSlot slot)
    → core.stack.frames.items ≡ Running running ∷ below core.stack.frames.items → IsLawful core.run.world.world code
slot_lawful code core at slot running can top = (finds_in code core at (instr.StoreSlot slot) running can top).lawful

pub slot_fits : (code : CodeProgram) (core : Core) (at : Registers) (slot : ℕ) (running : RunningFrame) →
    CanDo code core at (instr.StoreSlot slot)
    → core.stack.frames.items ≡ Running running ∷ below core.stack.frames.items
    → FitsSlot core.run.world.world.cells code (code_of (running_of running.activation)) slot
slot_fits code core at slot running can top =
    let asks = (finds_in code core at (instr.StoreSlot slot) running can top).asks in
    record { holder = asks.holder; declared = asks.declared; within = asks.within }

pub slot_class : ((world : World) (code : CodeProgram) (activation : Activation) → IsLawful world code → FitsActivation world.cells code activation
    → IsTrue (is_class (find_cell world.cells activation.holder)))
    → (code : CodeProgram) (core : Core) (at : Registers) (slot : ℕ) (running : RunningFrame) → CanDo code core at (instr.StoreSlot slot)
    → core.stack.frames.items ≡ Running running ∷ below core.stack.frames.items
    → IsTrue (is_class (find_cell core.run.world.world.cells (running_of running.activation).holder))
slot_class holders code core at slot running can top =
    holders core.run.world.world code (code_of (running_of running.activation)) (slot_lawful code core at slot running can top)
    (fits_anywhere code core at (instr.StoreSlot slot) running can top)

pub slot_done : (code : CodeProgram) (core : Core) (world : WorldView) (at to : Registers) (slot : ℕ) (place : Option SourcePlace) (running : RunningFrame) (value : Value)
    → CanDo code core at (instr.StoreSlot slot) → core.stack.frames.items ≡ Running running ∷ below core.stack.frames.items
    → stood core.stack at ≡ pushed value (stood core.stack to) → IsLaid core.stack to
    → ((site : Site) (rest : Progress) → in_world rest world.world
    ≡ slot_filled code (activation_at site (running_of running.activation)) slot value (in_world rest core.run.world.world))
    → SameRest core.run.world world → IsDone code (instr.StoreSlot slot) place core at (in_other core world) (next.On to)
slot_done code core world at to slot place running value can top under laid filled rest = record {
  state = ap (λ (p : Progress). Going (phase_shown core.phase) (frames_shown code core.places (stood core.stack to)) p)
      (filled (site_shown core.places running.activation.site) (progress_in core))
      ∙ (by_stood (stood core.stack to) under (subst (λ (s : List Stood). Finds code core.places (instr.StoreSlot slot) s (progress_in core)) under can.finds)
      ∙ ap (λ (s : List Stood). done code core.places (phase_shown core.phase) (instr.StoreSlot slot) place s (progress_in core)) (sym under));
  stand = record { laid = laid; within = can.stands.frames.within };
  stays = record { world = rest; values = refl; frames = refl; places = refl; arguments = refl };
  kept = can.kept;
}
  where
    by_stood : (s : List Stood) → stood core.stack at ≡ pushed value s → Finds code core.places (instr.StoreSlot slot) (pushed value s) (progress_in core)
        → Going (phase_shown core.phase) (frames_shown code core.places s)
        (slot_filled code (activation_at (site_shown core.places running.activation.site) (running_of running.activation)) slot value (progress_in core))
        ≡ done code core.places (phase_shown core.phase) (instr.StoreSlot slot) place (pushed value s) (progress_in core)
    by_stood [] e finds = absurd finds
    by_stood (Loops frame ∷ s) e finds = absurd finds
    by_stood (Runs frame locals stack ∷ s) e finds =
        let same = top_stands core at running frame locals (value ∷ stack) s top (sym e) in
        ap (λ (f : RunningFrame). Going (phase_shown core.phase) (frames_shown code core.places (Runs frame locals stack ∷ s))
        (slot_filled code (activation_at (site_shown core.places f.activation.site) (running_of f.activation)) slot value (progress_in core))) (sym same)
