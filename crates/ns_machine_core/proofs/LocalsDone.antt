-- Locals that are read and stored.
use Rattle.std.proofs.Common.{◌≡◌, ℕ, List, [], ◌∷◌, ap, sym, ◌∙◌, refl, arith, Option, Some, None, false, slice_get}
use Rattle.std.specs.Prelude.{IsSome, Bool, if◌then◌else◌}
use Rattle.std.specs.List.{slice_index_or}
use Rattle.ns_base.specs.declared.place.Place.{Place as SourcePlace}
use Rattle.ns_code.specs.declared.program.CodeProgram.{CodeProgram}
use Rattle.ns_code.specs.declared.body.BodyCode.{BodyCode}
use Rattle.ns_code.specs.declared.instruction.Instr.{Instr}
use Rattle.ns_code.specs.declared.instruction.Instr.TheVariants as instr
use Rattle.ns_world.specs.declared.value.Value.{Value}
use Rattle.ns_world.specs.declared.value.Value.TheVariants.{Nil}
use Rattle.ns_world.specs.Heap.{Heap}
use Rattle.ns_world.specs.World.{WorldView}
use Rattle.ns_verify.specs.Uses.{IsUsable, HasLocal as NamesLocal}
use Rattle.ns_moves.specs.declared.site.Site.{Site}
use Rattle.ns_moves.specs.Control.{Progress, Activation, in_world}
use Rattle.ns_moves.specs.Bodies.{has_environment, is_beside, local_at, locals_with, local_stored}
use Rattle.ns_moves.specs.State.{Going}
use Rattle.ns_moves.specs.Room.{SameRest}
use Rattle.ns_moves.specs.Running.{activation_at, code_of}
use Rattle.ns_machine_frames.specs.declared.frame.Frame.{Frame}
use Rattle.ns_machine_frames.specs.declared.frame.Frame.TheVariants.{Running}
use Rattle.ns_machine_frames.specs.declared.frame.RunningFrame.{RunningFrame}
use Rattle.ns_machine_frames.specs.declared.registers.Registers.{Registers}
use Rattle.ns_machine_frames.specs.Standing.{Stood, Runs, Loops, below, locals_in, operands_in}
use Rattle.ns_machine_frames.specs.Stack.{stood}
use Rattle.ns_machine_frames.specs.View.{frames_shown, site_shown, activation_shown}
use Rattle.ns_machine_core.specs.declared.on_top.OnTop.{OnTop}
use Rattle.ns_machine_core.specs.declared.state.Core.{Core}
use Rattle.ns_machine_core.specs.declared.state.Next.TheVariants as next
use Rattle.ns_machine_core.specs.Shown.{phase_shown, progress_in}
use Rattle.ns_machine_core.specs.Doing.{done, FindsWhatItTakes, Finds, CanDo, running_of, Pushed, IsDone}
use Rattle.ns_machine_core.specs.Locals.{LocalIsThere}
use Rattle.ns_machine_core.specs.Straight.{IsOnTop}
use Rattle.ns_machine_core.specs.laws.Straight.{top_is}
use Rattle.ns_machine_core.specs.laws.Pushed.{top_stands}
use Rattle.ns_machine_core.specs.laws.Worlds.{in_other}
use Rattle.ns_machine_core.specs.laws.Finds.{finds_in}
use Rattle.ns_machine_core.proofs.Pushed.{push_does}
use Rattle.ns_machine_core.proofs.Environments.{local_outside, local_beside}

-- ---- a local that an instruction names is there

there_in : (code : CodeProgram) (core : Core) (at : Registers) (instr : Instr) (hops index : ℕ) (running : RunningFrame) →
    CanDo code core at instr
    → core.stack.frames.items ≡ Running running ∷ below core.stack.frames.items
    → ((body : BodyCode) (number : ℕ) → IsUsable code running.activation.body body number instr → NamesLocal code running.activation.body hops index)
    → LocalIsThere code core.stack at core.run.world.world.cells (running_of running.activation) hops index
there_in code core at instr hops index running can top names = by_body (slice_get code.bodies running.activation.body) refl finds.fits.there
  where
    finds : FindsWhatItTakes code core.places instr (record running { next = at.next }) (locals_in (stood core.stack at)) (operands_in (stood core.stack at)) (progress_in core)
    finds = finds_in code core at instr running can top

    by_body : (o : Option BodyCode) → slice_get code.bodies running.activation.body ≡ o → IsSome o
        → LocalIsThere code core.stack at core.run.world.world.cells (running_of running.activation) hops index
    by_body (Some body) e some =
        let named = names body _ (finds.uses body e) in
        record {
          laid = can.stands.frames.laid;
          beside = λ is. local_beside code (code_of (running_of running.activation)) hops index (locals_in (stood core.stack at)) finds.beside named is;
          outside = local_outside core.run.world.world.cells code (code_of (running_of running.activation)) index hops finds.environment named;
        }
    by_body None e some = absurd (cc)

pub read_there : (code : CodeProgram) (core : Core) (at : Registers) (hops index : ℕ) (running : RunningFrame) →
    CanDo code core at (instr.PushLocal hops index)
    → core.stack.frames.items ≡ Running running ∷ below core.stack.frames.items
    → LocalIsThere code core.stack at core.run.world.world.cells (running_of running.activation) hops index
read_there code core at hops index running can top =
    there_in code core at (instr.PushLocal hops index) hops index running can top (λ body number named. named)

pub stored_there : (code : CodeProgram) (core : Core) (at : Registers) (hops index : ℕ) (running : RunningFrame) →
    CanDo code core at (instr.StoreLocal hops index)
    → core.stack.frames.items ≡ Running running ∷ below core.stack.frames.items
    → LocalIsThere code core.stack at core.run.world.world.cells (running_of running.activation) hops index
stored_there code core at hops index running can top =
    there_in code core at (instr.StoreLocal hops index) hops index running can top (λ body number named. named)

-- ---- the body that runs on top

-- what is known of it is so of its frame
pub known_there : (code : CodeProgram) (top : OnTop) (frames : List Frame) (running : RunningFrame) → IsOnTop code top frames
    → frames ≡ Running running ∷ below frames → top.environment ≡ has_environment code running.activation.body
known_there code top frames running known e =
    known.environment ∙ ap (λ (body : ℕ). has_environment code body) (sym (top_is top.body frames (below frames) running known.runs e))

-- ---- reading

-- of two values the other, where a test is false
pub not_taken : {A : Type 0} (b : Bool) (x y : A) → b ≡ false → (if b then x else y) ≡ y
not_taken b x y e = rw e refl

-- a local that is pushed
pub local_pushed : (code : CodeProgram) (old new : Core) (at to : Registers) (hops index : ℕ) (running : RunningFrame) (value : Value)
    (place : Option SourcePlace) → CanDo code old at (instr.PushLocal hops index)
    → old.stack.frames.items ≡ Running running ∷ below old.stack.frames.items
    → ((site : Site) → value
    ≡ local_at old.run.world.world.cells code (activation_at site (running_of running.activation)) (locals_in (stood old.stack at)) hops index)
    → Pushed code old at value new to → IsDone code (instr.PushLocal hops index) place old at new (next.On to)
local_pushed code old new at to hops index running value place can top is pushed =
    push_does code old new at to (instr.PushLocal hops index) place value can pushed by_stood
  where
    heap : Heap
    heap = old.run.world.world.cells

    by_stood : (frame : RunningFrame) (locals stack : List Value) (others : List Stood) → Runs frame locals stack ∷ others ≡ stood old.stack at
        → Going (phase_shown old.phase) (frames_shown code old.places (Runs frame locals (value ∷ stack) ∷ others)) (progress_in old)
        ≡ done code old.places (phase_shown old.phase) (instr.PushLocal hops index) place (Runs frame locals stack ∷ others) (progress_in old)
    by_stood frame locals stack others e =
        let same = top_stands old at running frame locals stack others top e in
        ap (λ (v : Value). Going (phase_shown old.phase) (frames_shown code old.places (Runs frame locals (v ∷ stack) ∷ others)) (progress_in old))
        (is (site_shown old.places running.activation.site)
        ∙ (ap (λ (f : RunningFrame). local_at heap code (activation_at (site_shown old.places f.activation.site) (running_of f.activation))
        (locals_in (stood old.stack at)) hops index) (sym same)
        ∙ ap (λ (s : List Stood). local_at heap code (activation_shown old.places frame.activation) (locals_in s) hops index) (sym e)))

-- ---- storing

-- one that stands outside is stored in the world alone
beside_stay : (code : CodeProgram) (activation : Activation) (locals : List Value) (hops index : ℕ) (value : Value) →
    is_beside code activation hops ≡ false
    → locals_with code activation locals hops index value ≡ locals
beside_stay code activation locals hops index value e = rw e refl

pub outside_stored : (code : CodeProgram) (core : Core) (world : WorldView) (at : Registers) (hops index : ℕ) (running : RunningFrame) (value : Value)
    (source : Option SourcePlace) → CanDo code core at (instr.StoreLocal hops index) → core.stack.frames.items ≡ Running running ∷ below core.stack.frames.items
    → value ≡ slice_index_or (operands_in (stood core.stack at)) 0 Nil
    → ((site : Site) → is_beside code (activation_at site (running_of running.activation)) hops ≡ false)
    → ((site : Site) (rest : Progress) → in_world rest world.world
    ≡ local_stored code (activation_at site (running_of running.activation)) hops index value (in_world rest core.run.world.world))
    → SameRest core.run.world world → IsDone code (instr.StoreLocal hops index) source core at (in_other core world) (next.On at)
outside_stored code core world at hops index running value source can top is_top beside is rest = record {
  state = ap (λ (p : Progress). Going (phase_shown core.phase) (frames_shown code core.places (stood core.stack at)) p)
      (is (site_shown core.places running.activation.site) (progress_in core))
      ∙ by_stood (stood core.stack at) refl can.finds is_top;
  stand = can.stands.frames;
  stays = record { world = rest; values = refl; frames = refl; places = refl; arguments = refl };
  kept = can.kept;
}
  where
    by_stood : (s : List Stood) → s ≡ stood core.stack at → Finds code core.places (instr.StoreLocal hops index) s (progress_in core)
        → value ≡ slice_index_or (operands_in s) 0 Nil
        → Going (phase_shown core.phase) (frames_shown code core.places s)
        (local_stored code (activation_at (site_shown core.places running.activation.site) (running_of running.activation)) hops index value (progress_in core))
        ≡ done code core.places (phase_shown core.phase) (instr.StoreLocal hops index) source s (progress_in core)
    by_stood [] e finds is = absurd finds
    by_stood (Loops frame ∷ s) e finds is = absurd finds
    by_stood (Runs frame locals [] ∷ s) e finds is = let some = finds.enough in absurd (omega (arith, some))
    by_stood (Runs frame locals (v ∷ operands) ∷ s) e finds is =
        let same = top_stands core at running frame locals (v ∷ operands) s top e in
        let own : is_beside code (activation_shown core.places frame.activation) hops ≡ false =
        ap (λ (f : RunningFrame). is_beside code (activation_shown core.places f.activation) hops) same ∙ beside (site_shown core.places running.activation.site) in
        ap (λ (f : RunningFrame). Going (phase_shown core.phase) (frames_shown code core.places (Runs frame locals (v ∷ operands) ∷ s))
        (local_stored code (activation_shown core.places f.activation) hops index value (progress_in core))) (sym same)
        ∙ (ap (λ (w : Value). Going (phase_shown core.phase) (frames_shown code core.places (Runs frame locals (v ∷ operands) ∷ s))
        (local_stored code (activation_shown core.places frame.activation) hops index w (progress_in core))) is
        ∙ ap (λ (ls : List Value). Going (phase_shown core.phase) (frames_shown code core.places (Runs frame ls (v ∷ operands) ∷ s))
        (local_stored code (activation_shown core.places frame.activation) hops index v (progress_in core)))
        (sym (beside_stay code (activation_shown core.places frame.activation) locals hops index v own)))
