-- What the instructions that end a body find, and lead to.
use Rattle.std.proofs.Common.{◌≡◌, List, [], ◌∷◌, refl, ap, sym, ◌∙◌, subst, arith, Option}
use Rattle.ns_base.specs.declared.place.Place.{Place as SourcePlace}
use Rattle.ns_code.specs.declared.program.CodeProgram.{CodeProgram}
use Rattle.ns_code.specs.declared.instruction.Instr.TheVariants as instr
use Rattle.ns_world.specs.declared.value.Value.{Value}
use Rattle.ns_world.specs.Lawful.{IsLiveValue, IsLawful}
use Rattle.ns_moves.specs.Control.{Progress}
use Rattle.ns_moves.specs.Returns.{returned}
use Rattle.ns_moves.specs.State.{State}
use Rattle.ns_moves.specs.WorldAsks.{CanLeave}
use Rattle.ns_machine_frames.specs.declared.frame.Frame.TheVariants.{Running}
use Rattle.ns_machine_frames.specs.declared.frame.RunningFrame.{RunningFrame}
use Rattle.ns_machine_frames.specs.declared.registers.Registers.{Registers}
use Rattle.ns_machine_frames.specs.Standing.{Stood, Runs, Loops, below, pushed}
use Rattle.ns_machine_frames.specs.Stack.{stood, IsLaid}
use Rattle.ns_machine_frames.specs.View.{leaving_shown, activation_shown, frames_shown}
use Rattle.ns_machine_core.specs.declared.state.Core.{Core}
use Rattle.ns_machine_core.specs.declared.state.Next.{Next}
use Rattle.ns_machine_core.specs.Shown.{phase_shown, progress_in}
use Rattle.ns_machine_core.specs.Framed.{AreFramed}
use Rattle.ns_machine_core.specs.Doing.{done, Finds, CanDo, IsDone}
use Rattle.ns_machine_core.specs.Passing.{Passes, DoesTwice}
use Rattle.ns_machine_core.specs.laws.Pushed.{top_stands}
use Rattle.ns_machine_returns.specs.Answering.{EndsTwice}
use Rattle.ns_machine_returns.specs.Ending.{CanEnd, IsEnded}

-- the frames without an operand are as sure of what is below them
pub unpushed : (code : CodeProgram) (value : Value) (p : Progress) (s : List Stood) → AreFramed code (pushed value s) p → AreFramed code s p
unpushed code value p [] framed = framed
unpushed code value p (Loops frame ∷ s) framed = framed
unpushed code value p (Runs frame locals stack ∷ s) framed = record { depth = framed.depth; rooms = framed.rooms }

-- ---- a value

-- What an operand that is returned finds.
record Found (code : CodeProgram) (core : Core) (frame : RunningFrame) (value : Value) : Type 0 where
  pub leaves : CanLeave core.run.world.world.cells code (leaving_shown frame.leaving frame.activation)
  pub live : IsLiveValue core.run.world.world.cells code value
  pub lawful : IsLawful core.run.world.world code

value_found : (code : CodeProgram) (core : Core) (at to : Registers) (frame : RunningFrame) (value : Value) →
    CanDo code core at instr.Return
    → core.stack.frames.items ≡ Running frame ∷ below core.stack.frames.items → stood core.stack at ≡ pushed value (stood core.stack to)
    → Found code core frame value
value_found code core at to frame value can top e =
    by_stood (stood core.stack to) e (subst (λ (s : List Stood). Finds code core.places instr.Return s (progress_in core)) e can.finds)
  where
    by_stood : (s : List Stood) → stood core.stack at ≡ pushed value s → Finds code core.places instr.Return (pushed value s) (progress_in core)
        → Found code core frame value
    by_stood [] e finds = absurd finds
    by_stood (Loops one ∷ s) e finds = absurd finds
    by_stood (Runs one locals stack ∷ s) e finds =
        let same = top_stands core at frame one locals (value ∷ stack) s top (sym e) in
        record {
          leaves = subst (λ (f : RunningFrame). CanLeave core.run.world.world.cells code (leaving_shown f.leaving f.activation)) same finds.asks;
          live = finds.live 0 value (omega arith);
          lawful = finds.lawful;
        }

pub value_ends : (code : CodeProgram) (core : Core) (at to : Registers) (frame : RunningFrame) (value : Value) →
    CanDo code core at instr.Return
    → core.stack.frames.items ≡ Running frame ∷ below core.stack.frames.items → stood core.stack at ≡ pushed value (stood core.stack to)
    → IsLaid core.stack to → CanEnd code core to frame value
value_ends code core at to frame value can top e laid =
    let found = value_found code core at to frame value can top e in
    record {
      stands = record { rooms = can.stands.rooms; frames = record { laid = laid; within = can.stands.frames.within } };
      top = top;
      framed = unpushed code value (progress_in core) (stood core.stack to) (subst (λ (s : List Stood). AreFramed code s (progress_in core)) e can.framed);
      lawful = found.lawful;
      leaves = found.leaves;
      live = found.live;
      kept = can.kept;
    }

-- its end is what the instruction does
value_done : (code : CodeProgram) (core : Core) (at to : Registers) (frame : RunningFrame) (value : Value) (place : Option SourcePlace) →
    CanDo code core at instr.Return
    → core.stack.frames.items ≡ Running frame ∷ below core.stack.frames.items → stood core.stack at ≡ pushed value (stood core.stack to)
    → returned code (phase_shown core.phase) (leaving_shown frame.leaving frame.activation) (activation_shown core.places frame.activation) value
    (frames_shown code core.places (below (stood core.stack to))) (progress_in core)
    ≡ done code core.places (phase_shown core.phase) instr.Return place (stood core.stack at) (progress_in core)
value_done code core at to frame value place can top e =
    by_stood (stood core.stack to) e (subst (λ (s : List Stood). Finds code core.places instr.Return s (progress_in core)) e can.finds)
    ∙ ap (λ (s : List Stood). done code core.places (phase_shown core.phase) instr.Return place s (progress_in core)) (sym e)
  where
    by_stood : (s : List Stood) → stood core.stack at ≡ pushed value s → Finds code core.places instr.Return (pushed value s) (progress_in core)
        → returned code (phase_shown core.phase) (leaving_shown frame.leaving frame.activation) (activation_shown core.places frame.activation) value
        (frames_shown code core.places (below s)) (progress_in core)
        ≡ done code core.places (phase_shown core.phase) instr.Return place (pushed value s) (progress_in core)
    by_stood [] e finds = absurd finds
    by_stood (Loops one ∷ s) e finds = absurd finds
    by_stood (Runs one locals stack ∷ s) e finds =
        let same = top_stands core at frame one locals (value ∷ stack) s top (sym e) in
        ap (λ (f : RunningFrame). returned code (phase_shown core.phase) (leaving_shown f.leaving f.activation) (activation_shown core.places f.activation) value
        (frames_shown code core.places s) (progress_in core)) (sym same)

pub value_returned : (code : CodeProgram) (core new : Core) (at to : Registers) (frame : RunningFrame) (value : Value) (place : Option SourcePlace) (n : Next)
    → CanDo code core at instr.Return → core.stack.frames.items ≡ Running frame ∷ below core.stack.frames.items
    → stood core.stack at ≡ pushed value (stood core.stack to) → IsEnded code core to frame value new n → IsDone code instr.Return place core at new n
value_returned code core new at to frame value place n can top e ended = record {
  state = ended.state ∙ value_done code core at to frame value place can top e;
  stand = ended.stand;
  stays = ended.stays;
  kept = ended.kept;
}

-- so it is where two frames have ended
pub value_returned_twice : (code : CodeProgram) (core new : Core) (at to : Registers) (frame : RunningFrame) (value : Value) (place : Option SourcePlace) (n : Next)
    → CanDo code core at instr.Return → core.stack.frames.items ≡ Running frame ∷ below core.stack.frames.items
    → stood core.stack at ≡ pushed value (stood core.stack to) → EndsTwice code core to frame value new n → DoesTwice code instr.Return place core at new n
value_returned_twice code core new at to frame value place n can top e ended =
    subst (λ (s : State). Passes code s core new n) (value_done code core at to frame value place can top e) ended

-- ---- self

self_found : (code : CodeProgram) (core : Core) (at : Registers) (frame : RunningFrame) → CanDo code core at instr.ReturnSelf
    → core.stack.frames.items ≡ Running frame ∷ below core.stack.frames.items → Found code core frame frame.activation.me
self_found code core at frame can top = by_stood (stood core.stack at) refl can.finds
  where
    by_stood : (s : List Stood) → s ≡ stood core.stack at → Finds code core.places instr.ReturnSelf s (progress_in core)
        → Found code core frame frame.activation.me
    by_stood [] e finds = absurd finds
    by_stood (Loops one ∷ s) e finds = absurd finds
    by_stood (Runs one locals stack ∷ s) e finds =
        let same = top_stands core at frame one locals stack s top e in
        record {
          leaves = subst (λ (f : RunningFrame). CanLeave core.run.world.world.cells code (leaving_shown f.leaving f.activation)) same finds.asks.0;
          live = subst (λ (f : RunningFrame). IsLiveValue core.run.world.world.cells code f.activation.me) same finds.asks.1;
          lawful = finds.lawful;
        }

pub self_ends : (code : CodeProgram) (core : Core) (at : Registers) (frame : RunningFrame) → CanDo code core at instr.ReturnSelf
    → core.stack.frames.items ≡ Running frame ∷ below core.stack.frames.items → CanEnd code core at frame frame.activation.me
self_ends code core at frame can top =
    let found = self_found code core at frame can top in
    record {
      stands = can.stands;
      top = top;
      framed = can.framed;
      lawful = found.lawful;
      leaves = found.leaves;
      live = found.live;
      kept = can.kept;
    }

-- its end is what the instruction does
self_done : (code : CodeProgram) (core : Core) (at : Registers) (frame : RunningFrame) (place : Option SourcePlace) → CanDo code core at instr.ReturnSelf
    → core.stack.frames.items ≡ Running frame ∷ below core.stack.frames.items
    → returned code (phase_shown core.phase) (leaving_shown frame.leaving frame.activation) (activation_shown core.places frame.activation) frame.activation.me
    (frames_shown code core.places (below (stood core.stack at))) (progress_in core)
    ≡ done code core.places (phase_shown core.phase) instr.ReturnSelf place (stood core.stack at) (progress_in core)
self_done code core at frame place can top = by_stood (stood core.stack at) refl can.finds
  where
    by_stood : (s : List Stood) → s ≡ stood core.stack at → Finds code core.places instr.ReturnSelf s (progress_in core)
        → returned code (phase_shown core.phase) (leaving_shown frame.leaving frame.activation) (activation_shown core.places frame.activation) frame.activation.me
        (frames_shown code core.places (below s)) (progress_in core)
        ≡ done code core.places (phase_shown core.phase) instr.ReturnSelf place s (progress_in core)
    by_stood [] e finds = absurd finds
    by_stood (Loops one ∷ s) e finds = absurd finds
    by_stood (Runs one locals stack ∷ s) e finds =
        let same = top_stands core at frame one locals stack s top e in
        ap (λ (f : RunningFrame). returned code (phase_shown core.phase) (leaving_shown f.leaving f.activation) (activation_shown core.places f.activation) f.activation.me
        (frames_shown code core.places s) (progress_in core)) (sym same)

pub self_returned : (code : CodeProgram) (core new : Core) (at : Registers) (frame : RunningFrame) (place : Option SourcePlace) (n : Next)
    → CanDo code core at instr.ReturnSelf → core.stack.frames.items ≡ Running frame ∷ below core.stack.frames.items
    → IsEnded code core at frame frame.activation.me new n → IsDone code instr.ReturnSelf place core at new n
self_returned code core new at frame place n can top ended = record {
  state = ended.state ∙ self_done code core at frame place can top;
  stand = ended.stand;
  stays = ended.stays;
  kept = ended.kept;
}

-- so it is where two frames have ended
pub self_returned_twice : (code : CodeProgram) (core new : Core) (at : Registers) (frame : RunningFrame) (place : Option SourcePlace) (n : Next)
    → CanDo code core at instr.ReturnSelf → core.stack.frames.items ≡ Running frame ∷ below core.stack.frames.items
    → EndsTwice code core at frame frame.activation.me new n → DoesTwice code instr.ReturnSelf place core at new n
self_returned_twice code core new at frame place n can top ended =
    subst (λ (s : State). Passes code s core new n) (self_done code core at frame place can top) ended
