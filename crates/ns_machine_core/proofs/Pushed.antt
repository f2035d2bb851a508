-- A value that is pushed on the operands of the body that runs.
use Rattle.std.proofs.Common.{◌≡◌, ℕ, ℤ, List, [], ◌∷◌, length, ap, sym, subst, ◌∙◌, refl, Option, length-set}
use Rattle.ns_base.specs.declared.place.Place.{Place as SourcePlace}
use Rattle.ns_base.specs.declared.selector.Sel.{Sel}
use Rattle.ns_code.specs.declared.program.CodeProgram.{CodeProgram}
use Rattle.ns_code.specs.declared.instruction.Instr.{Instr}
use Rattle.ns_code.specs.declared.instruction.Instr.TheVariants as instr
use Rattle.ns_world.specs.declared.value.Value.{Value}
use Rattle.ns_world.specs.declared.value.Value.TheVariants.{Nil, True, False, Int, Sym}
use Rattle.ns_moves.specs.State.{Going}
use Rattle.ns_machine_frames.specs.declared.frame.Frame.TheVariants.{Running}
use Rattle.ns_machine_frames.specs.declared.frame.RunningFrame.{RunningFrame}
use Rattle.ns_machine_frames.specs.declared.registers.Registers.{Registers}
use Rattle.ns_machine_frames.specs.declared.stack.Stack.{Stack}
use Rattle.ns_machine_frames.specs.Standing.{Stood, Runs, Loops, pushed, below}
use Rattle.ns_machine_frames.specs.Stack.{stood, put_at, IsLaid}
use Rattle.ns_machine_frames.specs.Room.{FramesFitWithin}
use Rattle.ns_machine_frames.specs.View.{frames_shown}
use Rattle.ns_machine_core.specs.declared.state.Core.{Core}
use Rattle.ns_machine_core.specs.declared.state.Next.TheVariants as next
use Rattle.ns_machine_core.specs.Shown.{phase_shown, progress_in, shown}
use Rattle.ns_machine_core.specs.Standing.{AreStanding}
use Rattle.ns_moves.specs.Bodies.{height_in, greatest_of}
use Rattle.ns_machine_core.specs.Doing.{done, Finds, CanDo, Pushed, IsDone}
use Rattle.ns_machine_core.specs.laws.Pushed.{stack_stays, top_stands}

pub value_pushed : (code : CodeProgram) (core : Core) (at to : Registers) (stack : Stack) (value : Value) → AreStanding code core.stack at
    → stood stack to ≡ pushed value (stood core.stack at) → IsLaid stack to → stack ≡ put_at at.top value core.stack
    → Pushed code core at value (record core { stack = stack }) to
value_pushed code core at to stack value stands is laid write = record {
  stood = is;
  stands = record {
    laid = laid;
    within = subst (λ (s : Stack). FramesFitWithin (height_in code) (greatest_of code.bodies) (length s.values.items) s.frames.items) (sym write)
        (subst (λ (n : ℕ). FramesFitWithin (height_in code) (greatest_of code.bodies) n core.stack.frames.items)
        (sym (length-set core.stack.values.items at.top value)) stands.within);
  };
  frames = ap (λ (s : Stack). s.frames) write;
  run = refl;
  phase = refl;
  stays = stack_stays core stack (ap (λ (s : Stack). s.values.room) write) (ap (λ (s : Stack). s.frames.room) write);
}

-- ---- values that instructions name

-- An instruction pushes a value, whatever the frame.
abbrev Pushes : CodeProgram → Core → Registers → Instr → Option SourcePlace → Value → Type 0
Pushes code core at instr place value =
    (frame : RunningFrame) (locals stack : List Value) (others : List Stood) → Runs frame locals stack ∷ others ≡ stood core.stack at
    → Going (phase_shown core.phase) (frames_shown code core.places (Runs frame locals (value ∷ stack) ∷ others)) (progress_in core)
    ≡ done code core.places (phase_shown core.phase) instr place (Runs frame locals stack ∷ others) (progress_in core)

pub push_does : (code : CodeProgram) (old new : Core) (at to : Registers) (instr : Instr) (place : Option SourcePlace) (value : Value) →
    CanDo code old at instr
    → Pushed code old at value new to → Pushes code old at instr place value → IsDone code instr place old at new (next.On to)
push_does code old new at to instr place value can is pushes = record {
  state = pushed_state ∙ by_stood (stood old.stack at) refl can.finds;
  stand = is.stands;
  stays = is.stays;
  kept = rw is.run can.kept;
}
  where
    pushed_state : shown code new (next.On to) ≡ Going (phase_shown old.phase) (frames_shown code old.places (pushed value (stood old.stack at))) (progress_in old)
    pushed_state = rw (is.stood, is.run, is.stays.places, is.phase) refl

    by_stood : (s : List Stood) → s ≡ stood old.stack at → Finds code old.places instr s (progress_in old)
        → Going (phase_shown old.phase) (frames_shown code old.places (pushed value s)) (progress_in old)
        ≡ done code old.places (phase_shown old.phase) instr place s (progress_in old)
    by_stood [] e finds = absurd finds
    by_stood (Loops frame ∷ s) e finds = absurd finds
    by_stood (Runs frame locals stack ∷ s) e finds = pushes frame locals stack s e

pub nil_done : (code : CodeProgram) (old new : Core) (at to : Registers) (place : Option SourcePlace) → CanDo code old at instr.PushNil
    → Pushed code old at Nil new to → IsDone code instr.PushNil place old at new (next.On to)
nil_done code old new at to place can is = push_does code old new at to instr.PushNil place Nil can is (λ frame locals stack others e. refl)

pub true_done : (code : CodeProgram) (old new : Core) (at to : Registers) (place : Option SourcePlace) → CanDo code old at instr.PushTrue
    → Pushed code old at True new to → IsDone code instr.PushTrue place old at new (next.On to)
true_done code old new at to place can is =
    push_does code old new at to instr.PushTrue place True can is (λ frame locals stack others e. refl)

pub false_done : (code : CodeProgram) (old new : Core) (at to : Registers) (place : Option SourcePlace) → CanDo code old at instr.PushFalse
    → Pushed code old at False new to → IsDone code instr.PushFalse place old at new (next.On to)
false_done code old new at to place can is =
    push_does code old new at to instr.PushFalse place False can is (λ frame locals stack others e. refl)

pub int_done : (code : CodeProgram) (old new : Core) (at to : Registers) (number : ℤ) (place : Option SourcePlace) →
    CanDo code old at (instr.PushInt number)
    → Pushed code old at (Int number) new to → IsDone code (instr.PushInt number) place old at new (next.On to)
int_done code old new at to number place can is =
    push_does code old new at to (instr.PushInt number) place (Int number) can is (λ frame locals stack others e. refl)

pub sym_done : (code : CodeProgram) (old new : Core) (at to : Registers) (sel : Sel) (place : Option SourcePlace) →
    CanDo code old at (instr.PushSym sel)
    → Pushed code old at (Sym sel) new to → IsDone code (instr.PushSym sel) place old at new (next.On to)
sym_done code old new at to sel place can is =
    push_does code old new at to (instr.PushSym sel) place (Sym sel) can is (λ frame locals stack others e. refl)

pub self_done : (code : CodeProgram) (old new : Core) (at to : Registers) (running : RunningFrame) (place : Option SourcePlace) →
    CanDo code old at instr.PushSelf
    → old.stack.frames.items ≡ Running running ∷ below old.stack.frames.items
    → Pushed code old at running.activation.me new to → IsDone code instr.PushSelf place old at new (next.On to)
self_done code old new at to running place can top is =
    push_does code old new at to instr.PushSelf place running.activation.me can is
    (λ frame locals stack others e.
    let same = top_stands old at running frame locals stack others top e in
    ap (λ (f : RunningFrame). Going (phase_shown old.phase) (frames_shown code old.places (Runs frame locals (f.activation.me ∷ stack) ∷ others)) (progress_in old))
    (sym same))
