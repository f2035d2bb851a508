-- Sends to super and to private members from their step on, and what sends to super are.
use Rattle.std.proofs.Common.{◌≡◌, ◌-◌, ℕ, List, [], ◌∷◌, ap, sym, ◌∙◌, refl, subst, Some, slice_get}
use Rattle.ns_base.specs.declared.selector.Sel.{Sel}
use Rattle.ns_code.specs.declared.program.CodeProgram.{CodeProgram}
use Rattle.ns_code.specs.declared.instruction.Instr.TheVariants as instr
use Rattle.ns_world.specs.declared.kernel.ClassName.{ClassName}
use Rattle.ns_world.specs.Heap.{Heap}
use Rattle.ns_world.specs.World.{World, stepped}
use Rattle.ns_moves.specs.Control.{Activation}
use Rattle.ns_moves.specs.Lawful.{FitsActivation}
use Rattle.ns_moves.specs.Sends.{ToSuper, sent}
use Rattle.ns_moves.specs.Arrivals.{arrived}
use Rattle.ns_moves.specs.State.{State, Stuck}
use Rattle.ns_moves.specs.WorldAsks.{SelectorTakes}
use Rattle.ns_moves.specs.declared.running.Running.{Running as RunningCode}
use Rattle.ns_moves.specs.Running.{code_of}
use Rattle.ns_machine_frames.specs.declared.frame.Frame.TheVariants.{Running}
use Rattle.ns_machine_frames.specs.declared.frame.RunningFrame.{RunningFrame}
use Rattle.ns_machine_frames.specs.declared.registers.Registers.{Registers}
use Rattle.ns_machine_frames.specs.Stated.{ComeOffAgain}
use Rattle.ns_machine_frames.specs.Standing.{Stood, Runs, Loops, pushed_all, below}
use Rattle.ns_machine_frames.specs.Stack.{stood}
use Rattle.ns_machine_frames.specs.View.{activation_shown, frames_shown}
use Rattle.ns_machine_core.specs.declared.state.Core.{Core}
use Rattle.ns_machine_core.specs.declared.state.Next.{Next}
use Rattle.ns_machine_core.specs.Shown.{phase_shown, progress_in}
use Rattle.ns_machine_core.specs.Doing.{done, Finds, CanDo, running_of, IsDone}
use Rattle.ns_machine_sends.specs.Sending.{sent_at, Sends}
use Rattle.ns_machine_sends.specs.Operands.{topmost, SendsOperands}
use Rattle.ns_machine_core.specs.laws.Charged.{step_is}
use Rattle.ns_machine_sends.specs.laws.Selves.{own_sent, own_apart, own_many, own_does}

pub step_fits : (code : CodeProgram) (old new : World) (activation : Activation) → stepped old ≡ Some new →
    FitsActivation old.cells code activation
    → FitsActivation new.cells code activation
step_fits code old new activation e fits =
    subst (λ (h : Heap). FitsActivation h code activation) (sym (ap (λ (w : World). w.cells) (step_is old new e))) fits

pub super_operands : (code : CodeProgram) (core : Core) (at : Registers) (sel : Sel) (argc : ℕ) →
    CanDo code core at (instr.SendSuper sel argc)
    → SendsOperands code core at sel argc argc
super_operands code core at sel argc can = record {
  instr = instr.SendSuper sel argc;
  can = can;
  takes_is = refl;
  leaves_is = refl;
  on = refl;
  fits = by_stood (stood core.stack at) can.finds;
}
  where
    by_stood : (s : List Stood) → Finds code core.places (instr.SendSuper sel argc) s (progress_in core) → SelectorTakes code sel argc
    by_stood [] finds = absurd finds
    by_stood (Loops frame ∷ s) finds = absurd finds
    by_stood (Runs frame locals stack ∷ s) finds = finds.asks.0

pub super_does : ((missing : State) → ComeOffAgain missing) →
    (code : CodeProgram) (old new : Core) (at : Registers) (sel : Sel) (argc place : ℕ) (class : ClassName)
    (here : RunningCode) (running : RunningFrame) (next : Next) → CanDo code old at (instr.SendSuper sel argc)
    → old.stack.frames.items ≡ Running running ∷ below old.stack.frames.items → here ≡ running_of running.activation
    → Sends code old at (at.top - argc) (sent_at code old at (own_sent at argc place class sel) (code_of here) ToSuper) new next
    → IsDone code (instr.SendSuper sel argc) (slice_get old.places place) old at new next
super_does taken code old new at sel argc place class here running next can top e is =
    own_does code old new at (instr.SendSuper sel argc) sel argc place class ToSuper here running next can
    (own_apart code old at sel argc (super_operands code old at sel argc can)) top is
    (λ locals stack others.
    ap (λ (r : RunningCode). arrived code (phase_shown old.phase) (sent code (code_of r) ToSuper sel (topmost old at argc) (slice_get old.places place) (progress_in old))
    (frames_shown code old.places (Runs (record running { next = at.next }) locals stack ∷ others))) e
    ∙ subst (λ (n : ℕ). arrived code (phase_shown old.phase)
    (sent code (activation_shown old.places running.activation) ToSuper sel (topmost old at argc) (slice_get old.places place) (progress_in old))
    (frames_shown code old.places (Runs (record running { next = at.next }) locals stack ∷ others))
    ≡ done code old.places (phase_shown old.phase) (instr.SendSuper sel n) (slice_get old.places place)
    (pushed_all (topmost old at argc) (Runs (record running { next = at.next }) locals stack ∷ others)) (progress_in old))
    (own_many code old at sel argc (super_operands code old at sel argc can))
    (sym (taken (Stuck (progress_in old)) (topmost old at argc) stack _)))
