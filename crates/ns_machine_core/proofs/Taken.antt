-- Operands that are taken off.
use Rattle.std.proofs.Common.{◌≡◌, ℕ, ◌+◌, ◌≤◌, List, [], ◌∷◌, length, ap, sym, ◌∙◌, refl, subst, arith, Option}
use Rattle.ns_base.specs.declared.place.Place.{Place as SourcePlace}
use Rattle.ns_code.specs.declared.program.CodeProgram.{CodeProgram}
use Rattle.ns_code.specs.declared.instruction.Instr.TheVariants as instr
use Rattle.ns_world.specs.declared.value.Value.{Value}
use Rattle.ns_moves.specs.State.{State, Going, Stuck}
use Rattle.ns_machine_frames.specs.declared.registers.Registers.{Registers}
use Rattle.ns_machine_frames.specs.Standing.{Stood, Runs, Loops, pushed, operands_in}
use Rattle.ns_machine_frames.specs.Stack.{stood, IsLaid}
use Rattle.ns_machine_frames.specs.View.{frames_shown}
use Rattle.ns_machine_core.specs.declared.state.Core.{Core}
use Rattle.ns_machine_core.specs.declared.state.Next.TheVariants as next
use Rattle.ns_machine_core.specs.Shown.{phase_shown, progress_in}
use Rattle.ns_machine_core.specs.Doing.{done, Finds, CanDo, Pushed, IsDone}
use Rattle.ns_machine_frames.specs.declared.frame.RunningFrame.{RunningFrame}
use Rattle.ns_machine_frames.specs.Stated.{IsPicked}
use Rattle.ns_world.specs.declared.value.Value.TheVariants.{Nil}
use Rattle.std.specs.List.{slice_index_or}
use Rattle.ns_machine_core.specs.laws.Pushed.{stack_stays}
use Rattle.ns_machine_core.proofs.Pushed.{push_does}

pub pop_done : (code : CodeProgram) (core : Core) (at to : Registers) (value : Value) (place : Option SourcePlace) →
    CanDo code core at instr.Pop
    → stood core.stack at ≡ pushed value (stood core.stack to) → IsLaid core.stack to → IsDone code instr.Pop place core at core (next.On to)
pop_done code core at to value place can is laid = record {
  state = sym (ap (λ (s : List Stood). done code core.places (phase_shown core.phase) instr.Pop place s (progress_in core)) is
      ∙ by_stood (stood core.stack to) (subst (λ (s : List Stood). Finds code core.places instr.Pop s (progress_in core)) is can.finds));
  stand = record { laid = laid; within = can.stands.frames.within };
  stays = stack_stays core core.stack refl refl;
  kept = can.kept;
}
  where
    by_stood : (s : List Stood) → Finds code core.places instr.Pop (pushed value s) (progress_in core)
        → done code core.places (phase_shown core.phase) instr.Pop place (pushed value s) (progress_in core)
        ≡ Going (phase_shown core.phase) (frames_shown code core.places s) (progress_in core)
    by_stood [] finds = absurd finds
    by_stood (Loops frame ∷ s) finds = absurd finds
    by_stood (Runs frame locals stack ∷ s) finds = refl

pub pick_done : ((missing : State) → IsPicked missing) →
    (code : CodeProgram) (old new : Core) (at to : Registers) (number : ℕ) (place : Option SourcePlace)
    → CanDo code old at (instr.Pick number) → Pushed code old at (slice_index_or (operands_in (stood old.stack at)) number Nil) new to
    → IsDone code (instr.Pick number) place old at new (next.On to)
pick_done picks code old new at to number place can is =
    push_does code old new at to (instr.Pick number) place (slice_index_or (operands_in (stood old.stack at)) number Nil) can is by_stood
  where
    by_stood : (frame : RunningFrame) (locals stack : List Value) (others : List Stood) → Runs frame locals stack ∷ others ≡ stood old.stack at
        → Going (phase_shown old.phase) (frames_shown code old.places (Runs frame locals (slice_index_or (operands_in (stood old.stack at)) number Nil ∷ stack) ∷ others)) (progress_in old)
        ≡ done code old.places (phase_shown old.phase) (instr.Pick number) place (Runs frame locals stack ∷ others) (progress_in old)
    by_stood frame locals stack others e =
        let finds = subst (λ (s : List Stood). Finds code old.places (instr.Pick number) s (progress_in old)) (sym e) can.finds in
        let enough : number + 1 ≤ length stack = finds.enough in
        ap (λ (s : List Stood). Going (phase_shown old.phase) (frames_shown code old.places (Runs frame locals (slice_index_or (operands_in s) number Nil ∷ stack) ∷ others)) (progress_in old)) (sym e)
        ∙ sym (picks (Stuck (progress_in old)) number stack _ (omega (arith, enough)))
