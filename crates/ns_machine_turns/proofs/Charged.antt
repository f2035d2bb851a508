-- The test of a step tells whether the next move charges.
use Rattle.std.proofs.Common.{◌≡◌, ℕ, ◌+◌, ◌<◌, List, [], ◌∷◌, length, refl, ap, sym, ◌∙◌, Some, Bool, true, false}
use Rattle.std.specs.Prelude.{nat_le, ◌&&◌}
use Rattle.ns_code.specs.declared.program.CodeProgram.{CodeProgram}
use Rattle.ns_code.specs.Table.{target}
use Rattle.ns_world.specs.declared.value.Value.{Value}
use Rattle.ns_find.specs.declared.found.Sending.TheVariants.{Plain, Inner}
use Rattle.ns_moves.specs.State as state
use Rattle.ns_moves.specs.State.{Going}
use Rattle.ns_moves.specs.Steps as moves
use Rattle.ns_moves.specs.Steps.{steps_of, steps_from}
use Rattle.ns_moves.specs.Jumps.{goes_back, takes_jump}
use Rattle.ns_moves.specs.StatedMoves.{GoesBackTo}
use Rattle.ns_moves.specs.Charging.{jump_charges, instr_charges, will_charge}
use Rattle.ns_machine_frames.specs.declared.frame.Frame.TheVariants.{Running}
use Rattle.ns_machine_frames.specs.declared.frame.RunningFrame.{RunningFrame}
use Rattle.ns_machine_frames.specs.declared.registers.Registers.{Registers}
use Rattle.ns_machine_frames.specs.Standing.{Stood, below, operands_in}
use Rattle.ns_machine_frames.specs.Stack.{stood}
use Rattle.ns_machine_frames.specs.View.{leaving_shown, activation_shown, frames_shown}
use Rattle.ns_machine_plan.specs.declared.step.Step.{Step}
use Rattle.ns_machine_plan.specs.declared.step.Step.TheVariants as step
use Rattle.ns_machine_plan.specs.Steps.{instr_of}
use Rattle.ns_machine_plan.specs.Stated.{JumpsLand}
use Rattle.ns_machine_core.specs.declared.state.Core.{Core}
use Rattle.ns_machine_core.specs.declared.state.Next.TheVariants.{On}
use Rattle.ns_machine_core.specs.Shown.{phase_shown, progress_in, shown}
use Rattle.ns_machine_turns.specs.Prepared.{IsPreparedToRun, IsAhead}
use Rattle.ns_machine_turns.specs.Charging.{takes_on_top, step_charges}
use Rattle.ns_machine_turns.proofs.Fetched.{stands, locals_at, operands_at, others_at, valid_here}

and_turned : (a b : Bool) → (a && b) ≡ (b && a)
and_turned true true = refl
and_turned true false = refl
and_turned false true = refl
and_turned false false = refl

-- ---- one step

module _ (code : CodeProgram) (body next : ℕ) (inside : next < length (steps_of code body)) (back : GoesBackTo (steps_of code body)) where
  goes_to : (to : ℕ) → to < length (steps_of code body) → nat_le to next ≡ goes_back (steps_from code body (next + 1)) (steps_from code body to)
  goes_to to there = sym (back next to inside there)

  taken_to : (wanted : Bool) (to : ℕ) (stack : List Value) → to < length (steps_of code body)
      → (nat_le to next && takes_on_top wanted stack) ≡ jump_charges wanted stack (steps_from code body (next + 1)) (steps_from code body to)
  taken_to wanted to [] there = and_turned (nat_le to next) false
  taken_to wanted to (value ∷ stack) there =
      and_turned (nat_le to next) (takes_jump wanted value) ∙ ap (λ b. takes_jump wanted value && b) (goes_to to there)

  step_told : (s : Step) (stack : List Value) → ((to : ℕ) → target (instr_of s) ≡ Some to → to < length (steps_of code body))
      → step_charges next stack s ≡ instr_charges code body (steps_from code body (next + 1)) stack (instr_of s)
  step_told step.PushNil stack lands = refl
  step_told step.PushTrue stack lands = refl
  step_told step.PushFalse stack lands = refl
  step_told (step.PushInt number) stack lands = refl
  step_told (step.PushSym sel) stack lands = refl
  step_told (step.PushText text) stack lands = refl
  step_told step.PushSelf stack lands = refl
  step_told (step.PushOuter level) stack lands = refl
  step_told (step.PushLocal hops index) stack lands = refl
  step_told (step.StoreLocal hops index) stack lands = refl
  step_told (step.PushBlock block) stack lands = refl
  step_told (step.MakeArray count) stack lands = refl
  step_told step.Pop stack lands = refl
  step_told (step.Pick number) stack lands = refl
  step_told (step.Send sel argc Plain place row) stack lands = refl
  step_told (step.Send sel argc Inner place row) stack lands = refl
  step_told (step.SendPrivate level sel argc place member) stack lands = refl
  step_told (step.SendSuper sel argc place) stack lands = refl
  step_told (step.InitSuper argc place) stack lands = refl
  step_told (step.StoreSlot slot) stack lands = refl
  step_told step.Return stack lands = refl
  step_told step.ReturnSelf stack lands = refl
  step_told step.ReturnHome stack lands = refl
  step_told (step.Jump to) stack lands = goes_to to (lands to refl)
  step_told (step.JumpFalse to) stack lands = taken_to false to stack (lands to refl)
  step_told (step.JumpTrue to) stack lands = taken_to true to stack (lands to refl)

-- ---- the run

pub frame_told : ((steps : List moves.PlacedInstr) → GoesBackTo steps) → (code : CodeProgram) → JumpsLand code →
    (core : Core) (at : Registers) (running : RunningFrame)
    (s : Step) → IsPreparedToRun code core (On at) → core.stack.frames.items ≡ Running running ∷ below core.stack.frames.items
    → IsAhead code core at running.activation.body s
    → step_charges at.next (operands_in (stood core.stack at)) s ≡ will_charge code (shown code core (On at))
frame_told back code land core at running s can top ahead =
    ap (λ (all : List Stood). step_charges at.next (operands_in all) s) (stands core at running top)
    ∙ (step_told code running.activation.body at.next ahead.there.next_there (back (steps_of code running.activation.body)) s (operands_at core at running)
    (λ to e. (land running.activation.body at.next to s (valid_here code can.grants core at running can.ready.valid top).0.world.sound ahead.there ahead.is e).next_there)
    ∙ (ap (λ (rest : List moves.PlacedInstr). charged rest) (sym ahead.left)
    ∙ ap (λ (all : List Stood). will_charge code (Going (phase_shown core.phase) (frames_shown code core.places all) (progress_in core)))
    (sym (stands core at running top))))
  where
    charged : List moves.PlacedInstr → Bool
    charged rest =
        will_charge code (Going (phase_shown core.phase)
        (state.Running (leaving_shown running.leaving running.activation) (activation_shown core.places running.activation) (locals_at core at running) rest
        (operands_at core at running)
        ∷ frames_shown code core.places (others_at core at running)) (progress_in core))
