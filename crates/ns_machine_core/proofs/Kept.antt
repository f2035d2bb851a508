-- What a move keeps of a machine.
use Rattle.std.proofs.Common.{◌≡◌, ℕ, ◌+◌, List, ap, sym, ◌∙◌, subst, Option, All}
use Rattle.ns_code.specs.declared.program.CodeProgram.{CodeProgram}
use Rattle.ns_facets.specs.declared.row.Grants.{Grants}
use Rattle.ns_world.specs.Later.{IsLater, Lasts}
use Rattle.ns_find.specs.declared.memo.Kept.{Kept}
use Rattle.ns_find.specs.Memo.{PlaceIsRight}
use Rattle.ns_moves.specs.State.{State, progress_of}
use Rattle.ns_moves.specs.Steps.{PlacedInstr}
use Rattle.ns_moves.specs.Move.{moves}
use Rattle.ns_moves.specs.MovesOnward.{MovesGoOnward}
use Rattle.ns_moves.specs.Standing.{MovesKeepValid}
use Rattle.ns_moves.specs.Valid.{Valid}
use Rattle.ns_moves.specs.Control.{Progress}
use Rattle.ns_machine_frames.specs.declared.registers.Registers.{Registers}
use Rattle.ns_machine_core.specs.declared.state.Core.{Core}
use Rattle.ns_machine_core.specs.declared.state.Next.{Next}
use Rattle.ns_machine_core.specs.declared.state.Next.TheVariants as next
use Rattle.ns_machine_frames.specs.Stack.{in_use, stood}
use Rattle.ns_machine_core.specs.Shown.{phase_shown, progress_in, shown}
use Rattle.ns_machine_core.specs.Doing.{CanDo, IsDone}
use Rattle.ns_machine_core.specs.Moving.{behind, IsNextStep}
use Rattle.ns_machine_core.specs.Passing.{Passes, DoesTwice, MovesTwice}
use Rattle.ns_machine_core.specs.Ready.{MachineIsReady, MakesMove}
use Rattle.ns_machine_core.specs.Standing.{StandAt, KeepsRooms, KeepsRightIn}
use Rattle.ns_machine_core.proofs.Framed.{HeightsKnown, valid_framed, framed_behind}
use Rattle.ns_machine_core.specs.laws.Kept.{shown_progress, ready_lawful, rooms_stay}

-- so many moves leave a machine ready whose memory is as it was
module _ (keeps : (code : CodeProgram) (grants : Grants) → MovesKeepValid code grants) (onward : (code : CodeProgram) → MovesGoOnward code)
    (memos : (places : List (Option Kept)) → Lasts (λ heap code. All (PlaceIsRight heap code) places)) where
  ready_after : (count : ℕ) (code : CodeProgram) (grants : Grants) (old new : Core) (from n : Next) → MachineIsReady code grants old from
      → shown code new n ≡ moves code count (shown code old from) → StandAt code new n → KeepsRooms old new → KeepsRightIn code old new → MachineIsReady code grants new n
  ready_after count code grants old new from n ready state stand stays kept =
      let after : Valid code grants (shown code new n) = subst (Valid code grants) (sym state) (keeps code grants count (shown code old from) ready.valid) in
      let on = onward code count (shown code old from) in
      let whole : progress_of (moves code count (shown code old from)) ≡ progress_in new = ap progress_of (sym state) ∙ shown_progress code new n in
      record {
        valid = after;
        rooms = rooms_stay code old new ready.rooms stays;
        stand = stand;
        kept = memos new.run.memo code (progress_in old).world (progress_in new).world
            (record {
              before = ready_lawful code grants old from ready.valid;
              after = ready_lawful code grants new n after;
              later = subst (λ (p : Progress). IsLater p.world (progress_in new).world) (shown_progress code old from)
                  (subst (λ (p : Progress). IsLater (progress_of (shown code old from)).world p.world) whole on.later);
            })
            kept;
      }

  pub keeps_ready : (code : CodeProgram) (grants : Grants) (old new : Core) (from n : Next) → MachineIsReady code grants old from → MakesMove code old from new n
      → MachineIsReady code grants new n
  keeps_ready code grants old new from n ready moved = ready_after 1 code grants old new from n ready moved.state moved.stand moved.stays moved.kept

  pub passing_keeps_ready : (code : CodeProgram) (grants : Grants) (old new : Core) (from n : Next) → MachineIsReady code grants old from
      → MovesTwice code old from new n → MachineIsReady code grants new n
  passing_keeps_ready code grants old new from n ready passed = ready_after 2 code grants old new from n ready passed.state passed.stand passed.stays passed.kept

pub can_be_done : ((code : CodeProgram) → HeightsKnown code) →
    (code : CodeProgram) (grants : Grants) (core : Core) (at : Registers) (step : PlacedInstr) →
    MachineIsReady code grants core (next.On at)
    → IsNextStep code core at step → CanDo code core (behind at) step.0
can_be_done known code grants core at step ready is = record {
  stands = record {
    rooms = ready.rooms;
    frames = record {
      laid = record {
        frames = ready.stand.laid.frames;
        base = ready.stand.laid.base;
        filled = ready.stand.laid.filled;
        within = ready.stand.laid.within;
        small = ready.stand.laid.small;
      };
      within = ready.stand.within;
    };
  };
  kept = ready.kept;
  finds = is.finds;
  framed = framed_behind code at.next (at.next + 1) core.stack.frames.items (in_use core.stack at) (progress_in core)
      (valid_framed code (known code) grants core.places (phase_shown core.phase) (stood core.stack at) (progress_in core) ready.valid);
}

pub done_moves : (code : CodeProgram) (old new : Core) (at : Registers) (n : Next) (step : PlacedInstr) → IsNextStep code old at step
    → IsDone code step.0 step.1 old (behind at) new n → MakesMove code old (next.On at) new n
done_moves code old new at n step is does = record {
  state = does.state ∙ sym is.moves;
  stand = does.stand;
  stays = does.stays;
  kept = does.kept;
}

pub done_passes : (code : CodeProgram) (old new : Core) (at : Registers) (n : Next) (step : PlacedInstr) → IsNextStep code old at step
    → DoesTwice code step.0 step.1 old (behind at) new n → MovesTwice code old (next.On at) new n
done_passes code old new at n step is passed = subst (λ (between : State). Passes code between old new n) (sym is.moves) passed
