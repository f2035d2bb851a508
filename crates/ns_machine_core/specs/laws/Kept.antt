-- What a machine keeps, and what is known of the world that its state shows.
use Rattle.std.proofs.Common.{◌≡◌, List, refl, subst, ◌∙◌}
use Rattle.ns_base.specs.declared.place.Place.{Place as SourcePlace}
use Rattle.ns_code.specs.declared.program.CodeProgram.{CodeProgram}
use Rattle.ns_facets.specs.declared.row.Grants.{Grants}
use Rattle.ns_world.specs.declared.value.Value.{Value}
use Rattle.ns_world.specs.Lawful.{IsLawful}
use Rattle.ns_moves.specs.State.{Phase, progress_of}
use Rattle.ns_moves.specs.Valid.{Valid}
use Rattle.ns_moves.specs.laws.Worlds.{valid_lawful}
use Rattle.ns_moves.specs.Control.{Progress}
use Rattle.ns_machine_frames.specs.declared.frame.Pending.{Pending}
use Rattle.ns_machine_frames.specs.declared.frame.Pending.TheVariants as pending
use Rattle.ns_machine_frames.specs.declared.registers.Registers.{Registers}
use Rattle.ns_machine_frames.specs.declared.stack.Stack.{Stack}
use Rattle.ns_machine_core.specs.declared.state.Core.{Core}
use Rattle.ns_machine_core.specs.declared.state.Next.{Next}
use Rattle.ns_machine_core.specs.declared.state.Next.TheVariants as next
use Rattle.ns_machine_frames.specs.View.{state_shown}
use Rattle.ns_machine_core.specs.Shown.{phase_shown, progress_in, shown}
use Rattle.ns_machine_core.specs.Standing.{HasRooms, KeepsRooms}

-- ---- worlds of valid states

-- the world of what is shown is the machine's
waiting_progress : (code : CodeProgram) (places : List SourcePlace) (phase : Phase) (p : Pending) (kept : List Value) (stack : Stack) (at : Registers) (progress : Progress)
    → progress_of (state_shown code places phase p kept stack at progress) ≡ progress
waiting_progress code places phase pending.Nothing kept stack at progress = refl
waiting_progress code places phase (pending.Sending receiver sel site floor) kept stack at progress = refl
waiting_progress code places phase (pending.Performing receiver sel array site floor) kept stack at progress = refl
waiting_progress code places phase (pending.Evaluating block site floor first) kept stack at progress = refl
waiting_progress code places phase (pending.EvaluatingKept block site floor) kept stack at progress = refl

-- The progress of the state that is shown is the machine's.
pub shown_progress : (code : CodeProgram) (core : Core) (n : Next) → progress_of (shown code core n) ≡ progress_in core
shown_progress code core (next.On at) = refl
shown_progress code core (next.Waits at) =
    waiting_progress code core.places (phase_shown core.phase) core.waiting core.arguments.items core.stack at (progress_in core)
shown_progress code core next.Ended = refl

-- The world of a machine in a valid state is lawful.
pub ready_lawful : (code : CodeProgram) (grants : Grants) (core : Core) (n : Next) → Valid code grants (shown code core n) →
    IsLawful (progress_in core).world code
ready_lawful code grants core n valid =
    subst (λ (p : Progress). IsLawful p.world code) (shown_progress code core n) (valid_lawful code grants (shown code core n) valid)

-- ---- moves

-- A machine keeps its rooms where what else is changed stays.
pub rooms_stay : (code : CodeProgram) (old new : Core) → HasRooms code old → KeepsRooms old new → HasRooms code new
rooms_stay code old new rooms stays = record {
  cells = rw (stays.world.limits, stays.world.room.0) rooms.cells;
  out = rw (stays.world.limits, stays.world.room.1) rooms.out;
  frames = rw (stays.world.limits, stays.frames) rooms.frames;
  values = rw (stays.world.limits, stays.values) rooms.values;
  evaluations = rw stays.arguments rooms.evaluations;
  sends = rw stays.arguments rooms.sends;
}

-- What stays, and stays again, stays.
pub stays_on : (first second third : Core) → KeepsRooms first second → KeepsRooms second third → KeepsRooms first third
stays_on first second third one two = record {
  world = record {
    limits = two.world.limits ∙ one.world.limits;
    room = (two.world.room.0 ∙ one.world.room.0, two.world.room.1 ∙ one.world.room.1);
  };
  values = two.values ∙ one.values;
  frames = two.frames ∙ one.frames;
  places = two.places ∙ one.places;
  arguments = two.arguments ∙ one.arguments;
}
