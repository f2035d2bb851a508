-- Frames that are given back down to a home.
use Rattle.std.proofs.Common.{◌≡◌, ℕ, zero, suc, List, [], ◌∷◌, length, take, drop, refl, ap, sym, ◌∙◌, subst}
use Rattle.ns_base.specs.declared.place.Place.{Place as SourcePlace}
use Rattle.ns_code.specs.declared.program.CodeProgram.{CodeProgram}
use Rattle.ns_world.specs.declared.value.Value.{Value}
use Rattle.ns_world.specs.Lawful.{IsLawful, IsLiveValue}
use Rattle.ns_world.specs.Heap.{Heap}
use Rattle.ns_world.specs.World.{World, WorldView, left}
use Rattle.ns_moves.specs.Control.{Progress, in_world}
use Rattle.ns_moves.specs.State.{Phase}
use Rattle.ns_moves.specs.Returns as returns
use Rattle.ns_moves.specs.Room.{SameRest}
use Rattle.ns_machine_frames.specs.declared.frame.Frame.{Frame}
use Rattle.ns_machine_frames.specs.declared.registers.Registers.{Registers}
use Rattle.ns_machine_frames.specs.declared.stack.Stack.{Stack}
use Rattle.ns_machine_frames.specs.Row.{ValueRow, FrameRow}
use Rattle.ns_machine_frames.specs.Standing.{Stood, at_next}
use Rattle.ns_machine_frames.specs.Stack.{stood, IsLaid}
use Rattle.ns_machine_frames.specs.Room.{FramesFitWithin}
use Rattle.ns_machine_frames.specs.Stated.{parts_ended, Unwinds}
use Rattle.ns_machine_frames.specs.View.{frames_shown}
use Rattle.ns_machine_frames.specs.laws.Counts.{next_apart}
use Rattle.ns_machine_core.specs.declared.state.Core.{Core}
use Rattle.ns_machine_core.specs.declared.state.Next.{Next}
use Rattle.ns_machine_core.specs.Shown.{phase_shown, progress_in}
use Rattle.ns_machine_core.specs.Standing.{KeepsRooms}
use Rattle.ns_moves.specs.Bodies.{height_in, greatest_of}
use Rattle.ns_machine_core.specs.Framed.{HasRoomOnTop}
use Rattle.ns_machine_core.specs.laws.Kept.{rooms_stay, stays_on}
use Rattle.ns_machine_returns.specs.Handing.{CanTake, IsHanded}
use Rattle.ns_machine_returns.specs.Unwinding.{CanUnwind, IsUnwound}
use Rattle.ns_machine_returns.proofs.Left.{over}
use Rattle.ns_machine_returns.proofs.GivenBack.{parts_lawful, parts_cells}
use Rattle.ns_machine_returns.proofs.HomeFound.{room_there}

within_drop : (height : ℕ → ℕ) (greatest filled count : ℕ) (frames : List Frame) → FramesFitWithin height greatest filled frames
    → FramesFitWithin height greatest filled (drop count frames)
within_drop height greatest filled zero frames within = within
within_drop height greatest filled (suc count) [] within = within
within_drop height greatest filled (suc count) (frame ∷ frames) within = within_drop height greatest filled count frames within.2

-- So many frames were taken off, in a world of the same limits in which they were given back.
pub record AreGone (count : ℕ) (core : Core) (at : Registers) (world : WorldView) (stack : Stack) (here : Registers) : Type 0 where
  pub ended : (rest : Progress) → in_world rest world.world ≡ parts_ended count (in_world rest core.run.world.world)
  pub rest : SameRest core.run.world world
  pub stands : stood stack here ≡ drop count (stood core.stack at)
  pub laid : IsLaid stack here
  pub values : stack.values ≡ core.stack.values
  pub frames : stack.frames ≡ record core.stack.frames { items = drop count core.stack.frames.items }

gone_stays : (count : ℕ) (core : Core) (at here : Registers) (world : WorldView) (stack : Stack) → AreGone count core at world stack here
    → KeepsRooms core (over core world stack)
gone_stays count core at here world stack gone = record {
  world = gone.rest;
  values = ap (λ (row : ValueRow). row.room) gone.values;
  frames = ap (λ (row : FrameRow). row.room) gone.frames;
  places = refl;
  arguments = refl;
}

world_after : (count : ℕ) (core : Core) (at here : Registers) (world : WorldView) (stack : Stack) → AreGone count core at world stack here
    → world.world ≡ (parts_ended count (progress_in core)).world
world_after count core at here world stack gone = ap (λ (p : Progress). p.world) (gone.ended (progress_in core))

pub gone_takes : ((world : World) (code : CodeProgram) → IsLawful world code → IsLawful (left world) code)
    → (code : CodeProgram) (core : Core) (at here : Registers) (home count : ℕ) (value : Value) (world : WorldView) (stack : Stack)
    → CanUnwind code core at home count value → AreGone count core at world stack here → CanTake code (over core world stack) here
gone_takes law code core at here home count value world stack can gone = record {
  stands = record {
    rooms = rooms_stay code core (over core world stack) can.stands.rooms (gone_stays count core at here world stack gone);
    frames = record {
      laid = gone.laid;
      within = subst (λ (row : FrameRow). FramesFitWithin (height_in code) (greatest_of code.bodies) (length stack.values.items) row.items) (sym gone.frames)
          (subst (λ (row : ValueRow). FramesFitWithin (height_in code) (greatest_of code.bodies) (length row.items) (drop count core.stack.frames.items)) (sym gone.values)
          (within_drop (height_in code) (greatest_of code.bodies) (length core.stack.values.items) count core.stack.frames.items can.stands.frames.within));
    };
  };
  room = subst (HasRoomOnTop code) (sym gone.stands)
      (room_there code home (at_next at.next core.stack.frames.items) (take at.top core.stack.values.items) count (next_apart home at.next core.stack.frames.items ∙ can.home_is)
      can.framed.rooms);
  lawful = subst (λ (w : World). IsLawful w code) (sym (world_after count core at here world stack gone)) (parts_lawful law code count (progress_in core) can.lawful);
}

pub gone_live : (code : CodeProgram) (core : Core) (at here : Registers) (home count : ℕ) (value : Value) (world : WorldView) (stack : Stack)
    → CanUnwind code core at home count value → AreGone count core at world stack here → IsLiveValue world.world.cells code value
gone_live code core at here home count value world stack can gone =
    subst (λ (heap : Heap). IsLiveValue heap code value)
    (sym (ap (λ (w : World). w.cells) (world_after count core at here world stack gone) ∙ parts_cells count (progress_in core))) can.live

pub unwound_so : ((code : CodeProgram) (places : List SourcePlace) (phase : Phase) → Unwinds code places phase)
    → (code : CodeProgram) (core new : Core) (at here : Registers) (home count : ℕ) (value : Value) (world : WorldView) (stack : Stack) (n : Next)
    → CanUnwind code core at home count value → AreGone count core at world stack here → IsHanded code (over core world stack) here value new n
    → IsUnwound code core at home value new n
unwound_so law code core new at here home count value world stack n can gone handed = record {
  state = handed.state
      ∙ (ap (λ (s : List Stood). returns.delivered code (phase_shown core.phase) value (frames_shown code core.places s) (progress_in (over core world stack))) gone.stands
      ∙ (ap (returns.delivered code (phase_shown core.phase) value (frames_shown code core.places (drop count (stood core.stack at)))) (gone.ended (progress_in core))
      ∙ sym (law code core.places (phase_shown core.phase) home at.next count value core.stack.frames.items (take at.top core.stack.values.items) (progress_in core) can.home_is)));
  stand = handed.stand;
  stays = stays_on core (over core world stack) new (gone_stays count core at here world stack gone) handed.stays;
  kept = rw handed.run can.kept;
}
