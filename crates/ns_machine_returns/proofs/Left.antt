-- The topmost frame, taken off.
use Rattle.std.proofs.Common.{◌≡◌, length, refl, ap, sym, subst}
use Rattle.ns_code.specs.declared.program.CodeProgram.{CodeProgram}
use Rattle.ns_world.specs.Lawful.{IsLawful}
use Rattle.ns_world.specs.World.{WorldView}
use Rattle.ns_moves.specs.Room.{SameRest}
use Rattle.ns_machine_frames.specs.declared.registers.Registers.{Registers}
use Rattle.ns_machine_frames.specs.declared.stack.Stack.{Stack}
use Rattle.ns_machine_frames.specs.Row.{ValueRow, FrameRow}
use Rattle.ns_machine_frames.specs.Standing.{below}
use Rattle.ns_machine_frames.specs.Stack.{stood, IsLaid}
use Rattle.ns_machine_frames.specs.Room.{FramesFitWithin}
use Rattle.ns_machine_frames.specs.laws.Room.{within_below}
use Rattle.ns_machine_core.specs.declared.state.Core.{Core}
use Rattle.ns_machine_core.specs.Standing.{HasRooms, AreStanding, HasStandingFrames, KeepsRooms}
use Rattle.ns_moves.specs.Bodies.{height_in, greatest_of}
use Rattle.ns_machine_core.specs.Framed.{HasRoomOnTop}
use Rattle.ns_machine_returns.specs.Handing.{CanTake}

-- the machine in another world, over another stack
abbrev pub over : Core → WorldView → Stack → Core
over core world stack = record core { run = record core.run { world = world }; stack = stack }

-- The topmost frame was taken off, in a world of the same limits.
pub record IsLeft (core : Core) (at : Registers) (world : WorldView) (stack : Stack) (here : Registers) : Type 0 where
  pub rest : SameRest core.run.world world
  pub stood : stood stack here ≡ below (stood core.stack at)
  pub laid : IsLaid stack here
  pub values : stack.values ≡ core.stack.values
  pub frames : stack.frames ≡ record core.stack.frames { items = below core.stack.frames.items }

pub left_standing : (code : CodeProgram) (core : Core) (at here : Registers) (world : WorldView) (stack : Stack) →
    AreStanding code core.stack at
    → IsLeft core at world stack here → AreStanding code stack here
left_standing code core at here world stack stands is = record {
  laid = is.laid;
  within = subst (λ (row : FrameRow). FramesFitWithin (height_in code) (greatest_of code.bodies) (length stack.values.items) row.items) (sym is.frames)
      (subst (λ (row : ValueRow). FramesFitWithin (height_in code) (greatest_of code.bodies) (length row.items) (below core.stack.frames.items)) (sym is.values)
      (within_below (height_in code) (greatest_of code.bodies) (length core.stack.values.items) core.stack.frames.items stands.within));
}

pub left_stays : (core : Core) (at here : Registers) (world : WorldView) (stack : Stack) → IsLeft core at world stack here →
    KeepsRooms core (over core world stack)
left_stays core at here world stack is = record {
  world = is.rest;
  values = ap (λ (row : ValueRow). row.room) is.values;
  frames = ap (λ (row : FrameRow). row.room) is.frames;
  places = refl;
  arguments = refl;
}

left_rooms : (code : CodeProgram) (core : Core) (at here : Registers) (world : WorldView) (stack : Stack) → HasRooms code core
    → IsLeft core at world stack here → HasRooms code (over core world stack)
left_rooms code core at here world stack rooms is =
    let stays = left_stays core at here world stack is in
    record {
      cells = rw (stays.world.limits, stays.world.room.0) rooms.cells;
      out = rw (stays.world.limits, stays.world.room.1) rooms.out;
      frames = rw (stays.world.limits, stays.frames) rooms.frames;
      values = rw (stays.world.limits, stays.values) rooms.values;
      evaluations = rw stays.arguments rooms.evaluations;
      sends = rw stays.arguments rooms.sends;
    }

pub left_takes : (code : CodeProgram) (core : Core) (at here : Registers) (world : WorldView) (stack : Stack) →
    HasStandingFrames code core at
    → HasRoomOnTop code (below (stood core.stack at)) → IsLawful world.world code → IsLeft core at world stack here → CanTake code (over core world stack) here
left_takes code core at here world stack stands room lawful is = record {
  stands = record {
    rooms = left_rooms code core at here world stack stands.rooms is;
    frames = left_standing code core at here world stack stands.frames is;
  };
  room = subst (HasRoomOnTop code) (sym is.stood) room;
  lawful = lawful;
}
