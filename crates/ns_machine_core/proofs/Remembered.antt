-- A machine in which nothing is another but the lookups and ways that it keeps.
use Rattle.std.proofs.Common.{List, Option, All}
use Rattle.ns_base.specs.declared.place.Place.{Place as SourcePlace}
use Rattle.ns_code.specs.declared.program.CodeProgram.{CodeProgram}
use Rattle.ns_code.specs.declared.instruction.Instr.{Instr}
use Rattle.ns_find.specs.declared.memo.Kept.{Kept}
use Rattle.ns_find.specs.Memo.{PlaceIsRight}
use Rattle.ns_machine_frames.specs.declared.registers.Registers.{Registers}
use Rattle.ns_machine_core.specs.declared.state.Core.{Core}
use Rattle.ns_machine_core.specs.declared.state.Next.{Next}
use Rattle.ns_machine_core.specs.Doing.{CanDo, IsDone}

-- it keeps these instead
abbrev pub with_memo : Core → List (Option Kept) → Core
with_memo core memo = record core { run = record core.run { memo = memo } }

-- what can be done in one can be done in the other, where these are right
pub can_do_with : (code : CodeProgram) (core : Core) (at : Registers) (instr : Instr) (memo : List (Option Kept)) →
    All (PlaceIsRight core.run.world.world.cells code) memo → CanDo code core at instr → CanDo code (with_memo core memo) at instr
can_do_with code core at instr memo kept can = record {
  stands = record {
    rooms = record {
      cells = can.stands.rooms.cells;
      out = can.stands.rooms.out;
      frames = can.stands.rooms.frames;
      values = can.stands.rooms.values;
      evaluations = can.stands.rooms.evaluations;
      sends = can.stands.rooms.sends;
    };
    frames = can.stands.frames;
  };
  kept = kept;
  finds = can.finds;
  framed = can.framed;
}

-- what is done from the one is done from the other
pub done_with : (code : CodeProgram) (core new : Core) (at : Registers) (instr : Instr) (place : Option SourcePlace) (next : Next)
    (memo : List (Option Kept)) → IsDone code instr place (with_memo core memo) at new next → IsDone code instr place core at new next
done_with code core new at instr place next memo is = record {
  state = is.state;
  stand = is.stand;
  stays = record {
    world = record { limits = is.stays.world.limits; room = is.stays.world.room };
    values = is.stays.values;
    frames = is.stays.frames;
    places = is.stays.places;
    arguments = is.stays.arguments;
  };
  kept = is.kept;
}
