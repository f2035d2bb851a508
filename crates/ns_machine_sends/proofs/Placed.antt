-- Arguments that are kept, and their places.
use Rattle.std.proofs.Common.{◌≡◌, ◌+◌, ◌≤◌, ℕ, List, ◌++◌, length, take, drop, ap, sym, ◌∙◌, refl, subst, arith, length-take-le}
use Rattle.std.proofs.lemmas.List.{take-take, take_at, drop_at}
use Rattle.ns_code.specs.declared.program.CodeProgram.{CodeProgram}
use Rattle.ns_world.specs.declared.value.Value.{Value}
use Rattle.ns_world.specs.declared.value.Value.TheVariants.{Ref}
use Rattle.ns_kdata.specs.Arguments.{items_of}
use Rattle.ns_moves.specs.declared.control.Given.TheVariants as given
use Rattle.ns_moves.specs.declared.control.Reached.TheVariants as reached
use Rattle.ns_machine_frames.specs.declared.registers.Registers.{Registers}
use Rattle.ns_machine_frames.specs.declared.stack.Stack.{Stack}
use Rattle.ns_machine_frames.specs.Row.{FrameRow}
use Rattle.ns_machine_frames.specs.Room.{FramesFitWithin, bound}
use Rattle.ns_machine_frames.specs.Standing.{standing, at_next, AreLaid}
use Rattle.ns_machine_frames.specs.Stack.{in_use, with_top, IsLaid, KeepsRoom}
use Rattle.ns_machine_core.specs.declared.state.Core.{Core}
use Rattle.ns_machine_core.specs.declared.state.Next.{Next}
use Rattle.ns_moves.specs.Bodies.{height_in, greatest_of}
use Rattle.ns_machine_core.specs.Standing.{ArgumentsWait}
use Rattle.ns_machine_core.specs.Arriving.{Arrives}
use Rattle.ns_machine_core.specs.laws.Pushed.{stack_stays}
use Rattle.ns_machine_sends.specs.declared.sent.Sent.{Sent}
use Rattle.ns_machine_sends.specs.Going.{control_at, ControlGoesOn, IsLeft, ArePlaced}
use Rattle.ns_machine_sends.specs.Kept.{keeping, kept_control}
use Rattle.ns_machine_frames.specs.laws.Room.{within_more}

pub floor_laid : (code : CodeProgram) (core : Core) (at : Registers) (sent : Sent) → IsLeft code core at sent →
    IsLaid core.stack (with_top sent.floor at)
floor_laid code core at sent left = left.waits.stands.laid

-- there is room for the elements with which a block is evaluated
pub items_fit : (code : CodeProgram) (core : Core) (at : Registers) (sent : Sent) (block : Value) (array : ℕ) → IsLeft code core at sent
    → ControlGoesOn code (length core.stack.frames.items) (control_at code core at sent (reached.Evaluates block (given.Items array)))
    → length (items_of core.run.world.world.cells (Ref array)) ≤ core.arguments.room
items_fit code core at sent block array left goes = let few = goes.room in let room = left.rooms.evaluations in omega (arith, few, room)

-- ---- values that were placed

-- room that is kept twice is kept
pub keeps_room : (first second third : Stack) → KeepsRoom first second → KeepsRoom second third → KeepsRoom first third
keeps_room first second third one two = record {
  values = two.values ∙ one.values;
  frames = two.frames ∙ one.frames;
  filled = let a = one.filled in let b = two.filled in omega (arith, a, b);
}

pub values_placed : (code : CodeProgram) (core : Core) (at to : Registers) (sent : Sent) (stack : Stack) (values : List Value) →
    IsLeft code core at sent
    → in_use stack to ≡ in_use core.stack (with_top sent.floor at) ++ values → IsLaid stack to → stack.frames ≡ core.stack.frames → KeepsRoom core.stack stack
    → to ≡ with_top (sent.floor + length values) (with_top sent.floor at) → ArePlaced code core at sent.floor values (record core { stack = stack }) to
values_placed code core at to sent stack values left used laid frames room here = record {
  below = ap (λ (kept : FrameRow). standing (at_next to.next kept.items) (take sent.floor stack.values.items)) frames
      ∙ (ap (λ (n : ℕ). standing (at_next n core.stack.frames.items) (take sent.floor stack.values.items)) next
      ∙ ap (λ (vs : List Value). standing (at_next at.next core.stack.frames.items) vs) lower);
  arguments = ap (drop sent.floor) used ∙ drop_at (in_use core.stack (with_top sent.floor at)) values sent.floor size;
  frames = frames;
  filled = room.filled;
  stands = record { laid = laid; within = within };
  waits = record {
    order = omega (arith, top);
    low = omega arith;
    reach = subst (λ (kept : FrameRow). sent.floor ≤ bound (greatest_of code.bodies) kept.items) (sym frames)
        (let reach = left.waits.reach in let low = left.waits.low in omega (arith, reach, low));
    stands = record {
      laid = record {
        frames = subst (λ (kept : FrameRow). AreLaid kept.items sent.floor) (sym frames) left.waits.stands.laid.frames;
        base = laid.base;
        filled = let filled = laid.filled in omega (arith, top, filled);
        within = laid.within;
        small = laid.small;
      };
      within = within;
    };
  };
  run = refl;
  phase = refl;
  stays = stack_stays core stack room.values room.frames;
}
  where
    next : to.next ≡ at.next
    next = ap (λ (r : Registers). r.next) here

    top : to.top ≡ sent.floor + length values
    top = ap (λ (r : Registers). r.top) here

    size : length (in_use core.stack (with_top sent.floor at)) ≡ sent.floor
    size = length-take-le sent.floor core.stack.values.items left.waits.stands.laid.filled

    lower : take sent.floor stack.values.items ≡ take sent.floor core.stack.values.items
    lower = sym (take-take sent.floor to.top stack.values.items (omega (arith, top)))
        ∙ (ap (take sent.floor) used ∙ take_at (in_use core.stack (with_top sent.floor at)) values sent.floor size)

    within : FramesFitWithin (height_in code) (greatest_of code.bodies) (length stack.values.items) stack.frames.items
    within = subst (λ (kept : FrameRow). FramesFitWithin (height_in code) (greatest_of code.bodies) (length stack.values.items) kept.items) (sym frames)
        (within_more (height_in code) (greatest_of code.bodies) (length core.stack.values.items) (length stack.values.items) core.stack.frames.items room.filled left.stands.within)

-- what stands below them, where a call's arguments stand or none do
pub floor_waits : (code : CodeProgram) (core : Core) (at : Registers) (sent : Sent) → IsLeft code core at sent →
    ArgumentsWait code core.stack at sent.floor sent.floor
floor_waits code core at sent left = record {
  order = let order = left.waits.order in let low = left.waits.low in omega (arith, order, low);
  low = omega arith;
  reach = let reach = left.waits.reach in let low = left.waits.low in omega (arith, low, reach);
  stands = left.waits.stands;
}

-- ---- an evaluation with the elements of an array, which are kept

pub keeping_left : (code : CodeProgram) (core : Core) (at : Registers) (sent : Sent) (values : List Value) → IsLeft code core at sent
    → IsLeft code (keeping values core) at sent
keeping_left code core at sent values left = record {
  sound = left.sound;
  rooms = record {
    cells = left.rooms.cells;
    out = left.rooms.out;
    frames = left.rooms.frames;
    values = left.rooms.values;
    evaluations = left.rooms.evaluations;
    sends = left.rooms.sends;
  };
  depth = left.depth;
  stands = left.stands;
  waits = left.waits;
  place = left.place;
}

pub items_wait : (code : CodeProgram) (old new : Core) (at : Registers) (sent : Sent) (block : Value) (array : ℕ) (next : Next)
    → Arrives code (keeping (items_of old.run.world.world.cells (Ref array)) old) at sent.floor
    (kept_control code (keeping (items_of old.run.world.world.cells (Ref array)) old) sent (reached.Evaluates block given.Listed)) new next
    → Arrives code old at sent.floor (control_at code old at sent (reached.Evaluates block (given.Items array))) new next
items_wait code old new at sent block array next is = record {
  state = is.state;
  stand = is.stand;
  run = is.run;
  stays = record {
    world = is.stays.world;
    values = is.stays.values;
    frames = is.stays.frames;
    places = is.stays.places;
    arguments = is.stays.arguments;
  };
}
