-- Evaluations that waited: what is known where they wait, and what becomes of them.
use Rattle.std.proofs.Common.{◌≡◌, ◌+◌, ◌<◌, ◌≤◌, ℕ, List, length, take, drop, ap, sym, ◌∙◌, refl, subst, arith, Option}
use Rattle.std.specs.Prelude.{All}
use Rattle.std.proofs.lemmas.List.{take-take}
use Rattle.ns_code.specs.declared.program.CodeProgram.{CodeProgram}
use Rattle.ns_facets.specs.declared.row.Grants.{Grants}
use Rattle.ns_world.specs.declared.value.Value.{Value}
use Rattle.ns_world.specs.World.{made}
use Rattle.ns_moves.specs.Bodies.{height_in, greatest_of}
use Rattle.ns_find.specs.declared.memo.Kept.{Kept}
use Rattle.ns_find.specs.Memo.{PlaceIsRight}
use Rattle.ns_moves.specs.Arrivals.{arrived}
use Rattle.ns_moves.specs.State.{Pends, Evaluating}
use Rattle.ns_moves.specs.Move.{move}
use Rattle.ns_moves.specs.Valid.{Valid}
use Rattle.ns_moves.specs.declared.run.Run.{Run}
use Rattle.ns_machine_frames.specs.declared.frame.Pending.{Pending}
use Rattle.ns_machine_frames.specs.View.{site_shown}
use Rattle.ns_machine_core.specs.declared.state.Next.{Next}
use Rattle.ns_machine_core.specs.declared.state.Next.TheVariants as next
use Rattle.ns_machine_core.specs.Shown.{phase_shown, progress_in, shown}
use Rattle.ns_machine_core.specs.Ready.{MachineIsReady, MakesMove}
use Rattle.ns_machine_core.specs.laws.Kept.{rooms_stay}
use Rattle.ns_machine_frames.specs.declared.registers.Registers.{Registers}
use Rattle.ns_machine_frames.specs.declared.stack.Stack.{Stack}
use Rattle.ns_machine_frames.specs.Row.{ValueRow, FrameRow}
use Rattle.ns_machine_frames.specs.Room.{FramesFitWithin, bound}
use Rattle.ns_machine_frames.specs.Standing.{standing, at_next, AreLaid}
use Rattle.ns_machine_frames.specs.Stack.{in_use, stood, with_top, IsLaid, KeepsRoom}
use Rattle.ns_machine_frames.specs.View.{frames_shown, state_shown}
use Rattle.ns_machine_core.specs.declared.state.Core.{Core}
use Rattle.ns_machine_core.specs.Standing.{HasRooms, AreStanding, ArgumentsWait, Wait}
use Rattle.ns_machine_core.specs.laws.Pushed.{stack_stays}
use Rattle.ns_machine_sends.specs.declared.sent.Sent.{Sent}
use Rattle.ns_machine_sends.specs.Going.{arguments_in, IsLeft, Leads}
use Rattle.ns_machine_sends.specs.Waiting.{BlockWaits, BlockWaitsKept, HasMadePlace, IsWaiting, evaluated_with, with_block}
use Rattle.ns_machine_frames.specs.laws.Room.{reach_all, within_more}
use Rattle.ns_machine_frames.specs.laws.Counts.{many_stand, many_next, many_shown}

-- ---- what is known where it waits

-- What the machine shows is a state in which it waits with these arguments.
abbrev pub ShowsWaiting : CodeProgram → Grants → Core → Registers → Sent → Value → List Value → Type 0
ShowsWaiting code grants core at sent block values =
    Valid code grants (Pends (phase_shown core.phase) (Evaluating block values (site_shown core.places sent.site))
    (frames_shown code core.places (stood core.stack (with_top sent.floor at))) (progress_in core))

pub waiting : (code : CodeProgram) (grants : Grants) (core : Core) (at : Registers) (sent : Sent) (block : Value) (values : List Value)
    → ShowsWaiting code grants core at sent block values → IsWaiting code core values block
waiting code grants core at sent block values valid = record {
  sound = valid.0.world.sound;
  lawful = valid.0.world.lawful;
  depth = valid.0.depth ∙ (many_shown code core.places (stood core.stack (with_top sent.floor at))
      ∙ (many_stand (at_next at.next core.stack.frames.items) (take sent.floor core.stack.values.items) ∙ many_next at.next core.stack.frames.items));
  block_is = valid.1.0;
  few = valid.1.1;
  live = valid.1.2;
}

-- there is room for an answer behind the caller's values
pub place_fits : (code : CodeProgram) (core : Core) (at : Registers) (sent : Sent) (block : Value) (values : List Value) →
    IsWaiting code core values block
    → HasRooms code core → ArgumentsWait code core.stack at sent.floor sent.first → sent.floor + 1 ≤ core.stack.values.room
place_fits code core at sent block values is rooms waits =
    let reach = waits.reach in
    let low = waits.low in
    let depth = is.depth in
    let within = is.lawful.within.depth in
    let all = reach_all (greatest_of code.bodies) core.run.world.world.limits.depth core.stack.frames.items (omega (arith, depth, within)) in
    let room = rooms.values in
    omega (arith, reach, low, all, room)

-- where arguments stand
pub valid_there : (code : CodeProgram) (grants : Grants) (core : Core) (at : Registers) (sent : Sent) (block : Value) →
    BlockWaits code grants core at sent block
    → ShowsWaiting code grants core at sent block (arguments_in core at sent)
valid_there code grants core at sent block waits =
    subst (λ (p : Pending). Valid code grants (state_shown code core.places (phase_shown core.phase) p core.arguments.items core.stack at (progress_in core)))
    waits.is waits.ready.valid

pub stand_there : (code : CodeProgram) (grants : Grants) (core : Core) (at : Registers) (sent : Sent) (block : Value) →
    BlockWaits code grants core at sent block
    → AreStanding code core.stack at × ArgumentsWait code core.stack at sent.floor sent.first
stand_there code grants core at sent block waits =
    subst (λ (p : Pending). AreStanding code core.stack at × Wait code p core.stack at) waits.is waits.ready.stand

-- where they are kept
pub valid_kept : (code : CodeProgram) (grants : Grants) (core : Core) (at : Registers) (sent : Sent) (block : Value) →
    BlockWaitsKept code grants core at sent block
    → ShowsWaiting code grants core at sent block core.arguments.items
valid_kept code grants core at sent block waits =
    subst (λ (p : Pending). Valid code grants (state_shown code core.places (phase_shown core.phase) p core.arguments.items core.stack at (progress_in core)))
    waits.is waits.ready.valid

pub stand_kept : (code : CodeProgram) (grants : Grants) (core : Core) (at : Registers) (sent : Sent) (block : Value) →
    BlockWaitsKept code grants core at sent block
    → AreStanding code core.stack at × ArgumentsWait code core.stack at sent.floor sent.first
stand_kept code grants core at sent block waits =
    let stand = subst (λ (p : Pending). AreStanding code core.stack at × Wait code p core.stack at) waits.is waits.ready.stand in
    (stand.0, subst (λ (n : ℕ). ArgumentsWait code core.stack at sent.floor n) (sym waits.first) stand.1)

-- ---- a place for an answer

-- it is there where arguments stand
pub place_there : (code : CodeProgram) (core : Core) (at : Registers) (sent : Sent) → AreStanding code core.stack at
    → ArgumentsWait code core.stack at sent.floor sent.first → sent.floor < at.top → HasMadePlace code core at sent core
place_there code core at sent stands waits some = record {
  used = refl;
  below = refl;
  frames = refl;
  stands = stands;
  waits = waits;
  place = let filled = stands.laid.filled in omega (arith, some, filled);
  run = refl;
  phase = refl;
  arguments = refl;
  stays = stack_stays core core.stack refl refl;
}

-- and where none do, it is the first behind the caller's values
pub top_fits : (code : CodeProgram) (core : Core) (at : Registers) (sent : Sent) → ArgumentsWait code core.stack at sent.floor sent.first →
    at.top ≤ sent.floor
    → sent.floor + 1 ≤ core.stack.values.room → at.top + 1 ≤ core.stack.values.room
top_fits code core at sent waits none room = omega (arith, none, room)

pub place_made : (code : CodeProgram) (core : Core) (at : Registers) (sent : Sent) (stack : Stack) → AreStanding code core.stack at
    → ArgumentsWait code core.stack at sent.floor sent.first → in_use stack at ≡ in_use core.stack at → stack.frames ≡ core.stack.frames → at.top + 1 ≤ length stack.values.items → IsLaid stack at → KeepsRoom core.stack stack
    → HasMadePlace code core at sent (record core { stack = stack })
place_made code core at sent stack stands waits used frames filled laid room = record {
  used = used;
  below = ap (λ (kept : FrameRow). standing (at_next at.next kept.items) (take sent.floor stack.values.items)) frames
      ∙ ap (λ (vs : List Value). standing (at_next at.next core.stack.frames.items) vs) lower;
  frames = frames;
  stands = record { laid = laid; within = within };
  waits = record {
    order = waits.order;
    low = waits.low;
    reach = subst (λ (kept : FrameRow). sent.first ≤ bound (greatest_of code.bodies) kept.items) (sym frames) waits.reach;
    stands = record {
      laid = record {
        frames = subst (λ (kept : FrameRow). AreLaid kept.items sent.floor) (sym frames) waits.stands.laid.frames;
        base = laid.base;
        filled = let order = waits.order in let low = waits.low in omega (arith, filled, order, low);
        within = laid.within;
        small = laid.small;
      };
      within = within;
    };
  };
  place = let order = waits.order in let low = waits.low in omega (arith, filled, order, low);
  run = refl;
  phase = refl;
  arguments = refl;
  stays = stack_stays core stack room.values room.frames;
}
  where
    low_top : sent.floor ≤ at.top
    low_top = let order = waits.order in let low = waits.low in omega (arith, order, low)

    lower : take sent.floor stack.values.items ≡ take sent.floor core.stack.values.items
    lower = sym (take-take sent.floor at.top stack.values.items low_top) ∙ (ap (take sent.floor) used ∙ take-take sent.floor at.top core.stack.values.items low_top)

    within : FramesFitWithin (height_in code) (greatest_of code.bodies) (length stack.values.items) stack.frames.items
    within = subst (λ (kept : FrameRow). FramesFitWithin (height_in code) (greatest_of code.bodies) (length stack.values.items) kept.items) (sym frames)
        (within_more (height_in code) (greatest_of code.bodies) (length core.stack.values.items) (length stack.values.items) core.stack.frames.items room.filled
        stands.within)

-- ---- from where it waited

module _ (code : CodeProgram) (grants : Grants) (core mid : Core) (at : Registers) (sent : Sent) (block : Value) (values : List Value)
    (ready : MachineIsReady code grants core (next.Waits at)) (is : IsWaiting code core values block) (made : HasMadePlace code core at sent mid) where
  pub place_left : IsLeft code mid at sent
  place_left = record {
    sound = is.sound;
    rooms = rooms_stay code core mid ready.rooms made.stays;
    depth =
        let depth = is.depth in
        let within = is.lawful.within.depth in
        let limits = ap (λ l. l.depth) made.stays.world.limits in
        let frames = ap (λ (kept : FrameRow). length kept.items) made.frames in
        omega (arith, depth, within, limits, frames);
    stands = made.stands;
    waits = made.waits;
    place = made.place;
  }

  pub place_waiting : IsWaiting code mid values block
  place_waiting = record {
    sound = is.sound;
    lawful = rw made.run is.lawful;
    depth = ap (λ (run : Run). run.world.world.depth) made.run ∙ (is.depth ∙ ap (λ (kept : FrameRow). length kept.items) (sym made.frames));
    block_is = rw made.run is.block_is;
    few = is.few;
    live = rw made.run is.live;
  }

  pub evaluation_moves : (new : Core) (n : Next) → Leads code mid at sent.floor (evaluated_with code mid sent values block) new n
      → arrived code (phase_shown core.phase) (evaluated_with code core sent values block) (frames_shown code core.places (stood core.stack (with_top sent.floor at)))
      ≡ move code (shown code core (next.Waits at))
      → MakesMove code core (next.Waits at) new n
  evaluation_moves new n leads is_move = record {
    state = leads.state ∙ (same ∙ is_move);
    stand = leads.stand;
    stays = record {
      world = record {
        limits = leads.stays.world.limits ∙ made.stays.world.limits;
        room = (leads.stays.world.room.0 ∙ made.stays.world.room.0, leads.stays.world.room.1 ∙ made.stays.world.room.1);
      };
      values = leads.stays.values ∙ made.stays.values;
      frames = leads.stays.frames ∙ made.stays.frames;
      places = leads.stays.places ∙ made.stays.places;
      arguments = leads.stays.arguments ∙ made.stays.arguments;
    };
    kept = subst (λ (memo : List (Option Kept)). All (PlaceIsRight core.run.world.world.cells code) memo) (sym (leads.memo ∙ ap (λ (run : Run). run.memo) made.run)) ready.kept;
  }
    where
      same : arrived code (phase_shown mid.phase) (evaluated_with code mid sent values block) (frames_shown code mid.places (stood mid.stack (with_top sent.floor at)))
          ≡ arrived code (phase_shown core.phase) (evaluated_with code core sent values block) (frames_shown code core.places (stood core.stack (with_top sent.floor at)))
      same = rw (made.below, made.phase, made.run, made.stays.places) refl

-- where arguments stand, they stand there still
pub waits_there : (code : CodeProgram) (core mid : Core) (at : Registers) (sent : Sent) (block : Value) → HasMadePlace code core at sent mid
    → IsWaiting code mid (arguments_in core at sent) block → IsWaiting code mid (arguments_in mid at sent) block
waits_there code core mid at sent block made is =
    subst (λ (vs : List Value). IsWaiting code mid vs block) (sym (ap (drop sent.first) made.used)) is

pub leads_there : (code : CodeProgram) (core mid new : Core) (at : Registers) (sent : Sent) (block : Value) (n : Next) →
    HasMadePlace code core at sent mid
    → Leads code mid at sent.floor (evaluated_with code mid sent (arguments_in mid at sent) block) new n
    → Leads code mid at sent.floor (evaluated_with code mid sent (arguments_in core at sent) block) new n
leads_there code core mid new at sent block n made is =
    subst (λ (vs : List Value). Leads code mid at sent.floor (evaluated_with code mid sent vs block) new n) (ap (drop sent.first) made.used) is

pub move_there : (code : CodeProgram) (grants : Grants) (core : Core) (at : Registers) (sent : Sent) (block : Value) →
    BlockWaits code grants core at sent block
    → arrived code (phase_shown core.phase) (evaluated_with code core sent (arguments_in core at sent) block)
    (frames_shown code core.places (stood core.stack (with_top sent.floor at)))
    ≡ move code (shown code core (next.Waits at))
move_there code grants core at sent block waits =
    ap (λ (p : Pending). move code (state_shown code core.places (phase_shown core.phase) p core.arguments.items core.stack at (progress_in core))) (sym waits.is)

-- where they are kept, they are kept still
pub waits_kept : (code : CodeProgram) (core mid : Core) (at : Registers) (sent : Sent) (block : Value) → HasMadePlace code core at sent mid
    → IsWaiting code mid core.arguments.items block → IsWaiting code mid mid.arguments.items block
waits_kept code core mid at sent block made is = subst (λ (row : ValueRow). IsWaiting code mid row.items block) (sym made.arguments) is

pub leads_kept : (code : CodeProgram) (core mid new : Core) (at : Registers) (sent : Sent) (block : Value) (n : Next) →
    HasMadePlace code core at sent mid
    → Leads code mid at sent.floor (evaluated_with code mid sent mid.arguments.items block) new n
    → Leads code mid at sent.floor (evaluated_with code mid sent core.arguments.items block) new n
leads_kept code core mid new at sent block n made is =
    subst (λ (row : ValueRow). Leads code mid at sent.floor (evaluated_with code mid sent row.items block) new n) made.arguments is

pub move_kept : (code : CodeProgram) (grants : Grants) (core : Core) (at : Registers) (sent : Sent) (block : Value) →
    BlockWaitsKept code grants core at sent block
    → arrived code (phase_shown core.phase) (evaluated_with code core sent core.arguments.items block)
    (frames_shown code core.places (stood core.stack (with_top sent.floor at)))
    ≡ move code (shown code core (next.Waits at))
move_kept code grants core at sent block waits =
    ap (λ (p : Pending). move code (state_shown code core.places (phase_shown core.phase) p core.arguments.items core.stack at (progress_in core))) (sym waits.is)

-- ---- at once

-- The evaluation of a block, as if it waited, with a place for its answer.
module _ (code : CodeProgram) (grants : Grants) (core : Core) (at : Registers) (sent : Sent) (block : Value)
    (waits : BlockWaits code grants (with_block sent block core) at sent block) where
  pub once_left : sent.floor < length core.stack.values.items → IsLeft code core at sent
  once_left place =
      let is = waiting code grants (with_block sent block core) at sent block (arguments_in core at sent) (valid_there code grants (with_block sent block core) at sent block waits) in
      let stand = stand_there code grants (with_block sent block core) at sent block waits in
      record {
        sound = is.sound;
        rooms = record {
          cells = waits.ready.rooms.cells;
          out = waits.ready.rooms.out;
          frames = waits.ready.rooms.frames;
          values = waits.ready.rooms.values;
          evaluations = waits.ready.rooms.evaluations;
          sends = waits.ready.rooms.sends;
        };
        depth = let depth = is.depth in let within = is.lawful.within.depth in omega (arith, depth, within);
        stands = stand.0;
        waits = stand.1;
        place = place;
      }

  pub once_waiting : IsWaiting code core (arguments_in core at sent) block
  once_waiting =
      let is = waiting code grants (with_block sent block core) at sent block (arguments_in core at sent) (valid_there code grants (with_block sent block core) at sent block waits) in
      record { sound = is.sound; lawful = is.lawful; depth = is.depth; block_is = is.block_is; few = is.few; live = is.live }

  pub once_moves : (new : Core) (n : Next) → Leads code core at sent.floor (evaluated_with code core sent (arguments_in core at sent) block) new n
      → MakesMove code (with_block sent block core) (next.Waits at) new n
  once_moves new n is = record {
    state = is.state;
    stand = is.stand;
    stays = record { world = is.stays.world; values = is.stays.values; frames = is.stays.frames; places = is.stays.places; arguments = is.stays.arguments };
    kept = subst (λ (memo : List (Option Kept)). All (PlaceIsRight core.run.world.world.cells code) memo) (sym is.memo) waits.ready.kept;
  }
