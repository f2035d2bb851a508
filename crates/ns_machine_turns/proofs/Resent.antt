-- Sends that waited: what is known where they wait, and what becomes of them.
use Rattle.std.proofs.Common.{◌≡◌, ◌+◌, ◌≤◌, ℕ, List, length, take, ap, sym, ◌∙◌, refl, subst, arith, Option, Some, None, All}
use Rattle.std.specs.Prelude.{IsTrue, IsSome}
use Rattle.std.specs.Option.{option_map_or}
use Rattle.ns_code.specs.declared.program.CodeProgram.{CodeProgram}
use Rattle.ns_facets.specs.declared.row.Grants.{Grants}
use Rattle.ns_world.specs.declared.cell.NewCell.TheVariants as new
use Rattle.ns_world.specs.declared.value.Value.{Value}
use Rattle.ns_world.specs.declared.value.Value.TheVariants.{Nil, Ref}
use Rattle.ns_world.specs.Cell.{Cell, shape_of}
use Rattle.ns_world.specs.Heap.{Heap, find_cell}
use Rattle.ns_world.specs.Lawful.{IsLiveValue}
use Rattle.ns_base.specs.declared.selector.Sel.{Sel}
use Rattle.ns_kdata.specs.Arguments.{CellIsThere, items_of, is_array, is_array_shape}
use Rattle.ns_moves.specs.Control.{Control, gives}
use Rattle.ns_moves.specs.Lawful.{LawfulControl}
use Rattle.ns_moves.specs.Sends.{sent_from}
use Rattle.ns_moves.specs.Stated.{WaitedIsLawful}
use Rattle.ns_moves.specs.State as state
use Rattle.ns_moves.specs.Arrivals.{arrived}
use Rattle.ns_moves.specs.Move.{move}
use Rattle.ns_moves.specs.Returns.{delivered}
use Rattle.ns_moves.specs.Valid.{Valid}
use Rattle.ns_machine_frames.specs.declared.frame.Pending.{Pending}
use Rattle.ns_machine_frames.specs.declared.frame.Pending.TheVariants as pending
use Rattle.ns_machine_frames.specs.declared.registers.Registers.{Registers}
use Rattle.ns_machine_frames.specs.Row.{ValueRow, FrameRow}
use Rattle.ns_machine_frames.specs.Standing.{at_next}
use Rattle.ns_machine_frames.specs.Stack.{stood, with_top}
use Rattle.ns_machine_frames.specs.View.{site_shown, frames_shown, state_shown}
use Rattle.ns_find.specs.Memo.{PlaceIsRight}
use Rattle.ns_moves.specs.declared.run.Run.{Run}
use Rattle.ns_machine_core.specs.declared.state.Core.{Core}
use Rattle.ns_machine_core.specs.declared.state.Next.{Next}
use Rattle.ns_machine_core.specs.declared.state.Next.TheVariants as next
use Rattle.ns_machine_core.specs.Shown.{phase_shown, progress_in, shown}
use Rattle.ns_machine_core.specs.declared.own.OwnSends.{OwnSends}
use Rattle.ns_machine_core.specs.Own.{AreOwn}
use Rattle.ns_machine_core.specs.Ready.{MachineIsReady, MakesMove}
use Rattle.ns_machine_core.specs.Framed.{HasRoomOnTop, WaitingHasRoom, ArgumentsAreFew}
use Rattle.ns_machine_core.specs.Standing.{AreStanding, ArgumentsWait, Wait}
use Rattle.ns_moves.specs.Bodies.{greatest_of}
use Rattle.ns_machine_core.specs.laws.Kept.{rooms_stay}
use Rattle.ns_machine_returns.specs.Handing.{CanTake, IsHanded}
use Rattle.ns_machine_sends.specs.declared.sent.Sent.{Sent}
use Rattle.ns_machine_sends.specs.Kept.{keeping}
use Rattle.ns_machine_sends.specs.Sending.{Sends}
use Rattle.ns_machine_sends.specs.Waiting.{CanSendOn, HasMadePlace, IsGivenOn, sent_on_at}
use Rattle.ns_machine_frames.specs.laws.Counts.{many_stand, many_next, many_shown}
use Rattle.ns_machine_frames.specs.laws.Room.{reach_all}
use Rattle.ns_machine_turns.specs.Resending.{WaitsToSend, IsSet}

-- ---- a value that is given

pub given_takes : (code : CodeProgram) → WaitedIsLawful code → (old mid : Core) (at : Registers) (sent : Sent) (receiver : Value) (sel : Sel) (value : Value) →
    CanSendOn code old at sent receiver sel
    → HasRoomOnTop code (stood old.stack (with_top sent.floor at)) → IsGivenOn code old (sent_on_at code old sent receiver sel) mid value
    → CanTake code mid (with_top sent.floor at) × IsLiveValue mid.run.world.world.cells code value
given_takes code law old mid at sent receiver sel value can room given =
    let whole : LawfulControl code (gives value (progress_in mid)) = subst (LawfulControl code) given.control_is
    (law receiver sel old.arguments.items (site_shown old.places sent.site) (progress_in old) can.lawful can.live can.selector) in (
      record {
        stands = record { rooms = rooms_stay code old mid can.left.rooms given.stays; frames = rw given.stack can.left.waits.stands };
        room = rw given.stack room;
        lawful = whole.0;
      },
      whole.1,
    )

pub own_stay : (code : CodeProgram) (old mid : Core) (at : Registers) (sent : Sent) (receiver : Value) (sel : Sel) (value : Value) (own : OwnSends) →
    AreOwn code old.places own
    → IsGivenOn code old (sent_on_at code old sent receiver sel) mid value → AreOwn code mid.places own
own_stay code old mid at sent receiver sel value own are given = rw given.stays.places are

pub given_sends : (code : CodeProgram) (old mid new : Core) (at : Registers) (sent : Sent) (receiver : Value) (sel : Sel) (value : Value) (n : Next)
    → IsGivenOn code old (sent_on_at code old sent receiver sel) mid value → IsHanded code mid (with_top sent.floor at) value new n
    → Sends code old at sent.floor (sent_on_at code old sent receiver sel) new n
given_sends code old mid new at sent receiver sel value n given handed = record {
  state = handed.state ∙ (same ∙ sym (ap (λ (c : Control). arrived code (phase_shown old.phase) c
      (frames_shown code old.places (stood old.stack (with_top sent.floor at)))) given.control_is));
  stand = handed.stand;
  stays = record {
    world = record {
      limits = handed.stays.world.limits ∙ given.stays.world.limits;
      room = (handed.stays.world.room.0 ∙ given.stays.world.room.0, handed.stays.world.room.1 ∙ given.stays.world.room.1);
    };
    values = handed.stays.values ∙ given.stays.values;
    frames = handed.stays.frames ∙ given.stays.frames;
    places = handed.stays.places ∙ given.stays.places;
    arguments = handed.stays.arguments ∙ given.stays.arguments;
  };
  kept = subst (λ (run : Run). All (PlaceIsRight old.run.world.world.cells code) run.memo) (sym handed.run) given.kept;
}
  where
    same : delivered code (phase_shown mid.phase) value (frames_shown code mid.places (stood mid.stack (with_top sent.floor at))) (progress_in mid)
        ≡ delivered code (phase_shown old.phase) value (frames_shown code old.places (stood old.stack (with_top sent.floor at))) (progress_in mid)
    same = rw (given.phase, given.stays.places, given.stack) refl

-- ---- what is known where a send waits

frames_many : (code : CodeProgram) (core : Core) (at : Registers) (floor : ℕ)
    → length (frames_shown code core.places (stood core.stack (with_top floor at))) ≡ length core.stack.frames.items
frames_many code core at floor =
    many_shown code core.places (stood core.stack (with_top floor at))
    ∙ (many_stand (at_next at.next core.stack.frames.items) (take floor core.stack.values.items) ∙ many_next at.next core.stack.frames.items)

-- what a machine shows in which this waits
pub valid_there : (code : CodeProgram) (grants : Grants) (core : Core) (at : Registers) (p : Pending) → core.waiting ≡ p →
    MachineIsReady code grants core (next.Waits at)
    → Valid code grants (state_shown code core.places (phase_shown core.phase) p core.arguments.items core.stack at (progress_in core))
valid_there code grants core at p is ready =
    subst (λ (q : Pending). Valid code grants (state_shown code core.places (phase_shown core.phase) q core.arguments.items core.stack at (progress_in core))) is ready.valid

-- and what its next move is
move_there : (code : CodeProgram) (core : Core) (at : Registers) (p : Pending) → core.waiting ≡ p
    → move code (state_shown code core.places (phase_shown core.phase) p core.arguments.items core.stack at (progress_in core)) ≡ move code (shown code core (next.Waits at))
move_there code core at p is =
    ap (λ (q : Pending). move code (state_shown code core.places (phase_shown core.phase) q core.arguments.items core.stack at (progress_in core))) (sym is)

-- what stands below a send that waits
pub record StandsBelow (code : CodeProgram) (core : Core) (at : Registers) (sent : Sent) : Type 0 where
  pub stands : AreStanding code core.stack at
  pub waits : ArgumentsWait code core.stack at sent.floor sent.first

stands_below : (code : CodeProgram) (core : Core) (at : Registers) (sent : Sent) → sent.first ≡ sent.floor →
    AreStanding code core.stack at
    → ArgumentsWait code core.stack at sent.floor sent.floor → StandsBelow code core at sent
stands_below code core at sent first stands waits = record {
  stands = stands;
  waits = subst (λ (n : ℕ). ArgumentsWait code core.stack at sent.floor n) (sym first) waits;
}

pub sending_stands : (code : CodeProgram) (grants : Grants) (core : Core) (at : Registers) (sent : Sent) (receiver : Value) (sel : Sel)
    → core.waiting ≡ pending.Sending receiver sel sent.site sent.floor → sent.first ≡ sent.floor → MachineIsReady code grants core (next.Waits at)
    → StandsBelow code core at sent
sending_stands code grants core at sent receiver sel is first ready =
    stands_below code core at sent first ready.stand.0 (subst (λ (p : Pending). Wait code p core.stack at) is ready.stand.1)

pub performing_stands : (code : CodeProgram) (grants : Grants) (core : Core) (at : Registers) (sent : Sent) (receiver : Value) (sel : Sel) (array : ℕ)
    → core.waiting ≡ pending.Performing receiver sel array sent.site sent.floor → sent.first ≡ sent.floor → MachineIsReady code grants core (next.Waits at)
    → StandsBelow code core at sent
performing_stands code grants core at sent receiver sel array is first ready =
    stands_below code core at sent first ready.stand.0 (subst (λ (p : Pending). Wait code p core.stack at) is ready.stand.1)

pub sending_known : (code : CodeProgram) (grants : Grants) → WaitingHasRoom code grants →
    (core : Core) (at : Registers) (sent : Sent) (receiver : Value) (sel : Sel)
    → core.waiting ≡ pending.Sending receiver sel sent.site sent.floor → sent.first ≡ sent.floor → MachineIsReady code grants core (next.Waits at)
    → WaitsToSend code core at sent receiver sel core.arguments.items
sending_known code grants law core at sent receiver sel is first ready =
    let valid = valid_there code grants core at (pending.Sending receiver sel sent.site sent.floor) is ready in
    record {
      sound = valid.0.world.sound;
      lawful = valid.0.world.lawful;
      begun = valid.0.world.begun;
      kept = ready.kept;
      rooms = ready.rooms;
      depth = valid.0.depth ∙ frames_many code core at sent.floor;
      live = valid.1.1.live;
      selector = valid.1.2;
      room = law core.places (phase_shown core.phase) (state.Sending receiver sel core.arguments.items (site_shown core.places sent.site))
          (stood core.stack (with_top sent.floor at)) (progress_in core) refl valid;
    }

pub performing_known : (code : CodeProgram) (grants : Grants) → WaitingHasRoom code grants →
    (core : Core) (at : Registers) (sent : Sent) (receiver : Value)
    (sel : Sel) (array : ℕ) → core.waiting ≡ pending.Performing receiver sel array sent.site sent.floor → sent.first ≡ sent.floor
    → MachineIsReady code grants core (next.Waits at) → WaitsToSend code core at sent receiver sel (items_of core.run.world.world.cells (Ref array))
performing_known code grants law core at sent receiver sel array is first ready =
    let valid = valid_there code grants core at (pending.Performing receiver sel array sent.site sent.floor) is ready in
    record {
      sound = valid.0.world.sound;
      lawful = valid.0.world.lawful;
      begun = valid.0.world.begun;
      kept = ready.kept;
      rooms = ready.rooms;
      depth = valid.0.depth ∙ frames_many code core at sent.floor;
      live = valid.1.0;
      selector = valid.1.2;
      room = law core.places (phase_shown core.phase) (state.Performing receiver sel array (site_shown core.places sent.site)) (stood core.stack (with_top sent.floor at))
          (progress_in core) refl valid;
    }

cell_there : (o : Option Cell) → IsTrue (is_array_shape (option_map_or shape_of o (new.Mirror Nil))) → IsSome o
cell_there (Some cell) is = refl
cell_there None is = absurd (cc)

pub array_there : (heap : Heap) (at : ℕ) → IsTrue (is_array heap (Ref at)) → CellIsThere heap (Ref at)
array_there heap at is = cell_there (find_cell heap at) is

-- there is room for as many arguments as a selector takes, and for an answer behind the caller's values
pub items_fit : (code : CodeProgram) → ArgumentsAreFew code →
    (core : Core) (at : Registers) (sent : Sent) (receiver : Value) (sel : Sel) (arguments : List Value)
    → WaitsToSend code core at sent receiver sel arguments → length arguments ≤ core.arguments.room
items_fit code few core at sent receiver sel arguments known =
    let arity = known.selector.arity in
    let most = few sel.0 in
    let room = known.rooms.sends in
    omega (arith, arity, most, room)

pub place_fits : (code : CodeProgram) (core : Core) (at : Registers) (sent : Sent) (receiver : Value) (sel : Sel) (arguments : List Value)
    → WaitsToSend code core at sent receiver sel arguments → ArgumentsWait code core.stack at sent.floor sent.first → sent.floor + 1 ≤ core.stack.values.room
place_fits code core at sent receiver sel arguments known waits =
    let reach = waits.reach in
    let low = waits.low in
    let depth = known.depth in
    let within = known.lawful.within.depth in
    let all = reach_all (greatest_of code.bodies) core.run.world.world.limits.depth core.stack.frames.items (omega (arith, depth, within)) in
    let room = known.rooms.values in
    omega (arith, reach, low, all, room)

-- ---- arguments that are set

pub sending_set : (code : CodeProgram) (core mid : Core) (at : Registers) (sent : Sent) → HasMadePlace code core at sent mid
    → IsSet code core at sent core.arguments.items mid
sending_set code core mid at sent made = record {
  below = made.below;
  arguments_are = ap (λ (row : ValueRow). row.items) made.arguments;
  frames = made.frames;
  stands = made.stands;
  waits = made.waits;
  place = made.place;
  run = made.run;
  phase = made.phase;
  stays = made.stays;
}

pub performing_set : (code : CodeProgram) (core mid : Core) (at : Registers) (sent : Sent) (arguments : List Value)
    → HasMadePlace code (keeping arguments core) at sent mid → IsSet code core at sent arguments mid
performing_set code core mid at sent arguments made = record {
  below = made.below;
  arguments_are = ap (λ (row : ValueRow). row.items) made.arguments;
  frames = made.frames;
  stands = made.stands;
  waits = made.waits;
  place = made.place;
  run = made.run;
  phase = made.phase;
  stays = record {
    world = made.stays.world;
    values = made.stays.values;
    frames = made.stays.frames;
    places = made.stays.places;
    arguments = made.stays.arguments;
  };
}

module _ (code : CodeProgram) (core mid : Core) (at : Registers) (sent : Sent) (receiver : Value) (sel : Sel) (arguments : List Value)
    (known : WaitsToSend code core at sent receiver sel arguments) (set : IsSet code core at sent arguments mid) where
  pub can_send : CanSendOn code mid at sent receiver sel
  can_send = record {
    left = record {
      sound = known.sound;
      rooms = rooms_stay code core mid known.rooms set.stays;
      depth =
          let depth = known.depth in
          let within = known.lawful.within.depth in
          let limits = ap (λ l. l.depth) set.stays.world.limits in
          let frames = ap (λ (kept : FrameRow). length kept.items) set.frames in
          omega (arith, depth, within, limits, frames);
      stands = set.stands;
      waits = set.waits;
      place = set.place;
    };
    lawful = rw set.run known.lawful;
    begun = rw set.run known.begun;
    kept = rw set.run known.kept;
    depth = ap (λ (run : Run). run.world.world.depth) set.run ∙ (known.depth ∙ ap (λ (kept : FrameRow). length kept.items) (sym set.frames));
    live = rw set.run known.live;
    selector = rw (set.run, set.arguments_are) known.selector;
  }

  pub room_stays : HasRoomOnTop code (stood mid.stack (with_top sent.floor at))
  room_stays = rw set.below known.room

  pub own_set : (own : OwnSends) → AreOwn code core.places own → AreOwn code mid.places own
  own_set own are = rw set.stays.places are

  pub sent_moves : (new : Core) (from n : Next) → Sends code mid at sent.floor (sent_on_at code mid sent receiver sel) new n
      → arrived code (phase_shown core.phase) (sent_from code receiver sel arguments (site_shown core.places sent.site) (progress_in core))
      (frames_shown code core.places (stood core.stack (with_top sent.floor at))) ≡ move code (shown code core from)
      → MakesMove code core from new n
  sent_moves new from n sends is_move = record {
    state = sends.state ∙ (same ∙ is_move);
    stand = sends.stand;
    stays = record {
      world = record {
        limits = sends.stays.world.limits ∙ set.stays.world.limits;
        room = (sends.stays.world.room.0 ∙ set.stays.world.room.0, sends.stays.world.room.1 ∙ set.stays.world.room.1);
      };
      values = sends.stays.values ∙ set.stays.values;
      frames = sends.stays.frames ∙ set.stays.frames;
      places = sends.stays.places ∙ set.stays.places;
      arguments = sends.stays.arguments ∙ set.stays.arguments;
    };
    kept = subst (λ (run : Run). All (PlaceIsRight run.world.world.cells code) new.run.memo) set.run sends.kept;
  }
    where
      same : arrived code (phase_shown mid.phase) (sent_on_at code mid sent receiver sel) (frames_shown code mid.places (stood mid.stack (with_top sent.floor at)))
          ≡ arrived code (phase_shown core.phase) (sent_from code receiver sel arguments (site_shown core.places sent.site) (progress_in core))
          (frames_shown code core.places (stood core.stack (with_top sent.floor at)))
      same = rw (set.arguments_are, set.below, set.phase, set.run, set.stays.places) refl

-- ---- the moves

pub sending_moves : (code : CodeProgram) (grants : Grants) → WaitingHasRoom code grants →
    (core mid new : Core) (at : Registers) (sent : Sent) (receiver : Value) (sel : Sel)
    (n : Next) → core.waiting ≡ pending.Sending receiver sel sent.site sent.floor → sent.first ≡ sent.floor → MachineIsReady code grants core (next.Waits at)
    → HasMadePlace code core at sent mid → Sends code mid at sent.floor (sent_on_at code mid sent receiver sel) new n
    → MakesMove code core (next.Waits at) new n
sending_moves code grants law core mid new at sent receiver sel n is first ready made sends =
    sent_moves code core mid at sent receiver sel core.arguments.items (sending_known code grants law core at sent receiver sel is first ready)
    (sending_set code core mid at sent made) new (next.Waits at) n sends
    (move_there code core at (pending.Sending receiver sel sent.site sent.floor) is)

pub performing_moves : (code : CodeProgram) (grants : Grants) → WaitingHasRoom code grants →
    (core mid new : Core) (at : Registers) (sent : Sent)
    (receiver : Value) (sel : Sel) (array : ℕ) (n : Next) → core.waiting ≡ pending.Performing receiver sel array sent.site sent.floor → sent.first ≡ sent.floor
    → MachineIsReady code grants core (next.Waits at) → HasMadePlace code (keeping (items_of core.run.world.world.cells (Ref array)) core) at sent mid
    → Sends code mid at sent.floor (sent_on_at code mid sent receiver sel) new n
    → MakesMove code core (next.Waits at) new n
performing_moves code grants law core mid new at sent receiver sel array n is first ready made sends =
    sent_moves code core mid at sent receiver sel (items_of core.run.world.world.cells (Ref array))
    (performing_known code grants law core at sent receiver sel array is first ready)
    (performing_set code core mid at sent (items_of core.run.world.world.cells (Ref array)) made) new (next.Waits at) n sends
    (move_there code core at (pending.Performing receiver sel array sent.site sent.floor) is)
