-- What holds of a machine at every moment.
use Rattle.std.proofs.Common.{◌≡◌, ℕ, List, [], refl, ap, sym, subst, ◌∙◌, Result, Ok, Err, All}
use Rattle.ns_base.specs.declared.limits.Limits.{Limits}
use Rattle.ns_code.specs.declared.program.CodeProgram.{CodeProgram}
use Rattle.ns_facets.specs.declared.row.Grants.{Grants}
use Rattle.ns_world.specs.declared.value.Value.{Value}
use Rattle.ns_world.specs.declared.cell.CellLimit.{CellLimit}
use Rattle.ns_world.specs.World.{WorldView}
use Rattle.ns_world.specs.Lawful.{IsLawful}
use Rattle.ns_moves.specs.Control.{Progress, in_world}
use Rattle.ns_moves.specs.Start.{nothing_done, start_made}
use Rattle.ns_machine_start.specs.Making.{start_shown}
use Rattle.ns_moves.specs.State.{Ended, progress_of, swapped}
use Rattle.ns_moves.specs.Starts.{unbegun, new_machine}
use Rattle.ns_moves.specs.Valid.{Valid}
use Rattle.ns_machine_core.specs.declared.state.Core.{Core}
use Rattle.ns_machine_core.specs.Shown.{phase_shown, progress_in}
use Rattle.ns_moves.specs.laws.Worlds.{valid_lawful}
use Rattle.ns_machine_core.specs.laws.Kept.{shown_progress, rooms_stay}
use Rattle.ns_machine_core.specs.declared.state.Phase.{Phase as KeptPhase}
use Rattle.ns_machine_core.specs.declared.state.Phase.TheVariants.{Start, Hosted}
use Rattle.ns_world.specs.declared.ending.Ending.{Ending}
use Rattle.ns_world.specs.declared.ending.Ending.TheVariants.{Limit}
use Rattle.ns_world.specs.declared.ending.LimitKind.TheVariants.{Cells}
use Rattle.std.proofs.Common.{Option, None, Bool, if◌then◌else◌, length}
use Rattle.ns_machine_core.specs.Ready.{MachineIsReady}
use Rattle.ns_machine_turns.specs.Turning.{RunsBy}
use Rattle.ns_base.specs.declared.selector.Sel.{Sel}
use Rattle.ns_moves.specs.Sends.{site_at}
use Rattle.ns_moves.specs.State as state
use Rattle.ns_moves.specs.State.{Sending, Pends, world_of}
use Rattle.ns_moves.specs.Starts.{begun}
use Rattle.ns_moves.specs.Beginning.{MayBegin, HostKeepsValid}
use Rattle.ns_machine_plan.specs.Steps.{no_place}
use Rattle.ns_machine_core.specs.declared.state.Next.{Next}
use Rattle.ns_machine_core.specs.Shown.{shown}
use Rattle.ns_machine.proofs.Opening.{none_there}
use Rattle.ns_machine.specs.Waiting.{HostSendWaits}
use Rattle.ns_machine.specs.declared.stage.Stage.{Stage}
use Rattle.ns_machine.specs.declared.stage.Stage.TheVariants as stage
use Rattle.ns_machine.specs.Machine.{stage_shown, stage_after, StandIn, IsMachine}
use Rattle.ns_machine.specs.Fresh.{IsFresh}
use Rattle.ns_machine.specs.Places.{HasPlaces}
use Rattle.std.specs.List.{slice_get}
use Rattle.ns_base.specs.declared.place.Place.{Place as SourcePlace}
use Rattle.ns_facets.specs.declared.board.Board.{Board}
use Rattle.ns_find.specs.Memo.{PlaceIsRight}
use Rattle.ns_moves.specs.declared.run.Run.{Run}
use Rattle.ns_moves.specs.Steps.{opening_place}
use Rattle.ns_moves.specs.WorldStays.{SwapsKeepValid}
use Rattle.ns_machine_frames.specs.declared.frame.Pending.{Pending}
use Rattle.ns_machine_frames.specs.declared.frame.Pending.TheVariants as pending
use Rattle.ns_machine_frames.specs.declared.registers.Registers.{Registers}
use Rattle.ns_machine_frames.specs.View.{state_shown}
use Rattle.ns_machine_plan.specs.declared.plan.Plan.{Plan}
use Rattle.ns_machine_core.specs.declared.own.OwnSends.{OwnSends}
use Rattle.ns_machine_core.specs.declared.state.Next.TheVariants as next
use Rattle.ns_machine_core.specs.Standing.{KeepsRooms}

-- what it has done is what its state has
pub stage_progress : (code : CodeProgram) (core : Core) (stage : Stage) → progress_of (stage_shown code core stage) ≡ progress_in core
stage_progress code core (stage.Unbegun arguments) = refl
stage_progress code core (stage.Begun next) = shown_progress code core next

pub stage_lawful : (code : CodeProgram) (grants : Grants) (core : Core) (stage : Stage) → Valid code grants (stage_shown code core stage)
    → IsLawful core.run.world.world code
stage_lawful code grants core stage valid =
    subst (λ (p : Progress). IsLawful p.world code) (stage_progress code core stage) (valid_lawful code grants (stage_shown code core stage) valid)

-- ---- the start

-- the core with another world
abbrev pub with_world : Core → WorldView → Core
with_world core world = record core { run = record core.run { world = world } }

stage_unbegun : (code : CodeProgram) (core : Core) (made : Result ℕ CellLimit) → core.phase ≡ Start → core.ending ≡ Limit Cells
    → stage_shown code core (stage_after made) ≡ unbegun (start_shown made (progress_in core))
stage_unbegun code core (Ok arguments) phase ending = refl
stage_unbegun code core (Err limit) phase ending =
    ap (λ (p : KeptPhase). Ended core.ending (phase_shown p) (progress_in core)) phase
    ∙ ap (λ (e : Ending). Ended e state.Start (progress_in core)) ending

-- where it stands after its start
pub stage_started : (code : CodeProgram) (limits : Limits) (grants : Grants) (arguments : List (List ℕ)) (core : Core) (world : WorldView) (made : Result ℕ CellLimit)
    → IsFresh code limits core
    → start_shown made (in_world (nothing_done core.run.world.world.limits) world.world) ≡ start_made code grants arguments core.run.world.world.limits
    → stage_shown code (with_world core world) (stage_after made) ≡ new_machine code limits grants arguments
stage_started code limits grants arguments core world made fresh is =
    let same : core.run.world.world.limits ≡ limits = ap (λ (p : Progress). p.world.limits) fresh.progress in
    let done : progress_in (with_world core world) ≡ in_world (nothing_done limits) world.world = ap (λ (p : Progress). in_world p world.world) fresh.progress in
    stage_unbegun code (with_world core world) made fresh.phase fresh.ending
    ∙ (ap (λ (p : Progress). unbegun (start_shown made p)) done
    ∙ ap unbegun (subst (λ (l : Limits). start_shown made (in_world (nothing_done l) world.world) ≡ start_made code grants arguments l) same is))

-- ---- another board

-- the core with another board
abbrev pub with_board_of : Core → Board → Core
with_board_of core board = record core { run = record core.run { board = board } }

-- it shows the same state with that board
waiting_swapped : (code : CodeProgram) (core : Core) (board : Board) (p : Pending) (at : Registers)
    → state_shown code core.places (phase_shown core.phase) p core.arguments.items core.stack at (progress_in (with_board_of core board))
    ≡ swapped board (state_shown code core.places (phase_shown core.phase) p core.arguments.items core.stack at (progress_in core))
waiting_swapped code core board pending.Nothing at = refl
waiting_swapped code core board (pending.Sending receiver sel site floor) at = refl
waiting_swapped code core board (pending.Performing receiver sel array site floor) at = refl
waiting_swapped code core board (pending.Evaluating block site floor first) at = refl
waiting_swapped code core board (pending.EvaluatingKept block site floor) at = refl

pub stage_swapped : (code : CodeProgram) (core : Core) (board : Board) (stage : Stage)
    → stage_shown code (with_board_of core board) stage ≡ swapped board (stage_shown code core stage)
stage_swapped code core board (stage.Unbegun arguments) = refl
stage_swapped code core board (stage.Begun (next.On at)) = refl
stage_swapped code core board (stage.Begun (next.Waits at)) = waiting_swapped code core board core.waiting at
stage_swapped code core board (stage.Begun next.Ended) = refl

stand_swapped : (code : CodeProgram) (core : Core) (board : Board) (stage : Stage) → StandIn code core stage →
    StandIn code (with_board_of core board) stage
stand_swapped code core board (stage.Unbegun arguments) stand = tt
stand_swapped code core board (stage.Begun (next.On at)) stand = stand
stand_swapped code core board (stage.Begun (next.Waits at)) stand = stand
stand_swapped code core board (stage.Begun next.Ended) stand = tt

pub swapped_machine : (code : CodeProgram) (grants : Grants) (plan : Plan) (core : Core) (own : OwnSends) (stage : Stage) (board : Board)
    → SwapsKeepValid code grants → IsMachine code grants plan core own stage → IsMachine code grants plan (with_board_of core board) own stage
swapped_machine code grants plan core own stage board keeps is = record {
  valid = subst (Valid code grants) (sym (stage_swapped code core board stage)) (keeps board (stage_shown code core stage) is.valid);
  rooms = record { cells = is.rooms.cells; out = is.rooms.out; frames = is.rooms.frames; values = is.rooms.values; evaluations = is.rooms.evaluations; sends = is.rooms.sends };
  stand = stand_swapped code core board stage is.stand;
  kept = is.kept;
  prepared = is.prepared;
  places = is.places;
  sends = record {
    package_using = is.sends.package_using;
    main_args = is.sends.main_args;
    does_not_understand = is.sends.does_not_understand;
    opening = is.sends.opening;
  };
}

-- ---- sends

-- the core in another phase
abbrev pub with_phase : Core → KeptPhase → Core
with_phase core phase = record core { phase = phase }

-- the places that it keeps stay
places_stay : (code : CodeProgram) (old new : Core) → KeepsRooms old new → HasPlaces code old.run.world.world.limits.depth old.places
    → HasPlaces code new.run.world.world.limits.depth new.places
places_stay code old new stays is = rw (stays.world.limits, stays.places) is

-- a machine in which a send waits, which is a valid state
waiting_machine : (code : CodeProgram) (grants : Grants) (plan : Plan) (old new : Core) (phase : KeptPhase) (own : OwnSends) (before after : Stage)
    → IsMachine code grants plan old own before → Valid code grants (stage_shown code new after) → StandIn code new after → new.run ≡ old.run
    → KeepsRooms (with_phase old phase) new → IsMachine code grants plan new own after
waiting_machine code grants plan old new phase own before after is valid stand run stays = record {
  valid = valid;
  rooms = rooms_stay code (with_phase old phase) new (record { cells = is.rooms.cells; out = is.rooms.out; frames = is.rooms.frames; values = is.rooms.values; evaluations = is.rooms.evaluations; sends = is.rooms.sends }) stays;
  stand = stand;
  kept = subst (λ (r : Run). All (PlaceIsRight r.world.world.cells code) r.memo) (sym run) is.kept;
  prepared = is.prepared;
  places = places_stay code (with_phase old phase) new stays is.places;
  sends = record {
    package_using = is.sends.package_using;
    main_args = is.sends.main_args;
    does_not_understand = is.sends.does_not_understand;
    opening = subst (λ (places : List SourcePlace). slice_get places own.opening ≡ opening_place code) (sym stays.places) is.sends.opening;
  };
}

-- a send of the host that waits has begun
pub host_shown : (code : CodeProgram) (grants : Grants) (plan : Plan) (core new : Core) (own : OwnSends) (stage : Stage) (next : Next) (receiver : Value) (sel : Sel)
    (arguments : List Value) → IsMachine code grants plan core own stage → MayBegin code receiver sel arguments (stage_shown code core stage)
    → HostSendWaits code (with_phase core Hosted) receiver sel (slice_get core.places no_place) arguments new next
    → shown code new next ≡ begun receiver sel arguments (stage_shown code core stage)
host_shown code grants plan core new own stage next receiver sel arguments is may waits =
    let before = stage_shown code core stage in
    let none : slice_get core.places no_place ≡ None =
    none_there code core.places is.places.begins in
    waits.state
    ∙ (ap (λ (place : Option SourcePlace).
    Pends state.Hosted (Sending receiver sel arguments (site_at core.run.world.world.cells place receiver sel)) [] (progress_in core)) none
    ∙ (ap (λ (p : Progress). Pends state.Hosted (Sending receiver sel arguments (site_at p.world.cells None receiver sel)) [] p) (sym (stage_progress code core stage))
    ∙ sym (ap (λ (idle : Bool). if idle then Pends state.Hosted (Sending receiver sel arguments (site_at (world_of before).cells None receiver sel)) [] (progress_of before)
    else before) may.idle)))

pub host_machine : (code : CodeProgram) (grants : Grants) (plan : Plan) (core new : Core) (own : OwnSends) (before : Stage) (next : Next) (receiver : Value) (sel : Sel)
    (arguments : List Value) → HostKeepsValid code grants → IsMachine code grants plan core own before
    → MayBegin code receiver sel arguments (stage_shown code core before)
    → HostSendWaits code (with_phase core Hosted) receiver sel (slice_get core.places no_place) arguments new next
    → IsMachine code grants plan new own (stage.Begun next)
host_machine code grants plan core new own before next receiver sel arguments keeps is may waits =
    waiting_machine code grants plan core new Hosted own before (stage.Begun next) is
    (subst (Valid code grants) (sym (host_shown code grants plan core new own before next receiver sel arguments is may waits))
    (keeps receiver sel arguments (stage_shown code core before) is.valid may))
    waits.stand waits.run waits.stays

-- ---- turns

-- a machine that has begun is ready, and runs by its plan
pub machine_ready : (code : CodeProgram) (grants : Grants) (plan : Plan) (core : Core) (own : OwnSends) (next : Next)
    → IsMachine code grants plan core own (stage.Begun next) → MachineIsReady code grants core next
machine_ready code grants plan core own next is = record { valid = is.valid; rooms = is.rooms; stand = is.stand; kept = is.kept }

pub machine_runs : (code : CodeProgram) (grants : Grants) (plan : Plan) (core : Core) (own : OwnSends) (next : Next)
    → IsMachine code grants plan core own (stage.Begun next) → RunsBy code plan own core next
machine_runs code grants plan core own next is = record {
  prepared = record {
    of_code = is.prepared;
    more = is.places.begins.more;
    begins = is.places.begins.is;
    few = is.places.begins.few;
  };
  own = is.sends;
  can = record { grants = grants; ready = machine_ready code grants plan core own next is };
}

-- it is a machine still where it is ready after a run
pub machine_on : (code : CodeProgram) (grants : Grants) (plan : Plan) (old new : Core) (own : OwnSends) (from next : Next)
    → IsMachine code grants plan old own (stage.Begun from) → MachineIsReady code grants new next → KeepsRooms old new → IsMachine code grants plan new own (stage.Begun next)
machine_on code grants plan old new own from next is ready stays = record {
  valid = ready.valid;
  rooms = ready.rooms;
  stand = ready.stand;
  kept = ready.kept;
  prepared = is.prepared;
  places = places_stay code old new stays is.places;
  sends = record {
    package_using = is.sends.package_using;
    main_args = is.sends.main_args;
    does_not_understand = is.sends.does_not_understand;
    opening = subst (λ (places : List SourcePlace). slice_get places own.opening ≡ opening_place code) (sym stays.places) is.sends.opening;
  };
}
