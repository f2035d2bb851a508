-- A machine in which nothing has changed but the lookups that it keeps.
use Rattle.std.proofs.Common.{◌≡◌, ℕ, ◌-◌, ◌<◌, ◌≤◌, List, Option, All, ap, sym, subst, arith, false}
use Rattle.ns_code.specs.declared.program.CodeProgram.{CodeProgram}
use Rattle.ns_facets.specs.declared.row.Grants.{Grants}
use Rattle.ns_moves.specs.Falling.{run_left}
use Rattle.ns_find.specs.declared.memo.Kept.{Kept}
use Rattle.ns_find.specs.Memo.{PlaceIsRight}
use Rattle.ns_machine_frames.specs.declared.registers.Registers.{Registers}
use Rattle.ns_machine_plan.specs.declared.plan.Plan.{Plan}
use Rattle.ns_machine_core.specs.declared.own.OwnSends.{OwnSends}
use Rattle.ns_machine_core.specs.declared.state.Core.{Core}
use Rattle.ns_machine_core.specs.declared.state.Next.{Next}
use Rattle.ns_machine_core.specs.declared.state.Next.TheVariants.{On}
use Rattle.ns_machine_core.specs.Doing.{IsRunning}
use Rattle.ns_machine_core.specs.Ready.{MachineIsReady, MakesMove}
use Rattle.ns_machine_core.specs.Shown.{shown}
use Rattle.ns_machine_core.specs.Tried.{OnlyLookupsChanged}
use Rattle.ns_moves.specs.Turn.{is_still}
use Rattle.ns_machine_turns.specs.Turning.{RunsBy, IsTurning, GoesAlong, HasGone}
use Rattle.ns_machine_turns.proofs.Along.{gone_far}

-- it keeps these instead
abbrev pub with_memo : Core → List (Option Kept) → Core
with_memo core memo = record core { run = record core.run { memo = memo } }

module _ (code : CodeProgram) (core : Core) (at : Registers) (memo : List (Option Kept)) (kept : All (PlaceIsRight core.run.world.world.cells code) memo) where
  memo_ready : (grants : Grants) → MachineIsReady code grants core (On at) → MachineIsReady code grants (with_memo core memo) (On at)
  memo_ready grants ready = record {
    valid = ready.valid;
    rooms = record { cells = ready.rooms.cells; out = ready.rooms.out; frames = ready.rooms.frames; values = ready.rooms.values; evaluations = ready.rooms.evaluations; sends = ready.rooms.sends };
    stand = ready.stand;
    kept = kept;
  }

  memo_runs : (plan : Plan) (sends : OwnSends) → RunsBy code plan sends core (On at) → RunsBy code plan sends (with_memo core memo) (On at)
  memo_runs plan sends runs = record {
    prepared = runs.prepared;
    own = runs.own;
    can = record { grants = runs.can.grants; ready = memo_ready runs.can.grants runs.can.ready };
  }

  memo_turning : (steps : ℕ) (first : Core) (began : Next) → IsTurning code steps first began core (On at) → IsTurning code steps first began (with_memo core memo) (On at)
  memo_turning steps first began turning = record {
    ready = λ grants begun. memo_ready grants (turning.ready grants begun);
    stays = record {
      world = record { limits = turning.stays.world.limits; room = turning.stays.world.room };
      values = turning.stays.values;
      frames = turning.stays.frames;
      places = turning.stays.places;
      arguments = turning.stays.arguments;
    };
    under = turning.under;
  }

  memo_along : (plan : Plan) (sends : OwnSends) (left : ℕ) (old : Core) (from : Next) → GoesAlong code plan sends left old from core (On at)
      → GoesAlong code plan sends left old from (with_memo core memo) (On at)
  memo_along plan sends left old from along = record {
    runs = memo_runs plan sends along.runs;
    turning = λ steps first began e turning. memo_turning steps first began (along.turning steps first began e turning);
    onward = along.onward;
    lower = along.lower;
  }

  memo_moves : (new : Core) (next : Next) → MakesMove code (with_memo core memo) (On at) new next → MakesMove code core (On at) new next
  memo_moves new next moved = record {
    state = moved.state;
    stand = moved.stand;
    stays = record {
      world = record { limits = moved.stays.world.limits; room = moved.stays.world.room };
      values = moved.stays.values;
      frames = moved.stays.frames;
      places = moved.stays.places;
      arguments = moved.stays.arguments;
    };
    kept = moved.kept;
  }

-- Such a machine runs by the plan,
pub untouched_runs : (code : CodeProgram) (plan : Plan) (sends : OwnSends) (now new : Core) (at : Registers)
    → RunsBy code plan sends now (On at) → OnlyLookupsChanged code now new → RunsBy code plan sends new (On at)
untouched_runs code plan sends now new at runs is =
    subst (λ (core : Core). RunsBy code plan sends core (On at)) (sym is.same) (memo_runs code now at new.run.memo is.kept plan sends runs)

pub untouched_running : (code : CodeProgram) (now new : Core) → IsRunning now.stack.frames.items → OnlyLookupsChanged code now new
    → IsRunning new.stack.frames.items
untouched_running code now new running is = subst (λ (core : Core). IsRunning core.stack.frames.items) (sym is.same) running

-- and a move of it is one of the machine before.
pub untouched_moves : (code : CodeProgram) (now mid new : Core) (at : Registers) (next : Next) → OnlyLookupsChanged code now mid
    → MakesMove code mid (On at) new next → MakesMove code now (On at) new next
untouched_moves code now mid new at next is moved =
    memo_moves code now at mid.run.memo is.kept new next (subst (λ (core : Core). MakesMove code core (On at) new next) is.same moved)

-- Moves that have led to such a machine have led on to it.
pub untouched_along : (code : CodeProgram) (plan : Plan) (sends : OwnSends) (left : ℕ) (old : Core) (from : Next) (now new : Core) (at : Registers)
    → GoesAlong code plan sends left old from now (On at) → OnlyLookupsChanged code now new → GoesAlong code plan sends left old from new (On at)
untouched_along code plan sends left old from now new at along is =
    subst (λ (core : Core). GoesAlong code plan sends left old from core (On at)) (sym is.same)
    (memo_along code now at new.run.memo is.kept plan sends left old from along)

pub untouched_steps : (code : CodeProgram) (now new : Core) → OnlyLookupsChanged code now new →
    new.run.world.world.steps ≡ now.run.world.world.steps
untouched_steps code now new is = ap (λ (core : Core). core.run.world.world.steps) is.same

pub untouched_few : (code : CodeProgram) (now new old : Core) (left : ℕ) → OnlyLookupsChanged code now new →
    now.run.world.world.steps - old.run.world.world.steps < left
    → new.run.world.world.steps - old.run.world.world.steps < left
untouched_few code now new old left is few = let same = untouched_steps code now new is in omega (arith, same, few)

-- What is less than is left for such a machine is less than was left.
pub untouched_falls : (code : CodeProgram) (now new : Core) (at : Registers) (less : ℕ) → OnlyLookupsChanged code now new
    → less < run_left code (shown code new (On at)) → less < run_left code (shown code now (On at))
untouched_falls code now new at less is falls = subst (λ (core : Core). less < run_left code (shown code core (On at))) is.same falls

-- Moves that led on from such a machine, with the steps that were left for it, have led on from where others began.
pub untouched_far : (code : CodeProgram) (plan : Plan) (sends : OwnSends) (left some : ℕ) (old now mid new : Core) (from : Next) (at : Registers) (next : Next)
    → GoesAlong code plan sends left old from now (On at) → is_still (shown code old from) ≡ false → OnlyLookupsChanged code now mid
    → some ≤ left - (mid.run.world.world.steps - old.run.world.world.steps) → HasGone code plan sends some mid (On at) new next
    → HasGone code plan sends left old from new next
untouched_far code plan sends left some old now mid new from at next along goes is few gone =
    gone_far code plan sends left some old mid new from (On at) next few
    (untouched_along code plan sends left old from now mid at along is) goes gone
