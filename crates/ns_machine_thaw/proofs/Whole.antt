-- A whole state is put back.
use Rattle.std.proofs.Common.{◌≡◌, ℕ, ◌+◌, ◌*◌, ◌≤◌, List, length, refl, ap, sym, ◌∙◌, subst, arith, All, Option, Some, None, true, ◌&&◌}
use Rattle.std.proofs.lemmas.Bool.{and_parts, eqb-true, leb-true}
use Rattle.std.proofs.lemmas.Nat.{mul-le}
use Rattle.std.specs.Prelude.{nat_le, not}
use Rattle.ns_code.specs.declared.program.CodeProgram.{CodeProgram}
use Rattle.ns_find.specs.declared.memo.Kept.{Kept}
use Rattle.ns_find.specs.Memo.{IsEmpty}
use Rattle.ns_world.specs.declared.ending.Ending.{Ending}
use Rattle.ns_world.specs.declared.ending.Ending.TheVariants.{Done, Error, Limit}
use Rattle.ns_world.specs.declared.ending.LimitKind.TheVariants.{Cells, Steps, Depth, Out}
use Rattle.ns_world.specs.Heap.{Heap, heap_size}
use Rattle.ns_world.specs.Lawful.{IsLawful}
use Rattle.ns_world.specs.World.{World, WorldView, SameRoom}
use Rattle.ns_moves.specs.declared.run.Run.{Run}
use Rattle.ns_moves.specs.Run as act
use Rattle.ns_moves.specs.Bodies.{greatest_of}
use Rattle.ns_moves.specs.Blocks.{is_block}
use Rattle.ns_moves.specs.Control.{Progress}
use Rattle.ns_moves.specs.Start.{standing_cells}
use Rattle.ns_moves.specs.State as run
use Rattle.ns_moves.specs.State.{Start, First, Second, Hosted, State, Ended, progress_of}
use Rattle.ns_moves.specs.Valid.{BeginsWith, EndIsValid, Valid}
use Rattle.ns_moves.specs.laws.Worlds.{valid_lawful}
use Rattle.ns_frozen.specs.declared.frame.FrozenFrame.{FrozenFrame}
use Rattle.ns_frozen.specs.declared.frozen.Frozen.{Frozen}
use Rattle.ns_frozen.specs.declared.pending.Pending.{Pending}
use Rattle.ns_frozen.specs.declared.pending.Pending.TheVariants.{Send, Perform, Evaluate}
use Rattle.ns_frozen.specs.Live.{is_live, are_live}
use Rattle.ns_frozen.specs.Frames.{is_site}
use Rattle.ns_frozen.specs.Rest.{are_counted, is_deep, is_phased, takes_arguments, is_good_pending, is_good_waiting, is_good_end, is_good_rest}
use Rattle.ns_frozen.specs.Thawing.{is_below, heap_thawed, world_thawed, progress_thawed, arguments_in, phase_thawed, going_thawed, state_at, thawed}
use Rattle.ns_machine_frames.specs.declared.stack.Stack.{Stack}
use Rattle.ns_machine_core.specs.declared.state.Core.{Core}
use Rattle.ns_machine_core.specs.declared.state.Phase.{Phase}
use Rattle.ns_machine_core.specs.declared.state.Next.TheVariants as next
use Rattle.ns_machine_core.specs.Shown.{phase_shown}
use Rattle.ns_machine_thaw.specs.declared.thawed.Thawed.{Thawed}
use Rattle.ns_machine_thaw.specs.declared.thawed.Thawed.TheVariants as to
use Rattle.ns_machine_thaw.specs.Frames.{HasDepthRoom}
use Rattle.ns_machine_thaw.specs.Waiting.{arguments_of}
use Rattle.ns_machine_thaw.specs.Thawed.{IsThawed, RunIsPut, StandingIsPut, ArgumentsFit}

-- ---- what has been done

pub run_put : (code : CodeProgram) (frozen : Frozen) (old : Run) (world : WorldView) (memo : List (Option Kept)) → frozen.limits ≡ old.world.world.limits
    → world.world ≡ world_thawed code frozen → SameRoom old.world world → All IsEmpty memo
    → RunIsPut code frozen old (record { world = world; board = frozen.board; memo = memo; begun = frozen.homes })
run_put code frozen old world memo limits is room empty = record {
  progress = ap (λ (w : World). record { world = w; board = frozen.board; begun = frozen.homes }) is;
  memo = empty;
  world = record { limits = ap (λ (w : World). w.limits) is ∙ limits; room = room };
}

-- ---- what is sure of the state

going_progress : (phase : run.Phase) (frames : List run.Frame) (progress : Progress) (arguments : ℕ) → progress_of (going_thawed phase frames progress arguments) ≡ progress
going_progress Start frames progress arguments = refl
going_progress (First array) frames progress arguments = refl
going_progress Second frames progress arguments = refl
going_progress Hosted frames progress arguments = refl

progress_at : (code : CodeProgram) (frozen : Frozen) (progress : Progress) (arguments : ℕ) (waits : Option Pending) (ending : Option Ending)
    → progress_of (state_at code frozen progress arguments waits ending) ≡ progress
progress_at code frozen progress arguments waits (Some ending) = refl
progress_at code frozen progress arguments (Some waits) None = refl
progress_at code frozen progress arguments None None = going_progress (phase_thawed arguments frozen.phase) _ progress arguments

module _ (code : CodeProgram) (frozen : Frozen) where
  abbrev heap : Heap
  heap = heap_thawed code frozen.cells

  abbrev arguments : ℕ
  arguments = arguments_in code frozen.grants heap

  abbrev progress : Progress
  progress = progress_thawed code frozen

  abbrev Begins : Type 0
  Begins = BeginsWith (standing_cells code frozen.grants) heap

  pub lawful : Valid code frozen.grants (thawed code frozen) → IsLawful (world_thawed code frozen) code
  lawful valid =
      subst (λ (p : Progress). IsLawful p.world code) (progress_at code frozen progress arguments frozen.pending frozen.ending)
      (valid_lawful code frozen.grants (thawed code frozen) valid)

  begins_in : (phase : run.Phase) (frames : List run.Frame) → Valid code frozen.grants (going_thawed phase frames progress arguments) → Begins
  begins_in Start frames valid = valid.0.begins
  begins_in (First array) frames valid = valid.0.world.begins
  begins_in Second frames valid = valid.0.world.begins
  begins_in Hosted frames valid = valid.0.world.begins

  begins_at : (waits : Option Pending) → Valid code frozen.grants (state_at code frozen progress arguments waits None) → Begins
  begins_at (Some waits) valid = valid.0.world.begins
  begins_at None valid = begins_in (phase_thawed arguments frozen.phase) _ valid

  -- a state that hasn't ended begins with the cells of the start
  pub begins_going : frozen.ending ≡ None → Valid code frozen.grants (thawed code frozen) → Begins
  begins_going none valid =
      begins_at frozen.pending (subst (λ (o : Option Ending). Valid code frozen.grants (state_at code frozen progress arguments frozen.pending o)) none valid)

  begins_ended : (ending : Ending) (array : ℕ) → EndIsValid code frozen.grants ending (First array) progress → Begins
  begins_ended (Done value) array valid = absurd valid
  begins_ended (Error error) array valid = valid.0.begins
  begins_ended (Limit Cells) array valid = valid.0.begins
  begins_ended (Limit Steps) array valid = valid.0.begins
  begins_ended (Limit Depth) array valid = valid.0.begins
  begins_ended (Limit Out) array valid = valid.0.begins

  -- so does one in the first opening send
  pub begins_first : frozen.phase ≡ 1 → Valid code frozen.grants (thawed code frozen) → Begins
  begins_first first valid = by_ending frozen.ending refl
    where
      by_ending : (o : Option Ending) → frozen.ending ≡ o → Begins
      by_ending None e = begins_going e valid
      by_ending (Some ending) e =
          begins_ended ending arguments
          (subst (λ (n : ℕ). EndIsValid code frozen.grants ending (phase_thawed arguments n) progress) first
          (subst (λ (o : Option Ending). Valid code frozen.grants (state_at code frozen progress arguments frozen.pending o)) e valid))

  pub cells_few : IsLawful (world_thawed code frozen) code → heap_size heap ≤ 64000000
  cells_few lawful = let within = lawful.within.cells in let most = lawful.within.limits.1.1 in omega (arith, within, most)

  -- ---- what is sure of the rest

  -- frames are as many as depth is charged
  pub frames_few : is_good_rest code heap frozen ≡ true → frozen.ending ≡ None → length frozen.frames ≡ frozen.used.depth
  frames_few good none =
      let one = and_parts (are_counted heap frozen && is_deep frozen.ending frozen.used.depth (length frozen.frames)) _ good in
      let two = and_parts (are_counted heap frozen) (is_deep frozen.ending frozen.used.depth (length frozen.frames)) one.0 in
      sym (eqb-true frozen.used.depth (length frozen.frames) (ap (λ (o : Option Ending). is_deep o frozen.used.depth (length frozen.frames)) (sym none) ∙ two.1))

  -- arguments that wait are few
  few_of : (frames : List FrozenFrame) (pending : Pending) → is_good_pending code heap frames pending ≡ true → length (arguments_of pending) ≤ 255
  few_of frames (Send receiver sel arguments site) good =
      let one = and_parts (not (is_below frames) && is_live code heap receiver) _ good in
      let two = and_parts (takes_arguments code sel (length arguments) && nat_le (length arguments) 255) (are_live code heap arguments && is_site code site) one.1 in
      leb-true (length arguments) 255 ((and_parts (takes_arguments code sel (length arguments)) (nat_le (length arguments) 255) two.0).1)
  few_of frames (Perform receiver sel array site) good = omega arith
  few_of frames (Evaluate block arguments site) good =
      let one = and_parts (is_block heap block && nat_le (length arguments) 255) (are_live code heap arguments && is_site code site) good in
      leb-true (length arguments) 255 ((and_parts (is_block heap block) (nat_le (length arguments) 255) one.0).1)

  pub arguments_fit : (room : ℕ) → is_good_rest code heap frozen ≡ true → 255 ≤ room → ArgumentsFit frozen.pending room
  arguments_fit room good enough one is =
      let parts = and_parts (are_counted heap frozen && is_deep frozen.ending frozen.used.depth (length frozen.frames)) _ good in
      let rest = and_parts (is_phased frozen) (is_good_waiting code heap frozen.frames frozen.pending && is_good_end code heap frozen.phase frozen.ending) parts.1 in
      let waits = and_parts (is_good_waiting code heap frozen.frames frozen.pending) (is_good_end code heap frozen.phase frozen.ending) rest.1 in
      let few = few_of frozen.frames one (ap (is_good_waiting code heap frozen.frames) (sym is) ∙ waits.0) in
      omega (arith, few, enough)

  -- there is room for the frames
  pub depth_room : (stack : Stack) (depth : ℕ) → length frozen.frames ≤ depth → depth ≤ stack.frames.room → depth * greatest_of code.bodies + 1 ≤ stack.values.room
      → HasDepthRoom code (length frozen.frames) stack
  depth_room stack depth few frames values = record {
    frames = omega (arith, few, frames);
    values =
        let all : length frozen.frames * greatest_of code.bodies ≤ depth * greatest_of code.bodies =
        mul-le (length frozen.frames) (greatest_of code.bodies) depth (greatest_of code.bodies) few (omega arith) in
        omega (arith, all, values);
  }

  -- ---- the whole

  pub thawed_ended : (first : ℕ) (old : Core) (new : Run) (phase : Phase) (ending : Ending) → RunIsPut code frozen old.run new
      → phase_shown phase ≡ phase_thawed arguments frozen.phase → frozen.ending ≡ Some ending
      → IsThawed code first frozen old (record old { run = new; phase = phase; ending = ending }) (to.Begun next.Ended)
  thawed_ended first old new phase ending put phased is = record {
    state =
        ap (λ (p : run.Phase). Ended ending p (act.progress_of new)) phased
        ∙ (ap (Ended ending (phase_thawed arguments frozen.phase)) put.progress ∙ ap (state_at code frozen progress arguments frozen.pending) (sym is));
    stand = tt;
    memo = put.memo;
    stays = record {
      world = put.world;
      values = refl;
      frames = refl;
      arguments = refl;
      count = refl;
      below = λ k less. refl;
    };
  }

  pub thawed_standing : (first : ℕ) (old new : Core) (done : Run) (phase : Phase) (result : Thawed) → RunIsPut code frozen old.run done → frozen.ending ≡ None
      → StandingIsPut code first frozen (record old { run = done; phase = phase }) new result → IsThawed code first frozen old new result
  thawed_standing first old new done phase result put none standing = record {
    state =
        standing.state
        ∙ (ap (λ (p : Progress). state_at code frozen p arguments frozen.pending None) put.progress
        ∙ ap (state_at code frozen progress arguments frozen.pending) (sym none));
    stand = standing.stand;
    memo = ap_memo;
    stays = record {
      world = record {
        limits = standing.stays.world.limits ∙ put.world.limits;
        room = (standing.stays.world.room.0 ∙ put.world.room.0, standing.stays.world.room.1 ∙ put.world.room.1);
      };
      values = standing.stays.values;
      frames = standing.stays.frames;
      arguments = standing.stays.arguments;
      count = standing.stays.count;
      below = standing.stays.below;
    };
  }
    where
      ap_memo : All IsEmpty new.run.memo
      ap_memo = subst (λ (r : Run). All IsEmpty r.memo) (sym standing.run) put.memo
