-- A state in which a run can be is valid as plain data.
use Rattle.std.proofs.Common.{◌≡◌, ℕ, List, [], ◌∷◌, ◌++◌, length, drop, reverse, refl, ap, sym, ◌∙◌, arith, Option, Some, None, Bool, true, false, cond, not, ◌&&◌, ◌||◌}
use Rattle.std.proofs.lemmas.Bool.{and_from, or_left, or_right, eq-eqb, le-leb}
use Rattle.std.proofs.lemmas.List.{length-reverse, reverse-append}
use Rattle.std.specs.Prelude.{nat_le, ◌==◌, is_some, IsTrue, option_map}
use Rattle.std.specs.Option.{option_or}
use Rattle.std.specs.List.{list_all}
use Rattle.ns_base.specs.declared.selector.Sel.{Sel}
use Rattle.ns_code.specs.declared.program.CodeProgram.{CodeProgram}
use Rattle.ns_code.specs.Soundness.{block_kind}
use Rattle.ns_code.specs.Selector.{is_selector_number, selector_arity}
use Rattle.ns_world.specs.declared.value.Value.{Value}
use Rattle.ns_world.specs.declared.value.Value.TheVariants.{Ref}
use Rattle.ns_world.specs.declared.ending.Ending.{Ending}
use Rattle.ns_world.specs.declared.ending.Ending.TheVariants.{Done, Error, Limit}
use Rattle.ns_world.specs.declared.ending.LimitKind.TheVariants.{Steps, Cells, Depth, Out}
use Rattle.ns_world.specs.Cell.{Cell}
use Rattle.ns_world.specs.Heap.{Heap, heap_size}
use Rattle.ns_world.specs.Lawful.{IsLawful}
use Rattle.ns_kdata.specs.Arguments.{items_of, is_array}
use Rattle.ns_facets.specs.declared.row.Grants.{Grants}
use Rattle.ns_moves.specs.Blocks.{is_block}
use Rattle.ns_moves.specs.Control.{Progress, FromMethod, FromBody, FromClause}
use Rattle.ns_moves.specs.Lawful.{FitsSelector}
use Rattle.ns_moves.specs.Fitting.{kind_of}
use Rattle.ns_moves.specs.Start.{standing_cells, size_of_cells}
use Rattle.ns_moves.specs.State as run
use Rattle.ns_moves.specs.State.{Frame, Running, Looping, Loud, Silent, Sending, Performing, Evaluating, Phase, Start, First, Second, Hosted, State, Unbegun, Going, Pends, Ended, Stuck}
use Rattle.ns_moves.specs.Valid.{WorldIsValid, HasArgumentCells, HasArgumentsIn, PendingIsValid, EndIsValid, GoesOn, Valid, fitting, has_begun, has_frame}
use Rattle.ns_moves.specs.ValidFrames.{Nothing, SendValue, BlockValue, awaited_for, homes_fall, FramesAreValid}
use Rattle.ns_frozen.specs.declared.frame.FrameKind.TheVariants as kinds
use Rattle.ns_frozen.specs.declared.frame.FrozenFrame.{FrozenFrame}
use Rattle.ns_frozen.specs.declared.pending.Pending.{Pending}
use Rattle.ns_frozen.specs.declared.fault.RestoreFault.TheVariants.{BadCell, BadFrame, BadRest}
use Rattle.ns_frozen.specs.declared.frozen.Frozen.{Frozen}
use Rattle.ns_frozen.specs.Freezing.{pending_frozen, phase_frozen, kind_frozen, frame_frozen, frames_down, frames_frozen, frozen_at, frozen_of}
use Rattle.ns_frozen.specs.Thawing.{is_below}
use Rattle.ns_frozen.specs.Live.{is_live, are_live}
use Rattle.ns_frozen.specs.Cells.{has_elements_for, wants_arguments, first_cells, bad_cell, bad_cell_from}
use Rattle.ns_frozen.specs.Frames.{Free, Waiting, is_site, bad_frame, bad_frame_from}
use Rattle.ns_frozen.specs.Rest.{are_counted, is_deep, is_phased, is_kernel, is_on_kernel, takes_arguments, is_good_waiting, is_good_end, is_good_rest}
use Rattle.ns_frozen.specs.Fault.{fault_in, IsValid}
use Rattle.ns_frozen.proofs.Tests.{live_told, lives_told, site_told}
use Rattle.ns_frozen.proofs.CellsTold.{stands_itself, start_stands, fitting_stands, HaveArguments, cells_told}
use Rattle.ns_frozen.proofs.FramesTold.{frames_told}
use Rattle.ns_frozen.proofs.Told.{heap_there, ended_lawful}

-- ---- the parts of validity

-- What is asked of the parts of a frozen state, in a heap.
record HasNoFault (code : CodeProgram) (heap : Heap) (frozen : Frozen) : Type 0 where
  cells : bad_cell code heap frozen ≡ None
  frames : bad_frame code heap frozen ≡ None
  counted : are_counted heap frozen ≡ true
  deep : is_deep frozen.ending frozen.used.depth (length frozen.frames) ≡ true
  phased : is_phased frozen ≡ true
  waiting : is_good_waiting code heap frozen.frames frozen.pending ≡ true
  ends : is_good_end code heap frozen.phase frozen.ending ≡ true

no_fault : (code : CodeProgram) (heap : Heap) (frozen : Frozen) → HasNoFault code heap frozen → fault_in code heap frozen ≡ None
no_fault code heap frozen p =
    let rest : is_good_rest code heap frozen ≡ true =
    and_from (are_counted heap frozen && is_deep frozen.ending frozen.used.depth (length frozen.frames)) _
    (and_from (are_counted heap frozen) (is_deep frozen.ending frozen.used.depth (length frozen.frames)) p.counted p.deep)
    (and_from (is_phased frozen) _ p.phased (and_from (is_good_waiting code heap frozen.frames frozen.pending) (is_good_end code heap frozen.phase frozen.ending) p.waiting p.ends)) in
    ap (λ o. option_or (option_map BadCell o) (option_or (option_map BadFrame (bad_frame code heap frozen)) (cond (is_good_rest code heap frozen) None (Some BadRest)))) p.cells
    ∙ (ap (λ o. option_or (option_map BadFrame o) (cond (is_good_rest code heap frozen) None (Some BadRest))) p.frames
    ∙ ap (λ b. cond b None (Some BadRest)) rest)

module _ (code : CodeProgram) (grants : Grants) (progress : Progress) where
  abbrev heap : Heap
  heap = progress.world.cells

  -- it is enough to look in the heap that is there
  thawed_fault : (phase : ℕ) (waits : Option Pending) (ending : Option Ending) (frames : List FrozenFrame) → IsLawful progress.world code
      → HasNoFault code heap (frozen_at grants progress phase waits ending frames) → IsValid code (frozen_at grants progress phase waits ending frames)
  thawed_fault phase waits ending frames lawful p =
      ap (λ h. fault_in code h (frozen_at grants progress phase waits ending frames)) (heap_there code progress lawful) ∙ no_fault code heap (frozen_at grants progress phase waits ending frames) p

  -- ---- the rest

  counted_told : (phase : ℕ) (waits : Option Pending) (ending : Option Ending) (frames : List FrozenFrame) (first : List Cell) → WorldIsValid code first progress → are_counted heap (frozen_at grants progress phase waits ending frames) ≡ true
  counted_told phase waits ending frames first v =
      let w = v.lawful.within in
      and_from (nat_le progress.world.steps progress.world.limits.steps && nat_le (heap_size heap) progress.world.limits.cells) _
      (and_from (nat_le progress.world.steps progress.world.limits.steps) (nat_le (heap_size heap) progress.world.limits.cells)
      (le-leb progress.world.steps progress.world.limits.steps w.steps) (le-leb (heap_size heap) progress.world.limits.cells w.cells))
      (and_from (nat_le progress.world.depth progress.world.limits.depth && nat_le (length progress.world.output) progress.world.limits.out) _
      (and_from (nat_le progress.world.depth progress.world.limits.depth) (nat_le (length progress.world.output) progress.world.limits.out)
      (le-leb progress.world.depth progress.world.limits.depth w.depth) (le-leb (length progress.world.output) progress.world.limits.out w.out))
      (and_from (nat_le progress.begun progress.world.steps) _ (le-leb progress.begun progress.world.steps v.begun)
      (and_from (heap_size heap == heap_size heap) (length progress.world.output == length progress.world.output) (eq-eqb (heap_size heap) (heap_size heap) refl) (eq-eqb (length progress.world.output) (length progress.world.output) refl))))

  length_down : (waits : Bool) (frames : List Frame) → length (frames_down code waits frames) ≡ length frames
  length_down waits [] = refl
  length_down waits (frame ∷ frames) = omega (arith, length_down true frames)

  length_frozen : (waits : Bool) (frames : List Frame) → length (frames_frozen code waits frames) ≡ length frames
  length_frozen waits frames = length-reverse (frames_down code waits frames) ∙ length_down waits frames

  -- the array of the arguments is asked for where nothing or the first opening send was begun
  arguments_told : (phase : Phase) → HasArgumentsIn code grants phase heap → IsTrue (has_begun phase)
      → HaveArguments (wants_arguments (phase_frozen phase) None) (size_of_cells (standing_cells code grants)) (drop (length (standing_cells code grants)) (reverse heap))
  arguments_told Start has begun = absurd (cc)
  arguments_told (First arguments) has begun = (arguments, has)
  arguments_told Second has begun = tt
  arguments_told Hosted has begun = tt

  elements_told : (sel : Sel) (array : Value) → IsTrue (is_array heap array) → FitsSelector heap code sel (items_of heap array) → has_elements_for code heap sel array ≡ true
  elements_told sel array is f =
      and_from (is_selector_number code sel.0) _ f.selector (and_from (is_array heap array) (length (items_of heap array) == selector_arity code sel.0) is (eq-eqb (length (items_of heap array)) (selector_arity code sel.0) f.arity))

  -- a run that goes on has begun
  phased_told : (phase : Phase) (waits : Option Pending) (frames : List FrozenFrame) → IsTrue (has_begun phase) → (is_below frames || is_some waits) ≡ true → is_phased (frozen_at grants progress (phase_frozen phase) waits None frames) ≡ true
  phased_told Start waits frames b g = absurd (cc)
  phased_told (First arguments) waits frames b g = g
  phased_told Second waits frames b g = g
  phased_told Hosted waits frames b g = g

  below_told : (frames : List FrozenFrame) (last : FrozenFrame) → is_below (frames ++ last ∷ []) ≡ true
  below_told [] last = refl
  below_told (frame ∷ frames) last = refl

  frames_below : (waits : Bool) (frames : List Frame) → IsTrue (has_frame frames) → is_below (frames_frozen code waits frames) ≡ true
  frames_below waits [] h = absurd (cc)
  frames_below waits (frame ∷ frames) h =
      ap is_below (reverse-append (frame_frozen code waits frame ∷ []) (frames_down code true frames)) ∙ below_told (frames_frozen code true frames) (frame_frozen code waits frame)

  -- ---- runs that go on

  -- What such a run has, with as many frames.
  record GoesOnFrom (phase : Phase) (count : ℕ) : Type 0 where
    world : WorldIsValid code (standing_cells code grants) progress
    some : IsTrue (has_begun phase)
    arguments : HasArgumentsIn code grants phase heap
    depth : progress.world.depth ≡ count

  -- whatever waits
  going_so : (phase : Phase) (waits : Option Pending) (frames : List FrozenFrame) (count : ℕ) → GoesOnFrom phase count → length frames ≡ count
      → bad_frame code heap (frozen_at grants progress (phase_frozen phase) waits None frames) ≡ None → (is_below frames || is_some waits) ≡ true → is_good_waiting code heap frames waits ≡ true
      → HasNoFault code heap (frozen_at grants progress (phase_frozen phase) waits None frames)
  going_so phase waits frames count g l b e w = record {
    cells = cells_told code (standing_cells code grants) (wants_arguments (phase_frozen phase) None) (size_of_cells (standing_cells code grants)) progress g.world (start_stands code grants) (arguments_told phase g.arguments g.some);
    frames = b;
    counted = counted_told (phase_frozen phase) waits None frames (standing_cells code grants) g.world;
    deep = eq-eqb progress.world.depth (length frames) (g.depth ∙ sym l);
    phased = phased_told phase waits frames g.some e;
    waiting = w;
    ends = refl;
  }

  going_told : (phase : Phase) (frames : List Frame) → GoesOn code grants phase frames progress → IsTrue (has_frame frames) → FramesAreValid code progress Nothing frames
      → HasNoFault code heap (frozen_at grants progress (phase_frozen phase) None None (frames_frozen code false frames))
  going_told phase frames g h v =
      going_so phase None (frames_frozen code false frames) (length frames) (record { world = g.world; some = g.some; arguments = g.arguments; depth = g.depth }) (length_frozen false frames)
      ((frames_told code progress g.world.lawful Nothing Free progress.begun frames refl v g.homes).0)
      (or_left (is_below (frames_frozen code false frames)) false (frames_below false frames h)) refl

  -- ---- what is pending

  kernel_last : (frames : List FrozenFrame) (last : FrozenFrame) → is_on_kernel (frames ++ last ∷ []) ≡ is_kernel last.kind
  kernel_last [] last = refl
  kernel_last (frame ∷ []) last = refl
  kernel_last (frame ∷ next ∷ frames) last = kernel_last (next ∷ frames) last

  no_kernel : (leaving : run.Leaving) (body : ℕ) → is_kernel (kind_frozen code leaving body) ≡ false
  no_kernel Silent body = refl
  no_kernel (Loud FromMethod) body = refl
  no_kernel (Loud (FromClause object holder class)) body = refl
  no_kernel (Loud FromBody) body = either (kind_of code body == block_kind)
    where
      either : (b : Bool) → is_kernel (cond b (kinds.Block body) (kinds.Initialiser body)) ≡ false
      either true = refl
      either false = refl

  -- a send isn't performed on a method of the kernel
  not_on_kernel : (frames : List Frame) → FramesAreValid code progress SendValue frames → is_on_kernel (frames_frozen code true frames) ≡ false
  not_on_kernel [] v = refl
  not_on_kernel (Looping method state site ∷ frames) v = absurd (cc (v.0.waits))
  not_on_kernel (Running leaving activation locals rest stack ∷ frames) v =
      ap is_on_kernel (reverse-append (frame_frozen code true (Running leaving activation locals rest stack) ∷ []) (frames_down code true frames))
      ∙ (kernel_last (frames_frozen code true frames) (frame_frozen code true (Running leaving activation locals rest stack)) ∙ no_kernel leaving activation.body)

  pending_told : (pending : run.Pending) (frames : List Frame) → PendingIsValid code heap pending frames → FramesAreValid code progress (awaited_for pending) frames
      → is_good_waiting code heap (frames_frozen code true frames) (Some (pending_frozen pending)) ≡ true
  pending_told (Sending receiver sel arguments site) frames p v =
      and_from (not (is_below (frames_frozen code true frames)) && is_live code heap receiver) _
      (and_from (not (is_below (frames_frozen code true frames))) (is_live code heap receiver) (ap (λ list. not (is_below (frames_frozen code true list))) p.0) (live_told heap code receiver p.1.live))
      (and_from (takes_arguments code sel (length arguments) && nat_le (length arguments) 255) _
      (and_from (takes_arguments code sel (length arguments)) (nat_le (length arguments) 255)
      (and_from (is_selector_number code sel.0) (length arguments == selector_arity code sel.0) p.2.selector (eq-eqb (length arguments) (selector_arity code sel.0) p.2.arity)) (le-leb (length arguments) 255 p.1.few))
      (and_from (are_live code heap arguments) (is_site code site) (lives_told heap code arguments p.2.live) (site_told code site p.3)))
  pending_told (Performing receiver sel array site) frames p v =
      and_from (not (is_on_kernel (frames_frozen code true frames)) && is_live code heap receiver) _
      (and_from (not (is_on_kernel (frames_frozen code true frames))) (is_live code heap receiver) (ap not (not_on_kernel frames v)) (live_told heap code receiver p.0))
      (and_from (has_elements_for code heap sel (Ref array)) (is_site code site) (elements_told sel (Ref array) p.1 p.2) (site_told code site p.3))
  pending_told (Evaluating block arguments site) frames p v =
      and_from (is_block heap block && nat_le (length arguments) 255) _ (and_from (is_block heap block) (nat_le (length arguments) 255) p.0 (le-leb (length arguments) 255 p.1))
      (and_from (are_live code heap arguments) (is_site code site) (lives_told heap code arguments p.2) (site_told code site p.3))

  pends_frames : (pending : run.Pending) (frames : List Frame) → IsLawful progress.world code → FramesAreValid code progress (awaited_for pending) frames → IsTrue (homes_fall progress.begun frames)
      → bad_frame_from code heap progress.begun Waiting 0 0 (frames_frozen code true frames) ≡ None
  pends_frames (Sending receiver sel arguments site) frames l v h = (frames_told code progress l SendValue Waiting progress.begun frames refl v h).0
  pends_frames (Performing receiver sel array site) frames l v h = (frames_told code progress l SendValue Waiting progress.begun frames refl v h).0
  pends_frames (Evaluating block arguments site) frames l v h = (frames_told code progress l BlockValue Waiting progress.begun frames (refl, refl) v h).0

  pends_told : (phase : Phase) (pending : run.Pending) (frames : List Frame) → GoesOn code grants phase frames progress → PendingIsValid code heap pending frames → FramesAreValid code progress (awaited_for pending) frames
      → HasNoFault code heap (frozen_at grants progress (phase_frozen phase) (Some (pending_frozen pending)) None (frames_frozen code true frames))
  pends_told phase pending frames g p v =
      going_so phase (Some (pending_frozen pending)) (frames_frozen code true frames) (length frames) (record { world = g.world; some = g.some; arguments = g.arguments; depth = g.depth }) (length_frozen true frames)
      (pends_frames pending frames g.world.lawful v g.homes) (or_right (is_below (frames_frozen code true frames)) true refl) (pending_told pending frames p v)

  unbegun_told : (arguments : ℕ) → WorldIsValid code (standing_cells code grants) progress → HasArgumentCells code grants arguments heap → progress.world.depth ≡ 0
      → HasNoFault code heap (frozen_at grants progress 0 None None [])
  unbegun_told arguments w a d = record {
    cells = cells_told code (standing_cells code grants) true (size_of_cells (standing_cells code grants)) progress w (start_stands code grants) (arguments, a);
    frames = refl;
    counted = counted_told 0 None None [] (standing_cells code grants) w;
    deep = eq-eqb progress.world.depth 0 d;
    phased = refl;
    waiting = refl;
    ends = refl;
  }

  -- ---- runs that have ended

  ended_so : (phase : ℕ) (ending : Ending) (first : List Cell) → list_all stands_itself first ≡ true → WorldIsValid code first progress → first_cells code (frozen_at grants progress phase None (Some ending) []) ≡ first
      → is_deep (Some ending) progress.world.depth 0 ≡ true → is_phased (frozen_at grants progress phase None (Some ending) []) ≡ true → is_good_end code heap phase (Some ending) ≡ true
      → HasNoFault code heap (frozen_at grants progress phase None (Some ending) [])
  ended_so phase ending first s w f d p e = record {
    cells = ap (λ list. bad_cell_from code heap progress.begun list false 0 0 (reverse heap)) f ∙ cells_told code first false 0 progress w s tt;
    frames = refl;
    counted = counted_told phase None (Some ending) [] first w;
    deep = d;
    phased = p;
    waiting = refl;
    ends = e;
  }

  ended_told : (ending : Ending) (phase : Phase) → EndIsValid code grants ending phase progress → HasNoFault code heap (frozen_at grants progress (phase_frozen phase) None (Some ending) [])
  ended_told (Limit Cells) Start v =
      ended_so 0 (Limit Cells) (fitting progress.world.limits.cells 0 (standing_cells code grants)) (fitting_stands progress.world.limits.cells 0 (standing_cells code grants) (start_stands code grants)) v refl refl refl refl
  ended_told (Limit Steps) Start v = absurd v
  ended_told (Limit Depth) Start v = absurd v
  ended_told (Limit Out) Start v = absurd v
  ended_told (Done value) Start v = absurd v
  ended_told (Error error) Start v = absurd v
  ended_told (Done value) (First arguments) v = absurd v
  ended_told (Done value) Second v = ended_so 2 (Done value) (standing_cells code grants) (start_stands code grants) v.0 refl (eq-eqb progress.world.depth 0 v.1.1) refl (live_told heap code value v.1.0)
  ended_told (Done value) Hosted v = ended_so 3 (Done value) (standing_cells code grants) (start_stands code grants) v.0 refl (eq-eqb progress.world.depth 0 v.1.1) refl (live_told heap code value v.1.0)
  ended_told (Error error) (First arguments) v = ended_so 1 (Error error) (standing_cells code grants) (start_stands code grants) v.0 refl refl refl (site_told code (record { place = error.place; class = error.class; sel = error.sel }) v.1)
  ended_told (Limit Steps) (First arguments) v = ended_so 1 (Limit Steps) (standing_cells code grants) (start_stands code grants) v.0 refl refl refl refl
  ended_told (Limit Cells) (First arguments) v = ended_so 1 (Limit Cells) (standing_cells code grants) (start_stands code grants) v.0 refl refl refl refl
  ended_told (Limit Depth) (First arguments) v = ended_so 1 (Limit Depth) (standing_cells code grants) (start_stands code grants) v.0 refl refl refl refl
  ended_told (Limit Out) (First arguments) v = ended_so 1 (Limit Out) (standing_cells code grants) (start_stands code grants) v.0 refl refl refl refl
  ended_told (Error error) Second v = ended_so 2 (Error error) (standing_cells code grants) (start_stands code grants) v.0 refl refl refl (site_told code (record { place = error.place; class = error.class; sel = error.sel }) v.1)
  ended_told (Limit Steps) Second v = ended_so 2 (Limit Steps) (standing_cells code grants) (start_stands code grants) v.0 refl refl refl refl
  ended_told (Limit Cells) Second v = ended_so 2 (Limit Cells) (standing_cells code grants) (start_stands code grants) v.0 refl refl refl refl
  ended_told (Limit Depth) Second v = ended_so 2 (Limit Depth) (standing_cells code grants) (start_stands code grants) v.0 refl refl refl refl
  ended_told (Limit Out) Second v = ended_so 2 (Limit Out) (standing_cells code grants) (start_stands code grants) v.0 refl refl refl refl
  ended_told (Error error) Hosted v = ended_so 3 (Error error) (standing_cells code grants) (start_stands code grants) v.0 refl refl refl (site_told code (record { place = error.place; class = error.class; sel = error.sel }) v.1)
  ended_told (Limit Steps) Hosted v = ended_so 3 (Limit Steps) (standing_cells code grants) (start_stands code grants) v.0 refl refl refl refl
  ended_told (Limit Cells) Hosted v = ended_so 3 (Limit Cells) (standing_cells code grants) (start_stands code grants) v.0 refl refl refl refl
  ended_told (Limit Depth) Hosted v = ended_so 3 (Limit Depth) (standing_cells code grants) (start_stands code grants) v.0 refl refl refl refl
  ended_told (Limit Out) Hosted v = ended_so 3 (Limit Out) (standing_cells code grants) (start_stands code grants) v.0 refl refl refl refl

-- A state in which a run can be is valid as plain data.
pub valid_freezes : (code : CodeProgram) (grants : Grants) (state : State) → Valid code grants state → IsValid code (frozen_of code grants state)
valid_freezes code grants (Unbegun arguments progress) v = thawed_fault code grants progress 0 None None [] v.0.lawful (unbegun_told code grants progress arguments v.0 v.1 v.2)
valid_freezes code grants (Going phase frames progress) v =
    thawed_fault code grants progress (phase_frozen phase) None None (frames_frozen code false frames) v.0.world.lawful (going_told code grants progress phase frames v.0 v.1 v.2)
valid_freezes code grants (Pends phase pending frames progress) v =
    thawed_fault code grants progress (phase_frozen phase) (Some (pending_frozen pending)) None (frames_frozen code true frames) v.0.world.lawful (pends_told code grants progress phase pending frames v.0 v.1 v.2)
valid_freezes code grants (Ended ending phase progress) v =
    thawed_fault code grants progress (phase_frozen phase) None (Some ending) [] (ended_lawful code grants ending phase progress v) (ended_told code grants progress ending phase v)
valid_freezes code grants (Stuck progress) v = absurd v
