-- A valid frozen state stands for a state in which a run can be.
use Rattle.std.proofs.Common.{◌≡◌, ℕ, zero, suc, ◌+◌, ◌≤◌, List, [], ◌∷◌, length, drop, reverse, refl, ap, sym, ◌∙◌, subst, arith, Option, Some, None, Bool, true, false, cond, not, ◌&&◌, ◌||◌}
use Rattle.std.proofs.lemmas.Bool.{and_parts, cond-true, cond-false, eqb-true, leb-true, le-ltb, lt-ltb, not-true}
use Rattle.std.specs.Prelude.{IsTrue, nat_lt, nat_le, is_some, unwrap_or, if◌then◌else◌}
use Rattle.ns_code.specs.declared.program.CodeProgram.{CodeProgram}
use Rattle.ns_code.specs.Soundness.{are_parents_earlier, has_sound_classes}
use Rattle.ns_verify.specs.Verify.{IsSound}
use Rattle.ns_world.specs.declared.ending.Ending.{Ending}
use Rattle.ns_world.specs.declared.ending.Ending.TheVariants.{Done, Error, Limit}
use Rattle.ns_world.specs.declared.ending.LimitKind.TheVariants.{Steps, Cells, Depth, Out}
use Rattle.ns_world.specs.Heap.{Heap}
use Rattle.ns_world.specs.Lawful.{IsLawful}
use Rattle.ns_facets.specs.declared.row.Grants.{Grants}
use Rattle.ns_moves.specs.Control.{Progress}
use Rattle.ns_moves.specs.Start.{standing_cells, size_of_cells}
use Rattle.ns_moves.specs.State.{Frame, Pends}
use Rattle.ns_moves.specs.Valid.{fitting, array_behind, WorldIsValid, HasArgumentCells, HasArgumentsIn, EndingIsValid, EndIsValid, GoesOn, Valid, has_begun, has_frame}
use Rattle.ns_moves.specs.ValidFrames.{Nothing, SendValue, BlockValue, awaited_below, awaited_for, FramesAreValid}
use Rattle.ns_frozen.specs.declared.frame.FrameKind.{FrameKind}
use Rattle.ns_frozen.specs.declared.frame.FrameKind.TheVariants as kinds
use Rattle.ns_frozen.specs.declared.frame.FrozenFrame.{FrozenFrame}
use Rattle.ns_frozen.specs.declared.pending.Pending.{Pending}
use Rattle.ns_frozen.specs.declared.pending.Pending.TheVariants as waiting
use Rattle.ns_frozen.specs.Thawing.{heap_thawed, is_at_super, frame_thawed, is_below, frames_onto, frames_thawed, pending_thawed, arguments_in, phase_thawed, world_thawed, progress_thawed, going_thawed, state_at}
use Rattle.ns_frozen.specs.Cells.{ends_start, wants_arguments}
use Rattle.ns_frozen.specs.Frames.{Above, Free, Waiting, above_all, bad_frame_from}
use Rattle.ns_frozen.specs.Live.{is_live}
use Rattle.ns_frozen.specs.Rest.{is_deep, ends_in, goes_on, is_on_kernel, is_good_pending, is_good_waiting, is_good_ending, is_good_end}
use Rattle.ns_frozen.specs.Laws.{ValidThaws}
use Rattle.ns_frozen.proofs.CellsTold.{HaveArguments}
use Rattle.ns_frozen.proofs.FrameHolds.{and_false}
use Rattle.ns_frozen.proofs.Framed.{or_false}
use Rattle.ns_frozen.proofs.FramesHold.{awaited_by, frames_hold}
use Rattle.ns_frozen.proofs.HomesHold.{homes_thawed}
use Rattle.ns_frozen.proofs.RestHolds.{pending_holds, ending_holds}
use Rattle.ns_frozen.proofs.States.{HasParts, has_parts, none_below, stopped}
use Rattle.ns_frozen.proofs.WorldHolds.{WorldHolds, world_holds}

-- ---- how many frames there are

-- as many as those that they are made of, and those below
length_onto : (code : CodeProgram) (waits part : Bool) (below : List Frame) (frames : List FrozenFrame) → length (frames_onto code waits part below frames) ≡ length frames + length below
length_onto code waits part below [] = omega arith
length_onto code waits part below (frame ∷ frames) =
    omega (arith, length_onto code waits (is_at_super code frame.kind frame.instr) (frame_thawed code part (waits || is_below frames) frame.kind frame ∷ below) frames)

length_thawed : (code : CodeProgram) (waits : Bool) (frames : List FrozenFrame) → length (frames_thawed code waits frames) ≡ length frames
length_thawed code waits frames = omega (arith, length_onto code waits false [] frames)

onto_some : (code : CodeProgram) (waits part : Bool) (one : Frame) (below : List Frame) (frames : List FrozenFrame) → has_frame (frames_onto code waits part (one ∷ below) frames) ≡ true
onto_some code waits part one below [] = refl
onto_some code waits part one below (frame ∷ frames) =
    onto_some code waits (is_at_super code frame.kind frame.instr) (frame_thawed code part (waits || is_below frames) frame.kind frame) (one ∷ below) frames

thawed_some : (code : CodeProgram) (waits : Bool) (frames : List FrozenFrame) → is_below frames ≡ true → has_frame (frames_thawed code waits frames) ≡ true
thawed_some code waits [] e = absurd (cc)
thawed_some code waits (frame ∷ frames) e =
    onto_some code waits (is_at_super code frame.kind frame.instr) (frame_thawed code false (waits || is_below frames) frame.kind frame) [] frames

-- ---- the frames

module _ (code : CodeProgram) (progress : Progress) (lawful : IsLawful progress.world code) where
  abbrev heap : Heap
  heap = progress.world.cells

  -- the outermost frame ends no superclass part
  outermost : (b : Bool) → FramesAreValid code progress (cond b BlockValue SendValue) []
  outermost true = tt
  outermost false = tt

  none_waits : (waits : Bool) (frame : FrozenFrame) (kind : FrameKind) → FramesAreValid code progress (awaited_below code (frame_thawed code false waits kind frame)) []
  none_waits waits frame (kinds.Method body) = outermost _
  none_waits waits frame (kinds.Block body) = outermost _
  none_waits waits frame (kinds.Initialiser body) = outermost _
  none_waits waits frame (kinds.Clause body object holder class) = outermost _
  none_waits waits frame (kinds.Kernel method state) = tt

  going_frames : (frames : List FrozenFrame) → bad_frame_from code heap progress.begun Free 0 0 frames ≡ None → FramesAreValid code progress Nothing (frames_thawed code false frames)
  going_frames frames e = frames_hold code progress lawful Free Nothing 0 0 false [] frames (λ part. refl) (λ s. absurd (cc (s))) e (none frames)
    where
      none : (frames : List FrozenFrame) → FramesAreValid code progress (awaited_by code progress lawful Nothing false frames) []
      none [] = tt
      none (frame ∷ frames) = none_waits (is_below frames) frame frame.kind

  pending_frames : (pending : Pending) (frames : List FrozenFrame) → bad_frame_from code heap progress.begun Waiting 0 0 frames ≡ None → is_good_pending code heap frames pending ≡ true
      → FramesAreValid code progress (awaited_for (pending_thawed pending)) (frames_thawed code true frames)
  pending_frames (waiting.Send receiver sel arguments site) frames e p =
      let free : frames ≡ [] =
      none_below frames (not-true (is_below frames) ((and_parts (not (is_below frames)) (is_live code heap receiver) ((and_parts (not (is_below frames) && is_live code heap receiver) _ p).0)).0)) in
      subst (λ (list : List FrozenFrame). FramesAreValid code progress SendValue (frames_thawed code true list)) (sym free) tt
  pending_frames (waiting.Perform receiver sel array site) frames e p =
      let calm : is_on_kernel frames ≡ false =
      not-true (is_on_kernel frames) ((and_parts (not (is_on_kernel frames)) (is_live code heap receiver) ((and_parts (not (is_on_kernel frames) && is_live code heap receiver) _ p).0)).0) in
      frames_hold code progress lawful Waiting SendValue 0 0 false [] frames (λ part. (refl, and_false part false refl)) (λ s. calm) e (none frames)
    where
      none : (frames : List FrozenFrame) → FramesAreValid code progress (awaited_by code progress lawful SendValue false frames) []
      none [] = tt
      none (frame ∷ frames) = none_waits true frame frame.kind
  pending_frames (waiting.Evaluate block arguments site) frames e p =
      frames_hold code progress lawful Waiting BlockValue 0 0 false [] frames (λ part. (refl, refl)) (λ s. absurd (cc (s))) e (none frames)
    where
      none : (frames : List FrozenFrame) → FramesAreValid code progress (awaited_by code progress lawful BlockValue false frames) []
      none [] = tt
      none (frame ∷ frames) = none_waits true frame frame.kind

-- ---- the cells of the arguments

-- they are there where they are asked for
arguments_thaw : (code : CodeProgram) (grants : Grants) (heap : Heap) (phase : ℕ)
    → HaveArguments (wants_arguments phase None) (size_of_cells (standing_cells code grants)) (drop (length (standing_cells code grants)) (reverse heap))
    → nat_lt phase 2 ≡ true → HasArgumentCells code grants (arguments_in code grants heap) heap
arguments_thaw code grants heap phase a l = found (nat_lt phase 2) l a
  where
    behind : Option ℕ
    behind = array_behind (size_of_cells (standing_cells code grants)) (drop (length (standing_cells code grants)) (reverse heap))

    found : (b : Bool) → b ≡ true → HaveArguments b (size_of_cells (standing_cells code grants)) (drop (length (standing_cells code grants)) (reverse heap)) → behind ≡ Some (unwrap_or behind 0)
    found true l a = a.1 ∙ ap Some (sym (ap (λ o. unwrap_or o 0) a.1))
    found false l a = absurd (cc (l))

-- the same in a phase without an ending
arguments_stand : (code : CodeProgram) (grants : Grants) (heap : Heap) (phase : ℕ)
    → HaveArguments (wants_arguments phase None) (size_of_cells (standing_cells code grants)) (drop (length (standing_cells code grants)) (reverse heap))
    → HasArgumentsIn code grants (phase_thawed (arguments_in code grants heap) phase) heap
arguments_stand code grants heap zero a = tt
arguments_stand code grants heap (suc zero) a = arguments_thaw code grants heap 1 a refl
arguments_stand code grants heap (suc (suc zero)) a = tt
arguments_stand code grants heap (suc (suc (suc more))) a = tt

-- ---- endings

-- A run can end so in that phase.
ends_hold : (code : CodeProgram) (grants : Grants) (progress : Progress) (arguments phase : ℕ) (ending : Ending) → phase ≤ 3 → ends_in phase ending ≡ true
    → WorldIsValid code (if ends_start phase (Some ending) then fitting progress.world.limits.cells 0 (standing_cells code grants) else standing_cells code grants) progress
    → EndingIsValid code ending progress → EndIsValid code grants ending (phase_thawed arguments phase) progress
ends_hold code grants progress arguments zero (Limit Cells) few e w v = w
ends_hold code grants progress arguments zero (Limit Steps) few e w v = absurd (cc (e))
ends_hold code grants progress arguments zero (Limit Depth) few e w v = absurd (cc (e))
ends_hold code grants progress arguments zero (Limit Out) few e w v = absurd (cc (e))
ends_hold code grants progress arguments zero (Done value) few e w v = absurd (cc (e))
ends_hold code grants progress arguments zero (Error error) few e w v = absurd (cc (e))
ends_hold code grants progress arguments (suc zero) (Done value) few e w v = absurd (cc (e))
ends_hold code grants progress arguments (suc zero) (Error error) few e w v = (w, v)
ends_hold code grants progress arguments (suc zero) (Limit Steps) few e w v = (w, v)
ends_hold code grants progress arguments (suc zero) (Limit Cells) few e w v = (w, v)
ends_hold code grants progress arguments (suc zero) (Limit Depth) few e w v = (w, v)
ends_hold code grants progress arguments (suc zero) (Limit Out) few e w v = (w, v)
ends_hold code grants progress arguments (suc (suc zero)) (Done value) few e w v = (w, v)
ends_hold code grants progress arguments (suc (suc zero)) (Error error) few e w v = (w, v)
ends_hold code grants progress arguments (suc (suc zero)) (Limit Steps) few e w v = (w, v)
ends_hold code grants progress arguments (suc (suc zero)) (Limit Cells) few e w v = (w, v)
ends_hold code grants progress arguments (suc (suc zero)) (Limit Depth) few e w v = (w, v)
ends_hold code grants progress arguments (suc (suc zero)) (Limit Out) few e w v = (w, v)
ends_hold code grants progress arguments (suc (suc (suc zero))) (Done value) few e w v = (w, v)
ends_hold code grants progress arguments (suc (suc (suc zero))) (Error error) few e w v = (w, v)
ends_hold code grants progress arguments (suc (suc (suc zero))) (Limit Steps) few e w v = (w, v)
ends_hold code grants progress arguments (suc (suc (suc zero))) (Limit Cells) few e w v = (w, v)
ends_hold code grants progress arguments (suc (suc (suc zero))) (Limit Depth) few e w v = (w, v)
ends_hold code grants progress arguments (suc (suc (suc zero))) (Limit Out) few e w v = (w, v)
ends_hold code grants progress arguments (suc (suc (suc (suc more)))) ending few e w v = absurd (omega (arith, few))

-- ---- whole states

-- something was begun in each phase but the first
begun_at : (arguments n : ℕ) → has_begun (phase_thawed arguments (suc n)) ≡ true
begun_at arguments zero = refl
begun_at arguments (suc zero) = refl
begun_at arguments (suc (suc more)) = refl

-- A valid frozen state stands for a state in which a run can be. That sound code has sound classes and earlier parents is the verifier's.
pub valid_thaws : (code : CodeProgram) → (IsSound code → has_sound_classes code ≡ true) → (IsSound code → are_parents_earlier 0 code.bodies ≡ true) → ValidThaws code
valid_thaws code classes parents frozen stand valid = by frozen.pending refl frozen.ending refl
  where
    p : HasParts code frozen
    p = has_parts code frozen valid

    world : WorldHolds code frozen
    world = world_holds code classes parents frozen stand valid

    progress : Progress
    progress = progress_thawed code frozen

    heap : Heap
    heap = heap_thawed code frozen.cells

    arguments : ℕ
    arguments = arguments_in code frozen.grants (heap_thawed code frozen.cells)

    few : frozen.phase ≤ 3
    few = leb-true frozen.phase 3 ((and_parts (nat_le frozen.phase 3) _ p.phased).0)

    begun : (if is_some frozen.ending then not (goes_on frozen) else (if nat_lt 0 frozen.phase then goes_on frozen else not (goes_on frozen))) ≡ true
    begun = (and_parts (nat_le frozen.phase 3) _ p.phased).1

    -- without an ending
    goes : frozen.ending ≡ None → (if nat_lt 0 frozen.phase then goes_on frozen else not (goes_on frozen)) ≡ true
    goes e = sym (cond-false (is_some frozen.ending) (not (goes_on frozen)) _ (ap is_some e)) ∙ begun

    none : frozen.ending ≡ None → frozen.phase ≡ 0 → (frozen.frames ≡ []) × (frozen.pending ≡ None)
    none e z = stopped frozen (sym (cond-false (nat_lt 0 frozen.phase) (goes_on frozen) (not (goes_on frozen)) (le-ltb 0 frozen.phase (omega (arith, z)))) ∙ goes e)

    some : frozen.ending ≡ None → (n : ℕ) → frozen.phase ≡ suc n → goes_on frozen ≡ true
    some e n z = sym (cond-true (nat_lt 0 frozen.phase) (goes_on frozen) (not (goes_on frozen)) (lt-ltb 0 frozen.phase (omega (arith, z)))) ∙ goes e

    standing : frozen.ending ≡ None → WorldIsValid code (standing_cells code frozen.grants) (progress_thawed code frozen)
    standing e =
        subst (λ (o : Option Ending). WorldIsValid code (if ends_start frozen.phase o then fitting frozen.limits.cells 0 (standing_cells code frozen.grants) else standing_cells code frozen.grants) (progress_thawed code frozen))
        e world.valid

    have : frozen.ending ≡ None → HaveArguments (wants_arguments frozen.phase None) (size_of_cells (standing_cells code frozen.grants)) (drop (length (standing_cells code frozen.grants)) (reverse (heap_thawed code frozen.cells)))
    have e =
        subst (λ (o : Option Ending). HaveArguments (wants_arguments frozen.phase o) (size_of_cells (if ends_start frozen.phase o then fitting frozen.limits.cells 0 (standing_cells code frozen.grants) else standing_cells code frozen.grants))
        (drop (length (if ends_start frozen.phase o then fitting frozen.limits.cells 0 (standing_cells code frozen.grants) else standing_cells code frozen.grants)) (reverse (heap_thawed code frozen.cells))))
        e world.arguments

    depth : frozen.ending ≡ None → frozen.used.depth ≡ length frozen.frames
    depth e = eqb-true frozen.used.depth (length frozen.frames) (ap (λ o. is_deep o frozen.used.depth (length frozen.frames)) (sym e) ∙ p.deep)

    -- a run that was begun goes on
    onward : (waits : Bool) (top : Above) → frozen.ending ≡ None → bad_frame_from code (heap_thawed code frozen.cells) frozen.homes top 0 0 frozen.frames ≡ None → (n : ℕ) → frozen.phase ≡ suc n
        → GoesOn code frozen.grants (phase_thawed (arguments_in code frozen.grants (heap_thawed code frozen.cells)) (suc n)) (frames_thawed code waits frozen.frames) (progress_thawed code frozen)
    onward waits top e f n z = record {
      world = standing e;
      some = begun_at (arguments_in code frozen.grants (heap_thawed code frozen.cells)) n;
      arguments = subst (λ (m : ℕ). HasArgumentsIn code frozen.grants (phase_thawed (arguments_in code frozen.grants (heap_thawed code frozen.cells)) m) (heap_thawed code frozen.cells)) z
          (arguments_stand code frozen.grants (heap_thawed code frozen.cells) frozen.phase (have e));
      depth = depth e ∙ sym (length_thawed code waits frozen.frames);
      homes = homes_thawed code (heap_thawed code frozen.cells) frozen.homes top waits frozen.frames f;
    }

    -- with something pending
    pends : (waits : Pending) → frozen.pending ≡ Some waits → frozen.ending ≡ None → (n : ℕ) → frozen.phase ≡ n
        → Valid code frozen.grants (Pends (phase_thawed arguments n) (pending_thawed waits) (frames_thawed code true frozen.frames) (progress_thawed code frozen))
    pends waits w e zero z = absurd (cc (w, (none e z).1))
    pends waits w e (suc n) z =
        let frames : bad_frame_from code heap frozen.homes Waiting 0 0 frozen.frames ≡ None = ap (λ o. bad_frame_from code heap frozen.homes (above_all o) 0 0 frozen.frames) (sym w) ∙ p.frames in
        let good : is_good_pending code heap frozen.frames waits ≡ true = ap (λ o. is_good_waiting code heap frozen.frames o) (sym w) ∙ p.waiting in (
          onward true Waiting e frames n z,
          pending_holds code (world_thawed code frozen) world.valid.lawful frozen.frames waits good,
          pending_frames code (progress_thawed code frozen) world.valid.lawful waits frozen.frames frames good,
        )

    -- with frames alone
    running : frozen.pending ≡ None → frozen.ending ≡ None → (n : ℕ) → frozen.phase ≡ suc n
        → GoesOn code frozen.grants (phase_thawed (arguments_in code frozen.grants (heap_thawed code frozen.cells)) (suc n)) (frames_thawed code false frozen.frames) (progress_thawed code frozen)
        × IsTrue (has_frame (frames_thawed code false frozen.frames)) × FramesAreValid code (progress_thawed code frozen) Nothing (frames_thawed code false frozen.frames)
    running w e n z =
        let frames : bad_frame_from code heap frozen.homes Free 0 0 frozen.frames ≡ None = ap (λ o. bad_frame_from code heap frozen.homes (above_all o) 0 0 frozen.frames) (sym w) ∙ p.frames in
        let below : is_below frozen.frames ≡ true = sym (or_false (is_below frozen.frames)) ∙ (ap (λ o. is_below frozen.frames || is_some o) (sym w) ∙ some e n z) in
        (onward false Free e frames n z, thawed_some code false frozen.frames below, going_frames code (progress_thawed code frozen) world.valid.lawful frozen.frames frames)

    -- with nothing that waits
    going : frozen.pending ≡ None → frozen.ending ≡ None → (n : ℕ) → frozen.phase ≡ n
        → Valid code frozen.grants (going_thawed (phase_thawed arguments n) (frames_thawed code false frozen.frames) (progress_thawed code frozen) arguments)
    going w e zero z = (
      standing e,
      arguments_thaw code frozen.grants (heap_thawed code frozen.cells) frozen.phase (have e) (lt-ltb frozen.phase 2 (omega (arith, z))),
      depth e ∙ ap length (none e z).0,
    )
    going w e (suc zero) z = running w e zero z
    going w e (suc (suc zero)) z = running w e (suc zero) z
    going w e (suc (suc (suc more))) z = running w e (suc (suc more)) z

    by : (waits : Option Pending) → frozen.pending ≡ waits → (ending : Option Ending) → frozen.ending ≡ ending
        → Valid code frozen.grants (state_at code frozen (progress_thawed code frozen) arguments waits ending)
    by waits w (Some ending) e =
        let s = stopped frozen (sym (cond-true (is_some frozen.ending) (not (goes_on frozen)) _ (ap is_some e)) ∙ begun) in
        let good = and_parts (ends_in frozen.phase ending) (is_good_ending code heap frozen.phase ending) (ap (is_good_end code heap frozen.phase) (sym e) ∙ p.ends) in
        let deep : is_deep (Some ending) frozen.used.depth 0 ≡ true =
        ap (λ o. is_deep o frozen.used.depth 0) (sym e) ∙ (ap (λ (list : List FrozenFrame). is_deep frozen.ending frozen.used.depth (length list)) (sym s.0) ∙ p.deep) in
        ends_hold code frozen.grants (progress_thawed code frozen) arguments frozen.phase ending few good.0
        (subst (λ (o : Option Ending). WorldIsValid code (if ends_start frozen.phase o then fitting frozen.limits.cells 0 (standing_cells code frozen.grants) else standing_cells code frozen.grants) (progress_thawed code frozen))
        e world.valid)
        (ending_holds code (progress_thawed code frozen) frozen.phase ending good.1 deep)
    by (Some waits) w None e = pends waits w e frozen.phase refl
    by None w None e = going w e frozen.phase refl
