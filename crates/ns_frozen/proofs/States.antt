-- A valid frozen state is what its state freezes to.
use Rattle.std.proofs.Common.{◌≡◌, ℕ, zero, suc, ◌≤◌, List, [], ◌∷◌, length, refl, ap, sym, ◌∙◌, Option, Some, None, Bool, true, false, cond, not, ◌&&◌, arith}
use Rattle.std.proofs.lemmas.Bool.{and_parts, eqb-true, le-ltb, leb-true, or_parts, not-true, cond-true, cond-false}
use Rattle.std.specs.Prelude.{◌==◌, nat_lt, nat_le, option_map, is_some, if◌then◌else◌}
use Rattle.std.specs.Option.{option_or}
use Rattle.ns_code.specs.declared.program.CodeProgram.{CodeProgram}
use Rattle.ns_world.specs.declared.ending.Ending.{Ending}
use Rattle.ns_world.specs.declared.ending.Counters.{Counters}
use Rattle.ns_world.specs.Heap.{Heap, heap_size}
use Rattle.ns_frozen.specs.declared.cell.CellData.{CellData}
use Rattle.ns_frozen.specs.declared.frame.FrozenFrame.{FrozenFrame}
use Rattle.ns_frozen.specs.declared.pending.Pending.{Pending}
use Rattle.ns_frozen.specs.declared.fault.RestoreFault.TheVariants.{BadCell, BadFrame, BadRest}
use Rattle.ns_frozen.specs.declared.frozen.Frozen.{Frozen}
use Rattle.ns_frozen.specs.Freezing.{cells_frozen, phase_frozen, pending_frozen, frames_frozen, frozen_at, frozen_of}
use Rattle.ns_frozen.specs.Thawing.{heap_thawed, is_below, frames_thawed, pending_thawed, arguments_in, phase_thawed, progress_thawed, going_thawed, state_at, thawed}
use Rattle.ns_frozen.specs.Cells.{bad_cell}
use Rattle.ns_frozen.specs.Frames.{above_all, bad_frame}
use Rattle.ns_frozen.specs.Rest.{are_counted, is_deep, is_phased, goes_on, is_good_waiting, is_good_end, is_good_rest}
use Rattle.ns_frozen.specs.Fault.{IsValid}
use Rattle.ns_frozen.proofs.Cells.{cells_back}
use Rattle.ns_frozen.proofs.Numbers.{phase_back, pending_back}
use Rattle.ns_frozen.proofs.Framed.{all_back}

-- ---- the parts of validity

none_or : {A B C : Type 0} (f : A → C) (g : B → C) (c : C) (one : Option A) (two : Option B) (b : Bool) → option_or (option_map f one) (option_or (option_map g two) (cond b None (Some c))) ≡ None
    → (one ≡ None) × (two ≡ None) × (b ≡ true)
none_or f g c None None true e = (refl, refl, refl)
none_or f g c None None false e = absurd (cc)
none_or f g c None (Some two) b e = absurd (cc)
none_or f g c (Some one) two b e = absurd (cc)

-- What a valid frozen state has: no bad cell, no bad frame, and the rest.
pub record HasParts (code : CodeProgram) (frozen : Frozen) : Type 0 where
  pub cells : bad_cell code (heap_thawed code frozen.cells) frozen ≡ None
  pub frames : bad_frame code (heap_thawed code frozen.cells) frozen ≡ None
  pub counted : are_counted (heap_thawed code frozen.cells) frozen ≡ true
  pub deep : is_deep frozen.ending frozen.used.depth (length frozen.frames) ≡ true
  pub phased : is_phased frozen ≡ true
  pub waiting : is_good_waiting code (heap_thawed code frozen.cells) frozen.frames frozen.pending ≡ true
  pub ends : is_good_end code (heap_thawed code frozen.cells) frozen.phase frozen.ending ≡ true

pub has_parts : (code : CodeProgram) (frozen : Frozen) → IsValid code frozen → HasParts code frozen
has_parts code frozen e =
    let heap : Heap = heap_thawed code frozen.cells in
    let three = none_or BadCell BadFrame BadRest (bad_cell code heap frozen) (bad_frame code heap frozen) (is_good_rest code heap frozen) e in
    let rest = and_parts (are_counted heap frozen && is_deep frozen.ending frozen.used.depth (length frozen.frames)) _ three.2 in
    let first = and_parts (are_counted heap frozen) (is_deep frozen.ending frozen.used.depth (length frozen.frames)) rest.0 in
    let more = and_parts (is_phased frozen) _ rest.1 in
    let last = and_parts (is_good_waiting code heap frozen.frames frozen.pending) (is_good_end code heap frozen.phase frozen.ending) more.1 in
    record { cells = three.0; frames = three.1; counted = first.0; deep = first.1; phased = more.0; waiting = last.0; ends = last.1 }

-- the counters that are written twice
used_back : (heap : Heap) (frozen : Frozen) → are_counted heap frozen ≡ true
    → record { steps = frozen.used.steps; cells = heap_size heap; depth = frozen.used.depth; out = length frozen.output } ≡ frozen.used
used_back heap frozen e =
    let a = and_parts (nat_le frozen.used.steps frozen.limits.steps && nat_le frozen.used.cells frozen.limits.cells) _ e in
    let b = and_parts (nat_le frozen.used.depth frozen.limits.depth && nat_le frozen.used.out frozen.limits.out) _ a.1 in
    let c = and_parts (nat_le frozen.homes frozen.used.steps) _ b.1 in
    let d = and_parts (frozen.used.cells == heap_size heap) (frozen.used.out == length frozen.output) c.1 in
    sym (ap (λ (n : ℕ). record frozen.used { cells = n }) (eqb-true frozen.used.cells (heap_size heap) d.0)
    ∙ ap (λ (n : ℕ). record frozen.used { cells = heap_size heap; out = n }) (eqb-true frozen.used.out (length frozen.output) d.1))

-- ---- whole states

-- all that is told but the phase, what is pending, the ending and the frames
rest_back : (code : CodeProgram) (frozen : Frozen) → are_counted (heap_thawed code frozen.cells) frozen ≡ true
    → frozen_at frozen.grants (progress_thawed code frozen) frozen.phase frozen.pending frozen.ending frozen.frames ≡ frozen
rest_back code frozen e =
    ap (λ (used : Counters). record frozen { used = used; cells = cells_frozen (heap_thawed code frozen.cells) }) (used_back (heap_thawed code frozen.cells) frozen e)
    ∙ ap (λ (cells : List CellData). record frozen { cells = cells }) (cells_back code frozen.cells)

pub none_below : (frames : List FrozenFrame) → is_below frames ≡ false → frames ≡ []
none_below [] e = refl
none_below (frame ∷ frames) e = absurd (cc)

not_some : {A : Type 0} (o : Option A) → is_some o ≡ false → o ≡ None
not_some None e = refl
not_some (Some x) e = absurd (cc)

-- nothing goes on
pub stopped : (frozen : Frozen) → not (goes_on frozen) ≡ true → (frozen.frames ≡ []) × (frozen.pending ≡ None)
stopped frozen e =
    let parts = or_parts (is_below frozen.frames) (is_some frozen.pending) (not-true (goes_on frozen) e) in
    (none_below frozen.frames parts.0, not_some frozen.pending parts.1)

-- a state without an ending in which nothing was begun has no frame
unbegun_back : (code : CodeProgram) (frozen : Frozen) (arguments phase : ℕ) → phase ≤ 3
    → frames_frozen code false (frames_thawed code false frozen.frames) ≡ frozen.frames → (phase ≡ 0 → frozen.frames ≡ [])
    → frozen_of code frozen.grants (going_thawed (phase_thawed arguments phase) (frames_thawed code false frozen.frames) (progress_thawed code frozen) arguments)
    ≡ frozen_at frozen.grants (progress_thawed code frozen) phase None None frozen.frames
unbegun_back code frozen arguments zero few frames none = ap (λ (list : List FrozenFrame). frozen_at frozen.grants (progress_thawed code frozen) 0 None None list) (sym (none refl))
unbegun_back code frozen arguments (suc zero) few frames none = ap (λ (list : List FrozenFrame). frozen_at frozen.grants (progress_thawed code frozen) 1 None None list) frames
unbegun_back code frozen arguments (suc (suc zero)) few frames none = ap (λ (list : List FrozenFrame). frozen_at frozen.grants (progress_thawed code frozen) 2 None None list) frames
unbegun_back code frozen arguments (suc (suc (suc zero))) few frames none = ap (λ (list : List FrozenFrame). frozen_at frozen.grants (progress_thawed code frozen) 3 None None list) frames
unbegun_back code frozen arguments (suc (suc (suc (suc more)))) few frames none = absurd (omega (arith, few))

-- A valid frozen state is what its state freezes to.
pub freezes_back : (code : CodeProgram) (frozen : Frozen) → IsValid code frozen → frozen_of code frozen.grants (thawed code frozen) ≡ frozen
freezes_back code frozen valid = by frozen.pending refl frozen.ending refl ∙ rest_back code frozen p.counted
  where
    p : HasParts code frozen
    p = has_parts code frozen valid

    arguments : ℕ
    arguments = arguments_in code frozen.grants (heap_thawed code frozen.cells)

    few : frozen.phase ≤ 3
    few = leb-true frozen.phase 3 ((and_parts (nat_le frozen.phase 3) _ p.phased).0)

    phase_is : phase_frozen (phase_thawed arguments frozen.phase) ≡ frozen.phase
    phase_is = phase_back arguments frozen.phase few

    at : ℕ → Option Pending → Option Ending → List FrozenFrame → Frozen
    at = frozen_at frozen.grants (progress_thawed code frozen)

    frames_are : frames_frozen code (is_some frozen.pending) (frames_thawed code (is_some frozen.pending) frozen.frames) ≡ frozen.frames
    frames_are = all_back code (heap_thawed code frozen.cells) frozen.homes (above_all frozen.pending) (is_some frozen.pending) frozen.frames p.frames

    begun : (if is_some frozen.ending then not (goes_on frozen) else (if nat_lt 0 frozen.phase then goes_on frozen else not (goes_on frozen))) ≡ true
    begun = (and_parts (nat_le frozen.phase 3) _ p.phased).1

    none : frozen.ending ≡ None → frozen.phase ≡ 0 → frozen.frames ≡ []
    none e z =
        (stopped frozen
        (sym (cond-false (nat_lt 0 frozen.phase) (goes_on frozen) (not (goes_on frozen)) (le-ltb 0 frozen.phase (omega (arith, z))))
        ∙ (sym (cond-false (is_some frozen.ending) (not (goes_on frozen)) _ (ap is_some e)) ∙ begun))).0

    by : (waits : Option Pending) → frozen.pending ≡ waits → (ending : Option Ending) → frozen.ending ≡ ending
        → frozen_of code frozen.grants (state_at code frozen (progress_thawed code frozen) arguments waits ending) ≡ at frozen.phase frozen.pending frozen.ending frozen.frames
    by waits w (Some ending) e =
        let s = stopped frozen (sym (cond-true (is_some frozen.ending) (not (goes_on frozen)) _ (ap is_some e)) ∙ begun) in
        ap (λ n. at n None (Some ending) []) phase_is
        ∙ (ap (λ o. at frozen.phase o (Some ending) []) (sym s.1)
        ∙ (ap (λ o. at frozen.phase frozen.pending o []) (sym e) ∙ ap (λ list. at frozen.phase frozen.pending frozen.ending list) (sym s.0)))
    by (Some waits) w None e =
        let frames : frames_frozen code true (frames_thawed code true frozen.frames) ≡ frozen.frames =
        ap (λ o. frames_frozen code (is_some o) (frames_thawed code (is_some o) frozen.frames)) (sym w) ∙ frames_are in
        ap (λ n. at n (Some (pending_frozen (pending_thawed waits))) None (frames_frozen code true (frames_thawed code true frozen.frames))) phase_is
        ∙ (ap (λ list. at frozen.phase (Some (pending_frozen (pending_thawed waits))) None list) frames
        ∙ (ap (λ one. at frozen.phase (Some one) None frozen.frames) (pending_back waits)
        ∙ (ap (λ o. at frozen.phase o None frozen.frames) (sym w) ∙ ap (λ o. at frozen.phase frozen.pending o frozen.frames) (sym e))))
    by None w None e =
        let frames : frames_frozen code false (frames_thawed code false frozen.frames) ≡ frozen.frames =
        ap (λ o. frames_frozen code (is_some o) (frames_thawed code (is_some o) frozen.frames)) (sym w) ∙ frames_are in
        unbegun_back code frozen arguments frozen.phase few frames (none e)
        ∙ (ap (λ o. at frozen.phase o None frozen.frames) (sym w) ∙ ap (λ o. at frozen.phase frozen.pending o frozen.frames) (sym e))
