-- What waits and how a run ended, of a valid frozen state, is what a run can have.
use Rattle.std.proofs.Common.{◌≡◌, ℕ, List, length, refl, ap, Option, Some, None, true, not, ◌&&◌}
use Rattle.std.proofs.lemmas.Bool.{and_parts, eqb-true, leb-true, not-true}
use Rattle.std.specs.Prelude.{nat_le, ◌==◌}
use Rattle.ns_code.specs.declared.program.CodeProgram.{CodeProgram}
use Rattle.ns_code.specs.Selector.{is_selector_number, selector_arity}
use Rattle.ns_world.specs.declared.value.Value.TheVariants.{Ref}
use Rattle.ns_world.specs.declared.ending.Ending.{Ending}
use Rattle.ns_world.specs.declared.ending.Ending.TheVariants.{Done, Error, Limit}
use Rattle.ns_world.specs.Cell.{Cell, ObjectCell, ClassCell, BlockCell, EnvironmentCell, ArrayCell, TextCell, FacetCell, MirrorCell, MessageCell}
use Rattle.ns_world.specs.Heap.{find_cell}
use Rattle.ns_world.specs.Lawful.{IsLiveValue, IsLawful}
use Rattle.ns_world.specs.World.{World}
use Rattle.ns_kdata.specs.Arguments.{items_of, is_array, array_items}
use Rattle.ns_moves.specs.Blocks.{is_block}
use Rattle.ns_moves.specs.Control.{Progress}
use Rattle.ns_moves.specs.Valid.{PendingIsValid, EndingIsValid}
use Rattle.std.specs.Prelude.{All}
use Rattle.std.proofs.lemmas.List.Elements.{All-nil}
use Rattle.ns_frozen.specs.declared.frame.FrozenFrame.{FrozenFrame}
use Rattle.ns_frozen.specs.declared.pending.Pending.{Pending}
use Rattle.ns_frozen.specs.declared.pending.Pending.TheVariants as waiting
use Rattle.ns_frozen.specs.Thawing.{is_below, frames_thawed, pending_thawed}
use Rattle.ns_frozen.specs.Live.{is_live, are_live}
use Rattle.ns_frozen.specs.Cells.{has_elements_for}
use Rattle.ns_frozen.specs.Frames.{is_site}
use Rattle.ns_frozen.specs.Rest.{is_deep, is_on_kernel, takes_arguments, is_good_pending, is_good_ending}
use Rattle.ns_frozen.proofs.Tests.{live_holds, lives_hold, site_holds}
use Rattle.ns_frozen.proofs.States.{none_below}

-- the elements of an array of a lawful world are live
array_live : (code : CodeProgram) (world : World) → IsLawful world code → (at : ℕ) → All (IsLiveValue world.cells code) (items_of world.cells (Ref at))
array_live code world lawful at = found (find_cell world.cells at) refl
  where
    found : (o : Option Cell) → find_cell world.cells at ≡ o → All (IsLiveValue world.cells code) (array_items o)
    found (Some (ArrayCell items)) is = lawful.cells at (ArrayCell items) is
    found None is = All-nil (IsLiveValue world.cells code)
    found (Some (ObjectCell class entries)) is = All-nil (IsLiveValue world.cells code)
    found (Some (ClassCell decl base encl holder over)) is = All-nil (IsLiveValue world.cells code)
    found (Some (BlockCell body env home receiver holder)) is = All-nil (IsLiveValue world.cells code)
    found (Some (EnvironmentCell parent locals)) is = All-nil (IsLiveValue world.cells code)
    found (Some (TextCell bytes)) is = All-nil (IsLiveValue world.cells code)
    found (Some (FacetCell kind)) is = All-nil (IsLiveValue world.cells code)
    found (Some (MirrorCell mirrored)) is = All-nil (IsLiveValue world.cells code)
    found (Some (MessageCell sel args)) is = All-nil (IsLiveValue world.cells code)

-- What is pending can be done.
pub pending_holds : (code : CodeProgram) (world : World) → IsLawful world code → (frames : List FrozenFrame) (pending : Pending) → is_good_pending code world.cells frames pending ≡ true
    → PendingIsValid code world.cells (pending_thawed pending) (frames_thawed code true frames)
pending_holds code world lawful frames (waiting.Send receiver sel arguments site) e =
    let a = and_parts (not (is_below frames) && is_live code world.cells receiver) _ e in
    let b = and_parts (not (is_below frames)) (is_live code world.cells receiver) a.0 in
    let c = and_parts (takes_arguments code sel (length arguments) && nat_le (length arguments) 255) _ a.1 in
    let d = and_parts (takes_arguments code sel (length arguments)) (nat_le (length arguments) 255) c.0 in
    let f = and_parts (is_selector_number code sel.0) (length arguments == selector_arity code sel.0) d.0 in
    let g = and_parts (are_live code world.cells arguments) (is_site code site) c.1 in (
      ap (frames_thawed code true) (none_below frames (not-true (is_below frames) b.0)),
      record { live = live_holds world.cells code receiver b.1; few = leb-true (length arguments) 255 d.1 },
      record { selector = f.0; arity = eqb-true (length arguments) (selector_arity code sel.0) f.1; live = lives_hold world.cells code arguments g.0 },
      site_holds code site g.1,
    )
pending_holds code world lawful frames (waiting.Perform receiver sel array site) e =
    let a = and_parts (not (is_on_kernel frames) && is_live code world.cells receiver) _ e in
    let b = and_parts (not (is_on_kernel frames)) (is_live code world.cells receiver) a.0 in
    let c = and_parts (has_elements_for code world.cells sel (Ref array)) (is_site code site) a.1 in
    let d = and_parts (is_selector_number code sel.0) _ c.0 in
    let f = and_parts (is_array world.cells (Ref array)) (length (items_of world.cells (Ref array)) == selector_arity code sel.0) d.1 in (
      live_holds world.cells code receiver b.1,
      f.0,
      record { selector = d.0; arity = eqb-true (length (items_of world.cells (Ref array))) (selector_arity code sel.0) f.1; live = array_live code world lawful array },
      site_holds code site c.1,
    )
pending_holds code world lawful frames (waiting.Evaluate block arguments site) e =
    let a = and_parts (is_block world.cells block && nat_le (length arguments) 255) _ e in
    let b = and_parts (is_block world.cells block) (nat_le (length arguments) 255) a.0 in
    let c = and_parts (are_live code world.cells arguments) (is_site code site) a.1 in
    (b.0, leb-true (length arguments) 255 b.1, lives_hold world.cells code arguments c.0, site_holds code site c.1)

-- A run can have ended so.
pub ending_holds : (code : CodeProgram) (progress : Progress) (phase : ℕ) (ending : Ending) → is_good_ending code progress.world.cells phase ending ≡ true → is_deep (Some ending) progress.world.depth 0 ≡ true
    → EndingIsValid code ending progress
ending_holds code progress phase (Done value) e d = (live_holds progress.world.cells code value e, eqb-true progress.world.depth 0 d)
ending_holds code progress phase (Error error) e d = site_holds code (record { place = error.place; class = error.class; sel = error.sel }) e
ending_holds code progress phase (Limit limit) e d = tt
