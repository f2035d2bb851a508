-- Classes and rows stay in a world that has made cells or written words since.
use Rattle.std.proofs.Common.{◌≡◌, ℕ, List, ◌∷◌, All, get_or, refl, sym, ◌∙◌, Option, Some, None, Bool, true, false}
use Rattle.ns_code.specs.declared.program.CodeProgram.{CodeProgram}
use Rattle.ns_world.specs.declared.value.Value.{Value}
use Rattle.ns_world.specs.Cell.{Cell, with_word, with_byte}
use Rattle.ns_world.specs.Heap.{Heap, find_cell, is_class, write_word, write_byte}
use Rattle.ns_world.specs.World.{World}
use Rattle.ns_world.specs.Lawful.{IsLawful}
use Rattle.ns_world.specs.declared.kernel.Start.{Start}
use Rattle.ns_world.specs.declared.seek.Sought.TheVariants.{Facet, Top}
use Rattle.ns_world.specs.Later.{RunsOn}
use Rattle.ns_world.specs.Seek.{first_such, is_facet, is_top}
use Rattle.ns_world.specs.laws.Changing.{word_plainly, byte_plainly}
use Rattle.ns_world.specs.laws.Twins.{word_shape, byte_shape}
use Rattle.ns_world.specs.laws.Classes.{lawful_order, same_after_making as making_keeps_classes, same_after_changing}
use Rattle.ns_world.specs.laws.Lasting.{keeps_of}
use Rattle.ns_world.specs.laws.Firsts.{first_without, first_behind, facets_after_word, tops_after_word, facets_after_byte, tops_after_byte}
use Rattle.ns_find.specs.declared.memo.Kept.{Kept}
use Rattle.ns_find.specs.declared.memo.Kept.TheVariants.{Looked, Out}
use Rattle.ns_find.specs.declared.found.Sending.{Sending}
use Rattle.ns_find.specs.declared.members.Side.{Side}
use Rattle.ns_find.specs.Find.{found_from, found_private, is_start}
use Rattle.ns_find.specs.Memo.{PlaceIsRight, AddsNoRow}
use Rattle.ns_find.proofs.Outward.{end_stays, way_stays, shapes_with_more, shapes_with_change, shapes_later}
use Rattle.ns_find.proofs.Staying.{SameRows, found_stays, private_stays, start_stays}

-- one cell more
pub same_after_making : (w : World) (code : CodeProgram) (cell : Cell) → IsLawful w code → AddsNoRow w.cells cell →
    SameRows w.cells (cell ∷ w.cells)
same_after_making w code cell l adds = record {
  same = making_keeps_classes w.cells cell (lawful_order w code l);
  facets = λ kind. first_without (is_facet kind) w.cells cell (adds.0 kind);
  tops = λ decl. tops decl (is_top decl cell) refl;
  shapes = shapes_with_more w.cells cell;
}
  where
    tops : (decl : ℕ) (b : Bool) → is_top decl cell ≡ b → first_such (is_top decl) (cell ∷ w.cells) ≡ first_such (is_top decl) w.cells
    tops decl true e = first_behind (is_top decl) w.cells cell (adds.1 decl e)
    tops decl false e = first_without (is_top decl) w.cells cell e

-- a word written
pub same_after_word : (w : World) (code : CodeProgram) (at word : ℕ) (value : Value) → IsLawful w code →
    SameRows w.cells (write_word w.cells at word value)
same_after_word w code at word value l = record {
  same = same_after_changing w.cells at (λ cell. with_word cell word value) (word_plainly word value) (lawful_order w code l);
  facets = facets_after_word w.cells at word value;
  tops = tops_after_word w.cells at word value;
  shapes = shapes_with_change w.cells at (λ cell. with_word cell word value) (word_plainly word value) (word_shape word value);
}

-- a byte written
pub same_after_byte : (w : World) (code : CodeProgram) (at place byte : ℕ) → IsLawful w code →
    SameRows w.cells (write_byte w.cells at place byte)
same_after_byte w code at place byte l = record {
  same = same_after_changing w.cells at (λ cell. with_byte cell place byte) (byte_plainly place byte) (lawful_order w code l);
  facets = facets_after_byte w.cells at place byte;
  tops = tops_after_byte w.cells at place byte;
  shapes = shapes_with_change w.cells at (λ cell. with_byte cell place byte) (byte_plainly place byte) (byte_shape place byte);
}

-- all that was made and written since
pub same_rows : (code : CodeProgram) (old new : World) → RunsOn code old new → SameRows old.cells new.cells
same_rows code old new run = record {
  same = (keeps_of code old new run).same;
  facets = λ kind. run.later.firsts (Facet kind);
  tops = λ decl. run.later.firsts (Top decl);
  shapes = shapes_later old.cells new.cells run.later.cells;
}

-- what is kept stays right
pub right_stays : (w : World) (code : CodeProgram) (after : Heap) (place : Option Kept) → IsLawful w code → SameRows w.cells after →
    PlaceIsRight w.cells code place → PlaceIsRight after code place
right_stays w code after None l same r = r
right_stays w code after (Some (Out way)) l same r =
    (way_stays w.cells after way.from way.levels same.shapes r.0, r.1 ∙ sym (end_stays w.cells after way.from way.levels same.shapes r.0))
right_stays w code after (Some (Looked kept)) l same r =
    (start_stays w.cells after kept.start same r.0, r.1 ∙ sym (found_stays w code after l same kept.start kept.sel.0 kept.kind r.0))

-- ---- later in a run

pub start_lasts : (from : Start) (code : CodeProgram) (old new : World) → RunsOn code old new → is_start old.cells from ≡ true →
    is_start new.cells from ≡ true
start_lasts from code old new run s = start_stays old.cells new.cells from (same_rows code old new run) s

pub found_lasts : (from : Start) (sel : ℕ) (kind : Sending) (code : CodeProgram) (old new : World) → RunsOn code old new →
    is_start old.cells from ≡ true → found_from new.cells code from sel kind ≡ found_from old.cells code from sel kind
found_lasts from sel kind code old new run s = found_stays old code new.cells run.before (same_rows code old new run) from sel kind s

pub private_lasts : (holder : ℕ) (side : Side) (sel : ℕ) (code : CodeProgram) (old new : World) → RunsOn code old new →
    is_class (find_cell old.cells holder) ≡ true →
    found_private new.cells code holder side sel ≡ found_private old.cells code holder side sel
private_lasts holder side sel code old new run is =
    private_stays old code new.cells run.before (same_rows code old new run) holder side sel is

pub right_lasts : (place : Option Kept) (code : CodeProgram) (old new : World) → RunsOn code old new → PlaceIsRight old.cells code place →
    PlaceIsRight new.cells code place
right_lasts place code old new run r = right_stays old code new.cells place run.before (same_rows code old new run) r

pub all_right_last : (places : List (Option Kept)) (code : CodeProgram) (old new : World) → RunsOn code old new →
    All (PlaceIsRight old.cells code) places → All (PlaceIsRight new.cells code) places
all_right_last places code old new run all = λ i d h. right_lasts (get_or places i d) code old new run (all i d h)
