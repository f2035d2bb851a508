-- A world in which a word or a byte was written is lawful.
use Rattle.std.proofs.Common.{◌≡◌, ◌≢◌, ℕ, ◌+◌, ◌<◌, List, length, get_or, set, slice_get, refl, ap, sym, ◌∙◌, subst, arith, Option, Some, None, Bool, true, false, eqb, length-set}
use Rattle.std.specs.Option.{ForSome}
use Rattle.std.proofs.lemmas.Bool.{eqb-true, eq-eqb}
use Rattle.std.proofs.lemmas.List.{get_or-set_same, get_or-set_other}
use Rattle.std.proofs.lemmas.List.Elements.{All-set}
use Rattle.std.proofs.lemmas.Option.{slice_get_within, get_or_from_slice_get, slice_get-get_or}
use Rattle.ns_code.specs.declared.program.CodeProgram.{CodeProgram}
use Rattle.ns_world.specs.declared.value.Value.{Value}
use Rattle.ns_world.specs.Cell.{Cell, ObjectCell, ClassCell, BlockCell, EnvironmentCell, ArrayCell, TextCell, FacetCell, MirrorCell, MessageCell, with_word, with_byte}
use Rattle.ns_world.specs.Heap.{Heap, find_cell, is_chain_start, change_cell, write_byte}
use Rattle.ns_world.specs.World.{World, written, byte_written}
use Rattle.ns_world.specs.Layout.{entry_word}
use Rattle.ns_world.specs.Lawful.{IsLiveValue, class_of_object, IsKept, ObjectIsLawful, CellIsLawful, IsLawful}
use Rattle.ns_world.specs.Keeping.{KeepsWord, MayBeWritten}
use Rattle.ns_world.specs.laws.Changing.{ChangesPlainly, ChangeLeaves, changing_leaves, word_plainly, byte_plainly}
use Rattle.ns_world.specs.laws.Classes.{lawful_order}
use Rattle.ns_world.specs.laws.Twins.{Twins, KeepsCells, word_twins, byte_twins, found_changed, changing_keeps_cells}
use Rattle.ns_world.specs.laws.Staying.{value_stays}
use Rattle.ns_world.specs.laws.Lawfully.{keeps_word_stays, cell_lawful}

-- the value at a place is the one written there, or the one that was there
value_at_place : (P : Value → Type 0) (entries : List Value) (word k : ℕ) (value found : Value) →
    slice_get (set entries word value) k ≡ Some found → (k ≡ word → P value) → (slice_get entries k ≡ Some found → P found) → P found
value_at_place P entries word k value found e here there = tested (eqb k word) refl
  where
    inside : k < length entries
    inside = omega (arith, slice_get_within (set entries word value) k found e, length-set entries word value)

    read : get_or (set entries word value) k found ≡ found
    read = get_or_from_slice_get (set entries word value) k found found e

    tested : (b : Bool) → eqb k word ≡ b → P found
    tested true t =
        let same : k ≡ word = eqb-true k word t in
        let is : value ≡ found = sym (get_or-set_same entries k value found inside) ∙ (ap (λ w. get_or (set entries w value) k found) same ∙ read) in
        subst P is (here same)
    tested false t =
        let other : k ≢ word = λ q. let s : eqb k word ≡ true = eq-eqb k word q in cc in
        let is : get_or entries k found ≡ found = sym (get_or-set_other entries word k value found other) ∙ read in
        there (slice_get-get_or entries k found inside ∙ ap Some is)

object_word : (heap : Heap) (code : CodeProgram) (number class : ℕ) (entries : List Value) (word : ℕ) (value : Value) →
    ObjectIsLawful heap code number class entries → KeepsWord heap code number class word value →
    ObjectIsLawful heap code number class (set entries word value)
object_word heap code number class entries word value l keeps = record {
  class_is = l.class_is;
  words = length-set entries word value ∙ l.words;
  kept = λ holder c declared d i nested found n v.
      value_at_place (IsKept heap number holder nested.class) entries word (entry_word heap code holder (length declared.slots + i)) value found v
      (λ same. keeps holder c declared d i nested n same)
      (λ was. l.kept holder c declared d i nested found n was);
}

-- a lawful cell with a word written that may be written
word_lawful : (heap : Heap) (code : CodeProgram) (number : ℕ) (cell : Cell) (word : ℕ) (value : Value) →
    CellIsLawful heap code number cell → IsLiveValue heap code value →
    ForSome (class_of_object (Some cell)) (λ class. KeepsWord heap code number class word value) →
    CellIsLawful heap code number (with_word cell word value)
word_lawful heap code number (ObjectCell class entries) word value l live keeps =
    (object_word heap code number class entries word value l.0 (keeps class refl), All-set (IsLiveValue heap code) entries word value live l.1)
word_lawful heap code number (EnvironmentCell parent locals) word value l live keeps =
    (l.0, All-set (IsLiveValue heap code) locals word value live l.1)
word_lawful heap code number (ArrayCell items) word value l live keeps = All-set (IsLiveValue heap code) items word value live l
word_lawful heap code number (ClassCell decl base encl holder over) word value l live keeps = l
word_lawful heap code number (BlockCell body env home receiver holder) word value l live keeps = l
word_lawful heap code number (TextCell bytes) word value l live keeps = l
word_lawful heap code number (FacetCell kind) word value l live keeps = l
word_lawful heap code number (MirrorCell mirrored) word value l live keeps = l
word_lawful heap code number (MessageCell sel args) word value l live keeps = l

byte_lawful : (heap : Heap) (code : CodeProgram) (number : ℕ) (cell : Cell) (place byte : ℕ) → CellIsLawful heap code number cell →
    CellIsLawful heap code number (with_byte cell place byte)
byte_lawful heap code number (TextCell bytes) place byte l = tt
byte_lawful heap code number (ObjectCell class entries) place byte l = l
byte_lawful heap code number (EnvironmentCell parent locals) place byte l = l
byte_lawful heap code number (ArrayCell items) place byte l = l
byte_lawful heap code number (ClassCell decl base encl holder over) place byte l = l
byte_lawful heap code number (BlockCell body env home receiver holder) place byte l = l
byte_lawful heap code number (FacetCell kind) place byte l = l
byte_lawful heap code number (MirrorCell mirrored) place byte l = l
byte_lawful heap code number (MessageCell sel args) place byte l = l

-- a lawful world in which a cell is changed into a lawful one
changed_lawful : (world : World) (code : CodeProgram) (at : ℕ) (change : Cell → Cell) → IsLawful world code → ChangesPlainly change →
    ((cell : Cell) → Twins cell (change cell)) →
    ((cell : Cell) → find_cell world.cells at ≡ Some cell → CellIsLawful (change_cell world.cells at change) code at cell → CellIsLawful (change_cell world.cells at change) code at (change cell)) →
    IsLawful (record world { cells = change_cell world.cells at change }) code
changed_lawful world code at change lawful plainly twins here = record {
  within = record { limits = lawful.within.limits; cells = omega (arith, leaves.size, lawful.within.cells); steps = lawful.within.steps; depth = lawful.within.depth; out = lawful.within.out };
  ordered = leaves.order ∙ lawful.ordered;
  fits = lawful.fits;
  parents = lawful.parents;
  classes = lawful.classes;
  cells = λ number cell e. tested number cell (eqb number at) refl e;
}
  where
    after : Heap
    after = change_cell world.cells at change

    leaves : ChangeLeaves world.cells after at
    leaves = changing_leaves world.cells at change plainly

    keeps : KeepsCells world.cells after
    keeps = changing_keeps_cells world.cells at change plainly twins (lawful_order world code lawful)

    found : (o : Option Cell) → find_cell world.cells at ≡ o → (cell : Cell) → find_cell after at ≡ Some cell → CellIsLawful after code at cell
    found None f cell e = absurd (let same : after ≡ world.cells = rw f refl in let none : find_cell after at ≡ None = ap (λ h. find_cell h at) same ∙ f in cc)
    found (Some old) f cell e =
        let is : change old ≡ cell = cc (found_changed world.cells at change old plainly f, e) in
        subst (CellIsLawful after code at) is (here old f (cell_lawful world.cells after code at old keeps f (lawful.cells at old f)))

    tested : (number : ℕ) (cell : Cell) (b : Bool) → eqb number at ≡ b → find_cell after number ≡ Some cell → CellIsLawful after code number cell
    tested number cell true t e =
        let is : number ≡ at = eqb-true number at t in
        subst (λ n. CellIsLawful after code n cell) (sym is) (found (find_cell world.cells at) refl cell (ap (find_cell after) (sym is) ∙ e))
    tested number cell false t e =
        let other : number ≢ at = λ q. let s : eqb number at ≡ true = eq-eqb number at q in cc in
        let was : find_cell world.cells number ≡ Some cell = sym (leaves.others number other) ∙ e in
        cell_lawful world.cells after code number cell keeps was (lawful.cells number cell was)

-- a chain starts at the class of an object
pub object_starts : (world : World) (code : CodeProgram) (at class : ℕ) → IsLawful world code →
    class_of_object (find_cell world.cells at) ≡ Some class → is_chain_start world.cells class ≡ true
object_starts world code at class lawful h = found (find_cell world.cells at) refl h
  where
    found : (o : Option Cell) → find_cell world.cells at ≡ o → class_of_object o ≡ Some class → is_chain_start world.cells class ≡ true
    found (Some (ObjectCell other entries)) e h = let is : other ≡ class = cc in ap (is_chain_start world.cells) (sym is) ∙ (lawful.cells at (ObjectCell other entries) e).0.class_is
    found None e h = absurd (cc)
    found (Some (ClassCell decl base encl holder over)) e h = absurd (cc)
    found (Some (BlockCell body env home receiver holder)) e h = absurd (cc)
    found (Some (EnvironmentCell parent locals)) e h = absurd (cc)
    found (Some (ArrayCell items)) e h = absurd (cc)
    found (Some (TextCell bytes)) e h = absurd (cc)
    found (Some (FacetCell kind)) e h = absurd (cc)
    found (Some (MirrorCell mirrored)) e h = absurd (cc)
    found (Some (MessageCell sel args)) e h = absurd (cc)

-- a word that may be written
pub writing_keeps : (world : World) (code : CodeProgram) (at word : ℕ) (value : Value) → IsLawful world code →
    MayBeWritten world.cells code at word value → IsLawful (written world at word value) code
writing_keeps world code at word value lawful m =
    changed_lawful world code at change lawful (word_plainly word value) (word_twins word value) (λ cell e l. word_lawful after code at cell word value l (value_stays world.cells after code value keeps m.0) (λ class c. kept cell e class c))
  where
    change : Cell → Cell
    change = λ cell. with_word cell word value

    after : Heap
    after = change_cell world.cells at change

    keeps : KeepsCells world.cells after
    keeps = changing_keeps_cells world.cells at change (word_plainly word value) (word_twins word value) (lawful_order world code lawful)

    kept : (cell : Cell) → find_cell world.cells at ≡ Some cell → (class : ℕ) → class_of_object (Some cell) ≡ Some class → KeepsWord after code at class word value
    kept cell e class c =
        let is : class_of_object (find_cell world.cells at) ≡ Some class = ap class_of_object e ∙ c in
        keeps_word_stays world.cells after code at class word value keeps (object_starts world code at class lawful is) (m.1 class is)

-- a byte of a text
pub byte_keeps : (world : World) (code : CodeProgram) (at place byte : ℕ) → IsLawful world code →
    IsLawful (byte_written world at place byte) code
byte_keeps world code at place byte lawful =
    changed_lawful world code at (λ cell. with_byte cell place byte) lawful (byte_plainly place byte) (byte_twins place byte) (λ cell e l. byte_lawful (write_byte world.cells at place byte) code at cell place byte l)
