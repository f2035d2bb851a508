-- A slot that is found stands inside of its object.
use Rattle.std.proofs.Common.{◌≡◌, ◌≢◌, ℕ, ◌+◌, ◌<◌, List, [], ◌∷◌, length, slice_get, refl, ap, sym, ◌∙◌, arith, Option, Some, None, true}
use Rattle.std.specs.Option.{option_map_or, IfSome}
use Rattle.ns_base.specs.declared.selector.Sel.{Sel}
use Rattle.ns_code.specs.declared.program.CodeProgram.{CodeProgram}
use Rattle.ns_code.specs.declared.class.ClassCode.{ClassCode}
use Rattle.ns_world.specs.declared.value.Value.{Value}
use Rattle.ns_world.specs.declared.value.Value.TheVariants.{Nil, True, False, Int, Sym, Kernel, Ref}
use Rattle.ns_world.specs.Cell.{Cell, ObjectCell, ClassCell, BlockCell, EnvironmentCell, ArrayCell, TextCell, FacetCell, MirrorCell, MessageCell, cell_words, open_words}
use Rattle.ns_world.specs.Heap.{Heap, find_cell, is_class, chain_of, superclass_of, is_chain_start, no_class, words_at, open_words_at}
use Rattle.ns_world.specs.World.{World}
use Rattle.ns_world.specs.Layout.{declaration_of, entries_of, layout_of, entry_word}
use Rattle.ns_world.specs.Lawful.{IsLawful}
use Rattle.std.proofs.lemmas.Bool.{eqb-true}
use Rattle.ns_world.specs.laws.Above.{class_of_start}
use Rattle.ns_world.specs.laws.Starts.{none_starts}
use Rattle.ns_classes.specs.laws.Bounds.{layout_step}
use Rattle.ns_classes.specs.laws.Entries.{started}
use Rattle.ns_mirror.specs.declared.slots.Entry.{Entry}
use Rattle.ns_mirror.specs.declared.slots.SlotPlace.{SlotPlace}
use Rattle.ns_mirror.specs.Looking.{object_class}
use Rattle.ns_mirror.specs.Slots.{declared_slots, entry_of, place_of, slot_in, slot_or, slot_along}
use Rattle.ns_mirror.specs.lemmas.Found.{entry_inside, class_of, no_slot}

-- the slots of a declaration are among its entries
pub slots_are_entries : (code : CodeProgram) (decl number : ℕ) → number < length (declared_slots code decl) → number < entries_of code decl
slots_are_entries code decl number h = found (slice_get code.classes decl) h
  where
    found : (o : Option ClassCode) → number < length (option_map_or (λ (class : ClassCode). class.slots) o []) → number < option_map_or (λ (class : ClassCode). length class.slots + length class.nested) o 0
    found None h = absurd (omega (arith, h))
    found (Some class) h = omega (arith, h)

in_holder : (heap : Heap) (code : CodeProgram) (holder : ℕ) (sel : Sel) (place : SlotPlace) → slot_in heap code holder sel ≡ Some place →
    place.word < layout_of heap code (superclass_of heap holder) + entries_of code (declaration_of heap holder)
in_holder heap code holder sel place e = found (entry_of (declared_slots code (declaration_of heap holder)) sel 0) refl e
  where
    found : (o : Option Entry) → entry_of (declared_slots code (declaration_of heap holder)) sel 0 ≡ o → place_of heap code holder o ≡ Some place → place.word < layout_of heap code (superclass_of heap holder) + entries_of code (declaration_of heap holder)
    found None f e = absurd (cc)
    found (Some entry) f e =
        let here : SlotPlace = record { word = entry_word heap code holder entry.number; mutable = entry.mutable } in
        let is : here ≡ place = cc in
        let inside : entry.number < entries_of code (declaration_of heap holder) = slots_are_entries code (declaration_of heap holder) entry.number (omega (arith, entry_inside (declared_slots code (declaration_of heap holder)) sel 0 entry f)) in
        omega (arith, ap (λ (x : SlotPlace). x.word) is, inside)

-- a slot found along a chain is one of the words that the chain asks for
along_inside : (world : World) (code : CodeProgram) (sel : Sel) (place : SlotPlace) (chain : List ℕ) (class : ℕ) → IsLawful world code →
    is_chain_start world.cells class ≡ true → chain_of world.cells class ≡ chain → slot_along world.cells code chain sel ≡ Some place →
    place.word < layout_of world.cells code class
along_inside world code sel place [] class lawful s e f = absurd (cc)
along_inside world code sel place (holder ∷ holders) class lawful s e f =
    let g = started world code class 0 lawful s (omega (arith, ap length e)) in
    let both : class ∷ chain_of world.cells (superclass_of world.cells class) ≡ holder ∷ holders = sym g.chain ∙ e in
    let is : class ≡ holder = cc in
    let above : chain_of world.cells (superclass_of world.cells class) ≡ holders = cc in
    let step = layout_step world.cells code class (superclass_of world.cells class) g.chain in
    tested is step (along_inside world code sel place holders (superclass_of world.cells class) lawful g.start above) (slot_in world.cells code holder sel) refl f
  where
    tested : class ≡ holder → layout_of world.cells code class ≡ entries_of code (declaration_of world.cells class) + layout_of world.cells code (superclass_of world.cells class) → (slot_along world.cells code holders sel ≡ Some place → place.word < layout_of world.cells code (superclass_of world.cells class)) → (o : Option SlotPlace) → slot_in world.cells code holder sel ≡ o → slot_or o (slot_along world.cells code holders sel) ≡ Some place → place.word < layout_of world.cells code class
    tested is step further None t f = omega (arith, further f, step)
    tested is step further (Some here) t f =
        let found : slot_in world.cells code class sel ≡ Some place = ap (λ n. slot_in world.cells code n sel) is ∙ (t ∙ f) in
        omega (arith, in_holder world.cells code class sel place found, step)

cell_starts : (world : World) (code : CodeProgram) (at : ℕ) → IsLawful world code → (o : Option Cell) → find_cell world.cells at ≡ o →
    is_chain_start world.cells (class_of o) ≡ true
cell_starts world code at lawful (Some (ObjectCell class entries)) e = (lawful.cells at (ObjectCell class entries) e).0.class_is
cell_starts world code at lawful None e = none_starts world.cells
cell_starts world code at lawful (Some (ClassCell decl base encl holder over)) e = none_starts world.cells
cell_starts world code at lawful (Some (BlockCell body env home receiver holder)) e = none_starts world.cells
cell_starts world code at lawful (Some (EnvironmentCell parent locals)) e = none_starts world.cells
cell_starts world code at lawful (Some (ArrayCell items)) e = none_starts world.cells
cell_starts world code at lawful (Some (TextCell bytes)) e = none_starts world.cells
cell_starts world code at lawful (Some (FacetCell kind)) e = none_starts world.cells
cell_starts world code at lawful (Some (MirrorCell mirrored)) e = none_starts world.cells
cell_starts world code at lawful (Some (MessageCell sel args)) e = none_starts world.cells

-- a chain can start at the class of a value
pub class_starts : (world : World) (code : CodeProgram) (value : Value) → IsLawful world code →
    is_chain_start world.cells (object_class world.cells value) ≡ true
class_starts world code (Ref at) lawful = cell_starts world code at lawful (find_cell world.cells at) refl
class_starts world code Nil lawful = none_starts world.cells
class_starts world code True lawful = none_starts world.cells
class_starts world code False lawful = none_starts world.cells
class_starts world code (Int number) lawful = none_starts world.cells
class_starts world code (Sym sel) lawful = none_starts world.cells
class_starts world code (Kernel class) lawful = none_starts world.cells

-- a class that isn't the number of none is there
pub class_there : (world : World) (code : CodeProgram) (value : Value) → IsLawful world code → object_class world.cells value ≢ no_class →
    is_class (find_cell world.cells (object_class world.cells value)) ≡ true
class_there world code value lawful h =
    class_of_start world.cells (object_class world.cells value) (class_starts world code value lawful) (λ t. h (eqb-true (object_class world.cells value) no_class t))

cell_inside : (world : World) (code : CodeProgram) (at : ℕ) (sel : Sel) (place : SlotPlace) → IsLawful world code → (o : Option Cell) →
    find_cell world.cells at ≡ o → slot_along world.cells code (chain_of world.cells (class_of o)) sel ≡ Some place →
    (place.word < length (option_map_or open_words o [])) × (place.word < length (option_map_or cell_words o []))
cell_inside world code at sel place lawful (Some (ObjectCell class entries)) e f =
    let l = (lawful.cells at (ObjectCell class entries) e).0 in
    let inside = along_inside world code sel place (chain_of world.cells class) class lawful l.class_is refl f in
    let below : place.word < length entries = omega (arith, inside, l.words) in
    (below, below)
cell_inside world code at sel place lawful None e f = absurd (no_slot world code sel place lawful f)
cell_inside world code at sel place lawful (Some (ClassCell decl base encl holder over)) e f =
    absurd (no_slot world code sel place lawful f)
cell_inside world code at sel place lawful (Some (BlockCell body env home receiver holder)) e f =
    absurd (no_slot world code sel place lawful f)
cell_inside world code at sel place lawful (Some (EnvironmentCell parent locals)) e f = absurd (no_slot world code sel place lawful f)
cell_inside world code at sel place lawful (Some (ArrayCell items)) e f = absurd (no_slot world code sel place lawful f)
cell_inside world code at sel place lawful (Some (TextCell bytes)) e f = absurd (no_slot world code sel place lawful f)
cell_inside world code at sel place lawful (Some (FacetCell kind)) e f = absurd (no_slot world code sel place lawful f)
cell_inside world code at sel place lawful (Some (MirrorCell mirrored)) e f = absurd (no_slot world code sel place lawful f)
cell_inside world code at sel place lawful (Some (MessageCell sel' args)) e f = absurd (no_slot world code sel place lawful f)

-- what is found of an object is one of its words, and may be written
pub open_inside : (world : World) (code : CodeProgram) (at : ℕ) (sel : Sel) (o : Option SlotPlace) → IsLawful world code →
    o ≡ slot_along world.cells code (chain_of world.cells (object_class world.cells (Ref at))) sel →
    IfSome o (λ p. p.word < length (open_words_at world.cells at))
open_inside world code at sel None lawful e = tt
open_inside world code at sel (Some place) lawful e = (cell_inside world code at sel place lawful (find_cell world.cells at) refl (sym e)).0

pub word_inside : (world : World) (code : CodeProgram) (at : ℕ) (sel : Sel) (o : Option SlotPlace) → IsLawful world code →
    o ≡ slot_along world.cells code (chain_of world.cells (object_class world.cells (Ref at))) sel →
    IfSome o (λ p. p.word < length (words_at world.cells at))
word_inside world code at sel None lawful e = tt
word_inside world code at sel (Some place) lawful e = (cell_inside world code at sel place lawful (find_cell world.cells at) refl (sym e)).1

-- what a holder declares is found along the chain that begins with it
pub along_here :
    (heap : Heap) (code : CodeProgram) (sel : Sel) (at : ℕ) (chain above : List ℕ) (whole : Option SlotPlace) (place : SlotPlace) →
    chain ≡ at ∷ above → slot_along heap code chain sel ≡ whole → Some place ≡ slot_in heap code at sel → Some place ≡ whole
along_here heap code sel at chain above whole place c w e =
    ap (λ o. slot_or o (slot_along heap code above sel)) e ∙ (ap (λ holders. slot_along heap code holders sel) (sym c) ∙ w)
