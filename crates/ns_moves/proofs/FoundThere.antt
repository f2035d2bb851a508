-- What the sends of running code find suits its receiver, and where their lookups begin.
use Rattle.std.proofs.Common.{◌≡◌, ℕ, ◌<◌, ap, length, refl, arith, Option, Some, None, true}
use Rattle.std.specs.Prelude.{IsSome, slice_get}
use Rattle.std.specs.Option.{option_map_or}
use Rattle.ns_code.specs.declared.program.CodeProgram.{CodeProgram}
use Rattle.ns_code.specs.declared.class.ClassCode.{ClassCode}
use Rattle.ns_world.specs.declared.value.Value.{Value}
use Rattle.ns_world.specs.declared.value.Value.TheVariants.{Nil, True, False, Int, Sym, Kernel, Ref}
use Rattle.ns_world.specs.declared.cell.NewCell.TheVariants.{Mirror}
use Rattle.ns_world.specs.Cell.{Cell, ObjectCell, ClassCell, BlockCell, EnvironmentCell, ArrayCell, TextCell, FacetCell, MirrorCell, MessageCell, shape_of}
use Rattle.ns_world.specs.Heap.{Heap, find_cell, is_class, words_at, open_words_at}
use Rattle.ns_world.specs.Starts.{start_of, start_of_cell, is_receiver_cell}
use Rattle.ns_world.specs.World.{World}
use Rattle.ns_world.specs.Layout.{declaration_of, entries_of, entry_word}
use Rattle.ns_world.specs.Lawful.{IsLawful, IsLiveValue, HasHolder, class_of_object}
use Rattle.ns_find.specs.declared.found.Sending.TheVariants.{Inner}
use Rattle.ns_find.specs.Find.{found_from, found_private, super_start, is_start}
use Rattle.ns_find.specs.Belonging.{IsSlotOf}
use Rattle.ns_classes.specs.laws.Entries.{entry_inside}
use Rattle.ns_moves.specs.Control.{Activation}
use Rattle.ns_moves.specs.Bodies.{enclosing, side_of_body, side_at}
use Rattle.ns_moves.specs.Lawful.{FitsActivation, declaration_at}
use Rattle.ns_moves.specs.Suits.{Suits, IsEnclosingPlace}
use Rattle.ns_moves.specs.lemmas.Suiting.{private_suits}
use Rattle.ns_moves.specs.lemmas.Places.{places_fit}
use Rattle.ns_moves.specs.laws.LawfulSends.{super_fits, body_declared}

-- the enclosing object at a level that there is
pub place_there : (world : World) (code : CodeProgram) (activation : Activation) (level : ℕ) → IsLawful world code →
    FitsActivation world.cells code activation → IsSome (declaration_at code activation.body level)
    → IsEnclosingPlace world.cells code (enclosing world.cells activation level)
place_there world code activation level lawful fits some = declared (declaration_at code activation.body level) refl some
  where
    declared : (o : Option ℕ) → declaration_at code activation.body level ≡ o → IsSome o → IsEnclosingPlace world.cells code (enclosing world.cells activation level)
    declared (Some decl) e there = let p = places_fit world code activation level decl lawful fits e in record { live = p.live; class = p.holder_is }
    declared None e there = absurd (cc)

-- its class has that declaration
pub place_declared : (world : World) (code : CodeProgram) (activation : Activation) (level decl : ℕ) → IsLawful world code →
    FitsActivation world.cells code activation → declaration_at code activation.body level ≡ Some decl
    → declaration_of world.cells (enclosing world.cells activation level).holder ≡ decl
place_declared world code activation level decl lawful fits is = (places_fit world code activation level decl lawful fits is).declaration_is

-- what a private send finds
pub private_found : (world : World) (code : CodeProgram) (activation : Activation) (level sel : ℕ) → IsLawful world code →
    FitsActivation world.cells code activation → IsSome (declaration_at code activation.body level)
    → Suits world.cells code (enclosing world.cells activation level).object (found_private world.cells code (enclosing world.cells activation level).holder (side_at code activation level) sel)
private_found world code activation level sel lawful fits some = declared (declaration_at code activation.body level) refl some
  where
    declared : (o : Option ℕ) → declaration_at code activation.body level ≡ o → IsSome o
        → Suits world.cells code (enclosing world.cells activation level).object (found_private world.cells code (enclosing world.cells activation level).holder (side_at code activation level) sel)
    declared (Some decl) e there =
        let p = places_fit world code activation level decl lawful fits e in
        private_suits world.cells code (enclosing world.cells activation level).object (enclosing world.cells activation level).holder (side_at code activation level) sel p.has p.holder_is
    declared None e there = absurd (cc)

-- what a send to super finds
pub super_found : (world : World) (code : CodeProgram) (activation : Activation) (sel : ℕ) → IsLawful world code →
    FitsActivation world.cells code activation
    → Suits world.cells code activation.self (found_from world.cells code (super_start world.cells activation.holder (side_of_body code activation.body)) sel Inner)
super_found world code activation sel lawful fits =
    declared (declaration_at code activation.body 0) refl (body_declared code activation.body fits.there)
  where
    declared : (o : Option ℕ) → declaration_at code activation.body 0 ≡ o → IsSome o
        → Suits world.cells code activation.self (found_from world.cells code (super_start world.cells activation.holder (side_of_body code activation.body)) sel Inner)
    declared (Some decl) e there =
        let p = places_fit world code activation 0 decl lawful fits e in super_fits world code activation (side_of_body code activation.body) sel lawful p.has
    declared None e there = absurd (cc)

-- the holder of code that runs is a class
pub holder_there : (world : World) (code : CodeProgram) (activation : Activation) → IsLawful world code →
    FitsActivation world.cells code activation → is_class (find_cell world.cells activation.holder) ≡ true
holder_there world code activation lawful fits =
    (place_there world code activation 0 lawful fits (body_declared code activation.body fits.there)).class

-- a lookup can start at a live value
pub start_there : (world : World) (code : CodeProgram) (value : Value) → IsLawful world code → IsLiveValue world.cells code value →
    is_start world.cells (start_of world.cells value) ≡ true
start_there world code Nil lawful live = refl
start_there world code True lawful live = refl
start_there world code False lawful live = refl
start_there world code (Int number) lawful live = refl
start_there world code (Sym sel) lawful live = refl
start_there world code (Kernel class) lawful live = refl
start_there world code (Ref at) lawful live = told (find_cell world.cells at) refl live.1
  where
    told : (o : Option Cell) → find_cell world.cells at ≡ o → is_receiver_cell o ≡ true → is_start world.cells (start_of_cell (option_map_or shape_of o (Mirror Nil)) at) ≡ true
    told None e r = absurd (cc)
    told (Some (ObjectCell class entries)) e r = (lawful.cells at (ObjectCell class entries) e).0.class_is
    told (Some (ClassCell decl base encl holder over)) e r = ap is_class e
    told (Some (BlockCell body env home receiver holder)) e r = refl
    told (Some (EnvironmentCell parent locals)) e r = absurd (cc)
    told (Some (ArrayCell items)) e r = refl
    told (Some (TextCell bytes)) e r = refl
    told (Some (FacetCell kind)) e r = refl
    told (Some (MirrorCell mirrored)) e r = refl
    told (Some (MessageCell sel args)) e r = refl

-- an object's words may all be written
pub words_open : (heap : Heap) (at : ℕ) → IsSome (class_of_object (find_cell heap at)) → open_words_at heap at ≡ words_at heap at
words_open heap at some = told (find_cell heap at) refl some
  where
    told : (o : Option Cell) → find_cell heap at ≡ o → IsSome (class_of_object o) → open_words_at heap at ≡ words_at heap at
    told (Some (ObjectCell class entries)) e r = rw e refl
    told None e r = absurd (cc)
    told (Some (ClassCell decl base encl holder over)) e r = absurd (cc)
    told (Some (BlockCell body env home receiver holder)) e r = absurd (cc)
    told (Some (EnvironmentCell parent locals)) e r = absurd (cc)
    told (Some (ArrayCell items)) e r = absurd (cc)
    told (Some (TextCell bytes)) e r = absurd (cc)
    told (Some (FacetCell kind)) e r = absurd (cc)
    told (Some (MirrorCell mirrored)) e r = absurd (cc)
    told (Some (MessageCell sel args)) e r = absurd (cc)

-- the word of an entry is one that may be written
pub entry_open : (world : World) (code : CodeProgram) (at holder entry : ℕ) → IsLawful world code → HasHolder world.cells (Ref at) holder →
    entry < entries_of code (declaration_of world.cells holder)
    → entry_word world.cells code holder entry < length (open_words_at world.cells at)
entry_open world code at holder entry lawful has inside =
    omega (arith, entry_inside world code at holder entry lawful has inside, ap length (words_open world.cells at has.1))

-- a slot's word is one of its object
slot_entry : (code : CodeProgram) (decl entry : ℕ) (class : ClassCode) → slice_get code.classes decl ≡ Some class →
    entry < length class.slots → entry < entries_of code decl
slot_entry code decl entry class e inside = rw e (omega (arith, inside))

pub slot_open : (world : World) (code : CodeProgram) (at holder word : ℕ) → IsLawful world code → HasHolder world.cells (Ref at) holder →
    IsSlotOf world.cells code holder word → word < length (open_words_at world.cells at)
slot_open world code at holder word lawful has slot =
    omega (arith, slot.word_is, entry_open world code at holder slot.entry lawful has (slot_entry code (declaration_of world.cells holder) slot.entry slot.class slot.class_is slot.inside))
