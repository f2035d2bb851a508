-- A slot that is written leaves a lawful world.
use Rattle.std.proofs.Common.{◌≡◌, ℕ, suc, ◌<◌, List, [], ◌∷◌, length, slice_get, refl, ap, ◌∙◌, subst, arith, Option, Some, None, IsSome, Contains, Bool, true, false, cond}
use Rattle.std.specs.Option.{option_map_or, ForSome}
use Rattle.ns_base.specs.declared.selector.Sel.{Sel}
use Rattle.ns_code.specs.declared.program.CodeProgram.{CodeProgram}
use Rattle.ns_code.specs.declared.class.ClassCode.{ClassCode}
use Rattle.ns_world.specs.declared.value.Value.{Value}
use Rattle.ns_world.specs.declared.value.Value.TheVariants.{Nil, True, False, Int, Sym, Kernel, Ref}
use Rattle.ns_world.specs.declared.ending.Fault.TheVariants.{Kind}
use Rattle.ns_world.specs.declared.ending.Kind.TheVariants as kind
use Rattle.ns_world.specs.Cell.{Cell, ObjectCell, ClassCell, BlockCell, EnvironmentCell, ArrayCell, TextCell, FacetCell, MirrorCell, MessageCell}
use Rattle.ns_world.specs.Heap.{Heap, find_cell, chain_of}
use Rattle.ns_world.specs.World.{World, written, stored}
use Rattle.ns_world.specs.Layout.{declaration_of, entry_word}
use Rattle.ns_world.specs.Lawful.{IsLawful, IsLiveValue, class_of_object}
use Rattle.ns_classes.specs.laws.Lawfully.{slot_filled}
use Rattle.ns_kdata.specs.Outcome.{Answers, Fails}
use Rattle.ns_kdata.specs.Lawful.{LeavesLawful}
use Rattle.ns_mirror.specs.declared.slots.Entry.{Entry}
use Rattle.ns_mirror.specs.declared.slots.SlotPlace.{SlotPlace}
use Rattle.ns_mirror.specs.Looking.{object_class}
use Rattle.ns_mirror.specs.Slots.{entry_of, place_of, slot_in, slot_or, slot_along, slot_of, write_slot, slot_put}
use Rattle.ns_mirror.specs.lemmas.Found.{class_of, no_slot, entry_inside}

-- What is known of the word of a slot that is found along a chain: a holder there declares it.
record IsSlot (heap : Heap) (code : CodeProgram) (chain : List ℕ) (word : ℕ) : Type 0 where
  holder : ℕ
  contained : Contains chain holder
  declared : ClassCode
  is : slice_get code.classes (declaration_of heap holder) ≡ Some declared
  entry : ℕ
  inside : entry < length declared.slots
  word_is : entry_word heap code holder entry ≡ word

declared_here : (heap : Heap) (code : CodeProgram) (holder : ℕ) (holders : List ℕ) (sel : Sel) (place : SlotPlace) →
    slot_in heap code holder sel ≡ Some place → IsSlot heap code (holder ∷ holders) place.word
declared_here heap code holder holders sel place e = found (slice_get code.classes (declaration_of heap holder)) refl e
  where
    placed : (declared : ClassCode) → slice_get code.classes (declaration_of heap holder) ≡ Some declared → (o : Option Entry) → entry_of declared.slots sel 0 ≡ o → place_of heap code holder o ≡ Some place → IsSlot heap code (holder ∷ holders) place.word
    placed declared d None f e = absurd (cc)
    placed declared d (Some entry) f e =
        let here : SlotPlace = record { word = entry_word heap code holder entry.number; mutable = entry.mutable } in
        let is : here ≡ place = cc in
        record {
          holder = holder;
          contained = (0, omega arith, refl);
          declared = declared;
          is = d;
          entry = entry.number;
          inside = omega (arith, entry_inside declared.slots sel 0 entry f);
          word_is = ap (λ (p : SlotPlace). p.word) is;
        }

    found : (o : Option ClassCode) → slice_get code.classes (declaration_of heap holder) ≡ o → place_of heap code holder (entry_of (option_map_or (λ (class : ClassCode). class.slots) o []) sel 0) ≡ Some place → IsSlot heap code (holder ∷ holders) place.word
    found None d e = absurd (cc)
    found (Some declared) d e = placed declared d (entry_of declared.slots sel 0) refl e

declared_along : (heap : Heap) (code : CodeProgram) (chain : List ℕ) (sel : Sel) (place : SlotPlace) →
    slot_along heap code chain sel ≡ Some place → IsSlot heap code chain place.word
declared_along heap code [] sel place e = absurd (cc)
declared_along heap code (holder ∷ holders) sel place e =
    tested (slot_in heap code holder sel) refl e (declared_along heap code holders sel place)
  where
    further : IsSlot heap code holders place.word → IsSlot heap code (holder ∷ holders) place.word
    further s = record { holder = s.holder; contained = (suc s.contained.0, omega (arith, s.contained.1), s.contained.2); declared = s.declared; is = s.is; entry = s.entry; inside = s.inside; word_is = s.word_is }

    tested : (o : Option SlotPlace) → slot_in heap code holder sel ≡ o → slot_or o (slot_along heap code holders sel) ≡ Some place → (slot_along heap code holders sel ≡ Some place → IsSlot heap code holders place.word) → IsSlot heap code (holder ∷ holders) place.word
    tested None f e above = further (above e)
    tested (Some here) f e above = declared_here heap code holder holders sel place (f ∙ e)

-- what has a slot is an object, in whose chain the holder stands
in_chain : (world : World) (code : CodeProgram) (sel : Sel) (place : SlotPlace) → IsLawful world code → (o : Option Cell) →
    slot_along world.cells code (chain_of world.cells (class_of o)) sel ≡ Some place → (holder : ℕ) →
    Contains (chain_of world.cells (class_of o)) holder →
    ForSome (class_of_object o) (λ class. Contains (chain_of world.cells class) holder) × IsSome (class_of_object o)
in_chain world code sel place lawful (Some (ObjectCell class entries)) f holder contained =
    (λ other e. let is : class ≡ other = cc in subst (λ n. Contains (chain_of world.cells n) holder) is contained, refl)
in_chain world code sel place lawful None f holder contained = absurd (no_slot world code sel place lawful f)
in_chain world code sel place lawful (Some (ClassCell decl base encl holder' over)) f holder contained =
    absurd (no_slot world code sel place lawful f)
in_chain world code sel place lawful (Some (BlockCell body env home receiver holder')) f holder contained =
    absurd (no_slot world code sel place lawful f)
in_chain world code sel place lawful (Some (EnvironmentCell parent locals)) f holder contained =
    absurd (no_slot world code sel place lawful f)
in_chain world code sel place lawful (Some (ArrayCell items)) f holder contained = absurd (no_slot world code sel place lawful f)
in_chain world code sel place lawful (Some (TextCell bytes)) f holder contained = absurd (no_slot world code sel place lawful f)
in_chain world code sel place lawful (Some (FacetCell kind)) f holder contained = absurd (no_slot world code sel place lawful f)
in_chain world code sel place lawful (Some (MirrorCell shown)) f holder contained = absurd (no_slot world code sel place lawful f)
in_chain world code sel place lawful (Some (MessageCell sel' args)) f holder contained = absurd (no_slot world code sel place lawful f)

-- a value that is stored in a slot
filled_lawful : (world : World) (code : CodeProgram) (at : ℕ) (sel : Sel) (place : SlotPlace) (value : Value) → IsLawful world code →
    IsLiveValue world.cells code value → slot_of world.cells code (Ref at) sel ≡ Some place →
    IsLawful (written world at place.word value) code
filled_lawful world code at sel place value lawful live f =
    let s = declared_along world.cells code (chain_of world.cells (object_class world.cells (Ref at))) sel place f in
    let has = in_chain world code sel place lawful (find_cell world.cells at) f s.holder s.contained in
    subst (λ word. IsLawful (written world at word value) code) s.word_is
    (slot_filled world code at s.holder s.entry s.declared value lawful has s.is s.inside live)

stored_lawful : (world : World) (code : CodeProgram) (object : Value) (sel : Sel) (place : SlotPlace) (value : Value) →
    IsLawful world code → IsLiveValue world.cells code value → slot_of world.cells code object sel ≡ Some place →
    IsLawful (stored world object place.word value) code
stored_lawful world code (Ref at) sel place value lawful live f = filled_lawful world code at sel place value lawful live f
stored_lawful world code Nil sel place value lawful live f = lawful
stored_lawful world code True sel place value lawful live f = lawful
stored_lawful world code False sel place value lawful live f = lawful
stored_lawful world code (Int number) sel place value lawful live f = lawful
stored_lawful world code (Sym sel') sel place value lawful live f = lawful
stored_lawful world code (Kernel class) sel place value lawful live f = lawful

write_lawful : (world : World) (code : CodeProgram) (object : Value) (sel : Sel) (value : Value) → IsLawful world code →
    IsLiveValue world.cells code value → (o : Option SlotPlace) → slot_of world.cells code object sel ≡ o →
    LeavesLawful code (write_slot world object value o)
write_lawful world code object sel value lawful live None f = tt
write_lawful world code object sel value lawful live (Some place) f = tested place.mutable
  where
    tested : (b : Bool) → LeavesLawful code (cond b (Answers value (stored world object place.word value)) (Fails (Kind kind.FixedSlot)))
    tested true = stored_lawful world code object sel place value lawful live f
    tested false = tt

pub slot_put_lawful : (world : World) (code : CodeProgram) (object name value : Value) → IsLawful world code →
    IsLiveValue world.cells code value → LeavesLawful code (slot_put world code object name value)
slot_put_lawful world code object (Sym sel) value lawful live =
    write_lawful world code object sel value lawful live (slot_of world.cells code object sel) refl
slot_put_lawful world code object Nil value lawful live = tt
slot_put_lawful world code object True value lawful live = tt
slot_put_lawful world code object False value lawful live = tt
slot_put_lawful world code object (Int number) value lawful live = tt
slot_put_lawful world code object (Kernel class) value lawful live = tt
slot_put_lawful world code object (Ref at) value lawful live = tt
