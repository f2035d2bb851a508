-- When an object can keep a nested class, and that a superclass is there.
use Rattle.std.proofs.Common.{◌≡◌, ℕ, zero, suc, ◌<◌, List, [], ◌∷◌, length, slice_get, refl, ap, sym, ◌∙◌, Option, Some, None, Bool, true, false, eqb, ◌||◌}
use Rattle.std.proofs.lemmas.Bool.{eq-eqb}
use Rattle.std.specs.List.{list_any}
use Rattle.ns_code.specs.declared.program.CodeProgram.{CodeProgram}
use Rattle.ns_code.specs.declared.class.NestedCode.{NestedCode}
use Rattle.ns_world.specs.declared.value.Value.TheVariants.{Ref}
use Rattle.ns_world.specs.Cell.{Cell, ObjectCell, ClassCell, BlockCell, EnvironmentCell, ArrayCell, TextCell, FacetCell, MirrorCell, MessageCell}
use Rattle.ns_world.specs.Heap.{Heap, find_cell, is_class, is_superclass, superclass_in, open_words_at}
use Rattle.ns_world.specs.World.{World, made}
use Rattle.ns_world.specs.Layout.{declaration_of, entries_of, entry_word}
use Rattle.ns_world.specs.Lawful.{IsLawful}
use Rattle.ns_world.specs.laws.Chains.{linked}
use Rattle.ns_classes.specs.Nested.{has_nested, nested_entry}
use Rattle.ns_classes.specs.laws.Entries.{nested_entry_within}
use Rattle.ns_moves.specs.Lawful.{HasClass}
use Rattle.ns_moves.specs.lemmas.Later.{later_made}
use Rattle.ns_moves.proofs.FoundThere.{entry_open}

some_nested : (nested : List NestedCode) (place class : ℕ) (one : NestedCode) → slice_get nested place ≡ Some one → one.class ≡ class →
    list_any (λ (n : NestedCode). eqb n.class class) nested ≡ true
some_nested [] zero class one e is = absurd (cc)
some_nested [] (suc place) class one e is = absurd (cc)
some_nested (first ∷ nested) zero class one e is =
    let same : first ≡ one = cc in
    let told : eqb first.class class ≡ true = eq-eqb first.class class (ap (λ (n : NestedCode). n.class) same ∙ is) in rw told refl
some_nested (first ∷ nested) (suc place) class one e is = either (eqb first.class class) (some_nested nested place class one e is)
  where
    either : (b : Bool) → list_any (λ (n : NestedCode). eqb n.class class) nested ≡ true → (b || list_any (λ (n : NestedCode). eqb n.class class) nested) ≡ true
    either true h = refl
    either false h = h

-- the declaration of a holder has the class
pub class_nested : (heap : Heap) (code : CodeProgram) (object holder class : ℕ) → HasClass heap code object holder class →
    has_nested code (declaration_of heap holder) class ≡ true
class_nested heap code object holder class has = let n = has.nested in rw n.class_is (some_nested n.class.nested n.place class n.nested n.nested_is n.decl_is)

pub class_entry : (heap : Heap) (code : CodeProgram) (object holder class : ℕ) → HasClass heap code object holder class
    → nested_entry code (declaration_of heap holder) class < entries_of code (declaration_of heap holder)
class_entry heap code object holder class has =
    nested_entry_within code (declaration_of heap holder) class (class_nested heap code object holder class has)

-- and the object a word for it
pub class_inside : (world : World) (code : CodeProgram) (object holder class : ℕ) → IsLawful world code →
    HasClass world.cells code object holder class
    → entry_word world.cells code holder (nested_entry code (declaration_of world.cells holder) class) < length (open_words_at world.cells object)
class_inside world code object holder class lawful has =
    entry_open world code object holder (nested_entry code (declaration_of world.cells holder) class) lawful has.object_has (class_entry world.cells code object holder class has)

-- so it is where a cell was made
pub class_stays : (world after : World) (code : CodeProgram) (cell : Cell) (object holder class : ℕ) → IsLawful world code →
    IsLawful after code → made world cell ≡ Some after → HasClass world.cells code object holder class
    → HasClass after.cells code object holder class
class_stays world after code cell object holder class before lawful e has =
    let later = later_made code world after cell before lawful e in
    let n = has.nested in
    record {
      object_has = later.holder (Ref object) holder has.object_has;
      holder_is = later.class holder has.holder_is;
      nested = record {
        class = n.class;
        class_is = ap (slice_get code.classes) (later.declaration holder has.holder_is) ∙ n.class_is;
        place = n.place;
        nested = n.nested;
        nested_is = n.nested_is;
        decl_is = n.decl_is;
      };
    }

-- a class's superclass that is no class of the kernel is there
pub superclass_there : (world : World) (code : CodeProgram) (holder class : ℕ) → IsLawful world code →
    superclass_in (find_cell world.cells holder) ≡ Ref class → is_class (find_cell world.cells class) ≡ true
superclass_there world code holder class lawful super = found (find_cell world.cells holder) refl super
  where
    found : (o : Option Cell) → find_cell world.cells holder ≡ o → superclass_in o ≡ Ref class → is_class (find_cell world.cells class) ≡ true
    found (Some (ClassCell decl base encl holder' over)) e s =
        let l = linked world.cells holder decl base encl holder' over lawful.ordered e in ap (λ v. is_superclass world.cells v) (sym s) ∙ l.superclass
    found None e s = absurd (cc)
    found (Some (ObjectCell class' entries)) e s = absurd (cc)
    found (Some (BlockCell body env home receiver holder')) e s = absurd (cc)
    found (Some (EnvironmentCell parent locals)) e s = absurd (cc)
    found (Some (ArrayCell items)) e s = absurd (cc)
    found (Some (TextCell bytes)) e s = absurd (cc)
    found (Some (FacetCell kind)) e s = absurd (cc)
    found (Some (MirrorCell shown)) e s = absurd (cc)
    found (Some (MessageCell name args)) e s = absurd (cc)
