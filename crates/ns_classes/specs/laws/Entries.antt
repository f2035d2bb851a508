-- The entries of a holder stand within each object whose chain has it.
use Rattle.std.proofs.Common.{◌≡◌, ℕ, zero, suc, ◌+◌, ◌<◌, ◌≤◌, List, [], ◌∷◌, length, slice_get, get_or, refl, ap, sym, ◌∙◌, arith, Option, Some, None, true, false, Bool, eqb, IsSome, Contains, cond, ◌||◌, subst}
use Rattle.std.specs.Option.{option_map_or, ForSome}
use Rattle.std.specs.List.{list_any}
use Rattle.std.proofs.lemmas.Option.{slice_get_past}
use Rattle.ns_code.specs.declared.program.CodeProgram.{CodeProgram}
use Rattle.ns_code.specs.declared.class.ClassCode.{ClassCode}
use Rattle.ns_code.specs.declared.class.NestedCode.{NestedCode}
use Rattle.ns_world.specs.declared.value.Value.TheVariants.{Ref}
use Rattle.ns_world.specs.Cell.{Cell, ObjectCell, ClassCell, BlockCell, EnvironmentCell, ArrayCell, TextCell, FacetCell, MirrorCell, MessageCell}
use Rattle.ns_world.specs.Heap.{find_cell, is_chain_start, chain_of, superclass_of, words_at}
use Rattle.ns_world.specs.World.{World}
use Rattle.ns_world.specs.Layout.{declaration_of, entries_of, layout_of, entry_word}
use Rattle.ns_world.specs.Lawful.{IsLawful, HasHolder, class_of_object}
use Rattle.ns_world.specs.laws.Above.{ChainGoesOn}
use Rattle.ns_world.specs.laws.Classes.{lawful_order, started as goes_on_from}
use Rattle.ns_classes.specs.Nested.{place_of, has_nested, nested_entry}
use Rattle.ns_classes.specs.laws.Bounds.{layout_step}

-- past the last declaration there is no entry
pub nested_entry_past : (code : CodeProgram) (decl class : ℕ) → length code.classes ≤ decl → 0 ≡ nested_entry code decl class
nested_entry_past code decl class h = rw (slice_get_past code.classes decl h) refl

place_within : (nested : List NestedCode) (class : ℕ) → list_any (λ (one : NestedCode). eqb one.class class) nested ≡ true →
    place_of nested class < length nested
place_within [] class h = absurd (cc)
place_within (one ∷ nested) class h = tested (eqb one.class class) h (place_within nested class)
  where
    tested : (b : Bool) → (b || list_any (λ (other : NestedCode). eqb other.class class) nested) ≡ true → (list_any (λ (other : NestedCode). eqb other.class class) nested ≡ true → place_of nested class < length nested) → cond b 0 (1 + place_of nested class) < suc (length nested)
    tested true e below = omega arith
    tested false e below = omega (arith, below e)

-- a nested class's entry is one of its declaration
pub nested_entry_within : (code : CodeProgram) (decl class : ℕ) → has_nested code decl class ≡ true →
    nested_entry code decl class < entries_of code decl
nested_entry_within code decl class h = found (slice_get code.classes decl) refl h
  where
    found : (o : Option ClassCode) → slice_get code.classes decl ≡ o → option_map_or (λ (c : ClassCode). list_any (λ (one : NestedCode). eqb one.class class) c.nested) o false ≡ true → option_map_or (λ (c : ClassCode). length c.slots + place_of c.nested class) (slice_get code.classes decl) 0 < option_map_or (λ (c : ClassCode). length c.slots + length c.nested) (slice_get code.classes decl) 0
    found None e h = absurd (cc)
    found (Some c) e h = rw e (omega (arith, place_within c.nested class h))

-- What is known of the class at which a chain that isn't empty starts.
pub started : (world : World) (code : CodeProgram) (class k : ℕ) → IsLawful world code → is_chain_start world.cells class ≡ true →
    k < length (chain_of world.cells class) → ChainGoesOn world.cells class
started world code class k lawful s h = (goes_on_from world.cells class k (lawful_order world code lawful) s h).0

-- the entries of a class in a chain, and of those above it, are among those of the chain
pub along : (world : World) (code : CodeProgram) (k class holder : ℕ) → IsLawful world code → is_chain_start world.cells class ≡ true →
    k < length (chain_of world.cells class) → get_or (chain_of world.cells class) k holder ≡ holder →
    layout_of world.cells code (superclass_of world.cells holder) + entries_of code (declaration_of world.cells holder) ≤ layout_of world.cells code class
along world code zero class holder lawful s h e =
    let g = started world code class zero lawful s h in
    let is : class ≡ holder = sym (ap (λ ms. get_or ms 0 holder) g.chain) ∙ e in
    let step = layout_step world.cells code class (superclass_of world.cells class) g.chain in
    let P : ℕ → Type 0 = λ n. layout_of world.cells code (superclass_of world.cells n) + entries_of code (declaration_of world.cells n) ≤ layout_of world.cells code class in
    subst P is (omega (arith, step))
along world code (suc k) class holder lawful s h e =
    let g = started world code class (suc k) lawful s h in
    let step = layout_step world.cells code class (superclass_of world.cells class) g.chain in
    let inside : k < length (chain_of world.cells (superclass_of world.cells class)) = omega (arith, h, ap length g.chain) in
    let there : get_or (chain_of world.cells (superclass_of world.cells class)) k holder ≡ holder = sym (ap (λ ms. get_or ms (suc k) holder) g.chain) ∙ e in
    omega (arith, step, along world code k (superclass_of world.cells class) holder lawful g.start inside there)

-- an entry's word is one of the object
pub entry_inside : (world : World) (code : CodeProgram) (object holder entry : ℕ) → IsLawful world code →
    HasHolder world.cells (Ref object) holder → entry < entries_of code (declaration_of world.cells holder) →
    entry_word world.cells code holder entry < length (words_at world.cells object)
entry_inside world code object holder entry lawful h within = found (find_cell world.cells object) refl h.0 h.1
  where
    found : (o : Option Cell) → find_cell world.cells object ≡ o → ForSome (class_of_object o) (λ class. Contains (chain_of world.cells class) holder) → IsSome (class_of_object o) → entry_word world.cells code holder entry < length (words_at world.cells object)
    found (Some (ObjectCell class entries)) e c s =
        let l = (lawful.cells object (ObjectCell class entries) e).0 in
        let k = c class refl in
        let a = along world code k.0 class holder lawful l.class_is k.1 k.2 in
        rw e (omega (arith, a, l.words, within))
    found None e c s = absurd (cc)
    found (Some (ClassCell decl base encl holder' over)) e c s = absurd (cc)
    found (Some (BlockCell body env home receiver holder')) e c s = absurd (cc)
    found (Some (EnvironmentCell parent locals)) e c s = absurd (cc)
    found (Some (ArrayCell items)) e c s = absurd (cc)
    found (Some (TextCell bytes)) e c s = absurd (cc)
    found (Some (FacetCell kind)) e c s = absurd (cc)
    found (Some (MirrorCell mirrored)) e c s = absurd (cc)
    found (Some (MessageCell sel args)) e c s = absurd (cc)
