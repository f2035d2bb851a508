-- What the base of a class counts.
use Rattle.std.proofs.Common.{◌≡◌, ℕ, ◌+◌, ◌≤◌, refl, ◌∙◌, arith, Option, Some, None, true}
use Rattle.ns_code.specs.declared.program.CodeProgram.{CodeProgram}
use Rattle.ns_world.specs.Cell.{Cell, ObjectCell, ClassCell, BlockCell, EnvironmentCell, ArrayCell, TextCell, FacetCell, MirrorCell, MessageCell}
use Rattle.ns_world.specs.Heap.{find_cell, is_class, is_chain_start, superclass_of}
use Rattle.ns_world.specs.World.{World}
use Rattle.ns_world.specs.Layout.{declaration_of, base_of, entries_of, layout_of}
use Rattle.ns_world.specs.Lawful.{IsLawful}
use Rattle.ns_world.specs.laws.Above.{goes_on}
use Rattle.ns_classes.specs.laws.Bounds.{lawful_small, layout_few, layout_step}

-- the base of a class is how many entries the classes above it have
pub based : (world : World) (code : CodeProgram) (class : ℕ) → IsLawful world code → is_class (find_cell world.cells class) ≡ true →
    base_of world.cells class ≡ layout_of world.cells code (superclass_of world.cells class)
based world code class lawful h = found (find_cell world.cells class) refl h
  where
    found : (o : Option Cell) → find_cell world.cells class ≡ o → is_class o ≡ true → base_of world.cells class ≡ layout_of world.cells code (superclass_of world.cells class)
    found (Some (ClassCell decl base encl holder over)) e h =
        let is : base_of world.cells class ≡ base = rw e refl in
        is ∙ (lawful.cells class (ClassCell decl base encl holder over) e).based
    found None e h = absurd (cc)
    found (Some (ObjectCell class' entries)) e h = absurd (cc)
    found (Some (BlockCell body env home receiver holder)) e h = absurd (cc)
    found (Some (EnvironmentCell parent locals)) e h = absurd (cc)
    found (Some (ArrayCell items)) e h = absurd (cc)
    found (Some (TextCell bytes)) e h = absurd (cc)
    found (Some (FacetCell kind)) e h = absurd (cc)
    found (Some (MirrorCell mirrored)) e h = absurd (cc)
    found (Some (MessageCell sel args)) e h = absurd (cc)

-- with its own entries they are those of its instances
pub with_own : (world : World) (code : CodeProgram) (class : ℕ) → IsLawful world code → is_class (find_cell world.cells class) ≡ true →
    base_of world.cells class + entries_of code (declaration_of world.cells class) ≡ layout_of world.cells code class
with_own world code class lawful h =
    let g = goes_on world.cells class lawful.ordered (lawful_small world code lawful) h in
    let step = layout_step world.cells code class (superclass_of world.cells class) g.chain in
    omega (arith, step, based world code class lawful h)

-- a base and the entries behind it are few
pub base_few : (world : World) (code : CodeProgram) (class : ℕ) → IsLawful world code → is_class (find_cell world.cells class) ≡ true →
    base_of world.cells class + entries_of code (declaration_of world.cells class) ≤ 33553920
base_few world code class lawful h =
    let start : is_chain_start world.cells class ≡ true = rw h refl in
    omega (arith, with_own world code class lawful h, layout_few world code class lawful start)
