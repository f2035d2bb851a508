-- Where a lookup starts.
use Rattle.std.proofs.Common.{◌≡◌, ℕ, refl, ap, Option, Some, None, Bool, true, false, eqb, ◌||◌}
use Rattle.std.proofs.lemmas.Bool.{eq-eqb}
use Rattle.std.specs.Option.{option_map_or}
use Rattle.ns_code.specs.declared.program.CodeProgram.{CodeProgram}
use Rattle.ns_world.specs.declared.value.Value.{Value}
use Rattle.ns_world.specs.declared.value.Value.TheVariants.{Nil, True, False, Int, Sym, Kernel, Ref}
use Rattle.ns_world.specs.declared.cell.NewCell.TheVariants as new
use Rattle.ns_world.specs.Cell.{Cell, shape_of, ObjectCell, ClassCell, BlockCell, EnvironmentCell, ArrayCell, TextCell, FacetCell, MirrorCell, MessageCell}
use Rattle.ns_world.specs.Heap.{Heap, find_cell, is_class, is_chain_start, no_class}
use Rattle.ns_world.specs.World.{World}
use Rattle.ns_world.specs.Starts.{start_of, start_of_cell, has_class}
use Rattle.ns_world.specs.Lawful.{IsLawful}

named_cell : (world : World) (code : CodeProgram) (at : ℕ) → IsLawful world code → (o : Option Cell) → find_cell world.cells at ≡ o →
    has_class world.cells (start_of_cell (option_map_or shape_of o (new.Mirror Nil)) at) ≡ true
named_cell world code at lawful None e = refl
named_cell world code at lawful (Some (ObjectCell class entries)) e = (lawful.cells at (ObjectCell class entries) e).0.class_is
named_cell world code at lawful (Some (MirrorCell value)) e = refl
named_cell world code at lawful (Some (ClassCell decl base encl holder over)) e = ap is_class e
named_cell world code at lawful (Some (BlockCell body env home receiver holder)) e = refl
named_cell world code at lawful (Some (EnvironmentCell parent locals)) e = refl
named_cell world code at lawful (Some (ArrayCell items)) e = refl
named_cell world code at lawful (Some (TextCell bytes)) e = refl
named_cell world code at lawful (Some (FacetCell kind)) e = refl
named_cell world code at lawful (Some (MessageCell sel args)) e = refl

-- The class at which the lookup of a message to a value starts is there, or is none.
pub class_named : (world : World) (code : CodeProgram) (value : Value) → IsLawful world code →
    has_class world.cells (start_of world.cells value) ≡ true
class_named world code (Ref at) lawful = named_cell world code at lawful (find_cell world.cells at) refl
class_named world code Nil lawful = refl
class_named world code True lawful = refl
class_named world code False lawful = refl
class_named world code (Int number) lawful = refl
class_named world code (Sym sel) lawful = refl
class_named world code (Kernel class) lawful = refl

-- A lookup may start at no class.
pub none_starts : (heap : Heap) → is_chain_start heap no_class ≡ true
none_starts heap = tested (is_class (find_cell heap no_class))
  where
    tested : (b : Bool) → (b || eqb no_class no_class) ≡ true
    tested true = refl
    tested false = eq-eqb no_class no_class refl
