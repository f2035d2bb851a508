-- What a lawful mixin encloses.
use Rattle.std.proofs.Common.{◌≡◌, ℕ, refl, sym, Option, Some, None}
use Rattle.std.specs.Option.{option_map_or}
use Rattle.ns_code.specs.declared.program.CodeProgram.{CodeProgram}
use Rattle.ns_world.specs.declared.value.Value.{Value}
use Rattle.ns_world.specs.declared.value.Value.TheVariants.{Nil, True, False, Int, Sym, Kernel, Ref}
use Rattle.ns_world.specs.declared.cell.NewCell.TheVariants as new
use Rattle.ns_world.specs.Cell.{Cell, ObjectCell, ClassCell, BlockCell, EnvironmentCell, ArrayCell, TextCell, FacetCell, MirrorCell, MessageCell, shape_of}
use Rattle.ns_world.specs.Heap.{find_cell}
use Rattle.ns_world.specs.World.{World}
use Rattle.ns_world.specs.Lawful.{IsLawful}
use Rattle.ns_world.specs.Keeping.{IsEnclosed}
use Rattle.ns_kdata.specs.Arguments.{shape_of_value}

-- the declaration, the enclosing object and the holder of a class fit each other
pub mixin_enclosed : (world : World) (code : CodeProgram) (mixin : Value) (decl base : ℕ) (encl holder under : Value) →
    IsLawful world code → shape_of_value world.cells mixin ≡ new.Class decl base encl holder under →
    IsEnclosed world.cells code decl encl holder
mixin_enclosed world code (Ref at) decl base encl holder under lawful is = cell (find_cell world.cells at) refl is
  where
    cell : (o : Option Cell) → find_cell world.cells at ≡ o → option_map_or shape_of o (new.Mirror Nil) ≡ new.Class decl base encl holder under → IsEnclosed world.cells code decl encl holder
    cell (Some (ClassCell decl' base' encl' holder' over)) e same =
        let class = lawful.cells at (ClassCell decl' base' encl' holder' over) e in
        let is_decl : decl' ≡ decl = cc in
        let is_encl : encl' ≡ encl = cc in
        let is_holder : holder' ≡ holder = cc in
        rw (sym is_decl, sym is_encl, sym is_holder) (class.declared, class.enclosing)
    cell (Some (ObjectCell class entries)) e same = absurd (cc)
    cell (Some (BlockCell body env home receiver holder')) e same = absurd (cc)
    cell (Some (EnvironmentCell parent locals)) e same = absurd (cc)
    cell (Some (ArrayCell items)) e same = absurd (cc)
    cell (Some (TextCell bytes)) e same = absurd (cc)
    cell (Some (FacetCell kind)) e same = absurd (cc)
    cell (Some (MirrorCell mirrored)) e same = absurd (cc)
    cell (Some (MessageCell sel args)) e same = absurd (cc)
    cell None e same = absurd (cc)
mixin_enclosed world code Nil decl base encl holder under lawful is = absurd (cc)
mixin_enclosed world code True decl base encl holder under lawful is = absurd (cc)
mixin_enclosed world code False decl base encl holder under lawful is = absurd (cc)
mixin_enclosed world code (Int number) decl base encl holder under lawful is = absurd (cc)
mixin_enclosed world code (Sym sel) decl base encl holder under lawful is = absurd (cc)
mixin_enclosed world code (Kernel class) decl base encl holder under lawful is = absurd (cc)
