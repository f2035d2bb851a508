-- Enclosing objects are live.
use Rattle.std.proofs.Common.{◌≡◌, ℕ, slice_get, refl, sym, Option, Some, None, IsSome, Bool, true, false, cond, eqb, subst}
use Rattle.std.specs.Option.{option_map_or, ForSome}
use Rattle.ns_code.specs.declared.program.CodeProgram.{CodeProgram}
use Rattle.ns_code.specs.declared.class.ClassCode.{ClassCode}
use Rattle.ns_world.specs.declared.value.Value.{Value}
use Rattle.ns_world.specs.declared.value.Value.TheVariants.{Nil, True, False, Int, Sym, Kernel, Ref}
use Rattle.ns_world.specs.declared.cell.NewCell.TheVariants as new
use Rattle.ns_world.specs.Cell.{Cell, shape_of, ObjectCell, ClassCell, BlockCell, EnvironmentCell, ArrayCell, TextCell, FacetCell, MirrorCell, MessageCell}
use Rattle.ns_world.specs.Heap.{Heap, find_cell, no_class, shape_at}
use Rattle.ns_world.specs.World.{World}
use Rattle.ns_world.specs.Lawful.{IsLawful, IsLiveValue, HasHolder, HasEnclosing, class_of_object}
use Rattle.ns_mirror.specs.Looking.{enclosing, enclosing_in, enclosing_of_class, enclosing_of_shape}

object_there : (heap : Heap) (code : CodeProgram) (at : ℕ) → (o : Option Cell) → find_cell heap at ≡ o → IsSome (class_of_object o) →
    IsLiveValue heap code (Ref at)
object_there heap code at (Some (ObjectCell class entries)) e h = (rw e refl, rw e refl)
object_there heap code at None e h = absurd (let t : false ≡ true = h in cc)
object_there heap code at (Some (ClassCell decl base encl holder over)) e h = absurd (let t : false ≡ true = h in cc)
object_there heap code at (Some (BlockCell body env home receiver holder)) e h = absurd (let t : false ≡ true = h in cc)
object_there heap code at (Some (EnvironmentCell parent locals)) e h = absurd (let t : false ≡ true = h in cc)
object_there heap code at (Some (ArrayCell items)) e h = absurd (let t : false ≡ true = h in cc)
object_there heap code at (Some (TextCell bytes)) e h = absurd (let t : false ≡ true = h in cc)
object_there heap code at (Some (FacetCell kind)) e h = absurd (let t : false ≡ true = h in cc)
object_there heap code at (Some (MirrorCell shown)) e h = absurd (let t : false ≡ true = h in cc)
object_there heap code at (Some (MessageCell sel' args)) e h = absurd (let t : false ≡ true = h in cc)

holder_live : (heap : Heap) (code : CodeProgram) (encl : Value) (holder : ℕ) → HasHolder heap encl holder → IsLiveValue heap code encl
holder_live heap code Nil holder h = absurd h
holder_live heap code True holder h = absurd h
holder_live heap code False holder h = absurd h
holder_live heap code (Int number) holder h = absurd h
holder_live heap code (Sym sel) holder h = absurd h
holder_live heap code (Kernel class) holder h = absurd h
holder_live heap code (Ref at) holder h = object_there heap code at (find_cell heap at) refl (h.1)

enclosed_live : (heap : Heap) (code : CodeProgram) (outer : Option ℕ) (encl holder : Value) → HasEnclosing heap code outer encl holder →
    IsLiveValue heap code encl
enclosed_live heap code None encl holder h = subst (IsLiveValue heap code) (sym (h.0)) (tt, refl)
enclosed_live heap code (Some outer) encl Nil h = absurd h
enclosed_live heap code (Some outer) encl True h = absurd h
enclosed_live heap code (Some outer) encl False h = absurd h
enclosed_live heap code (Some outer) encl (Int number) h = absurd h
enclosed_live heap code (Some outer) encl (Sym sel) h = absurd h
enclosed_live heap code (Some outer) encl (Kernel class) h = absurd h
enclosed_live heap code (Some outer) encl (Ref at) h = holder_live heap code encl at (h.0)

class_encl_live : (heap : Heap) (code : CodeProgram) (encl holder : Value) → (o : Option ClassCode) → IsSome o →
    ForSome o (λ (class : ClassCode). HasEnclosing heap code class.outer encl holder) → IsLiveValue heap code encl
class_encl_live heap code encl holder None there h = absurd (let t : false ≡ true = there in cc)
class_encl_live heap code encl holder (Some class) there h = enclosed_live heap code class.outer encl holder (h class refl)

class_cell_live : (world : World) (code : CodeProgram) (at : ℕ) → IsLawful world code → (o : Option Cell) → find_cell world.cells at ≡ o →
    IsLiveValue world.cells code (enclosing_in (option_map_or shape_of o (new.Mirror Nil)))
class_cell_live world code at lawful (Some (ClassCell decl base encl holder over)) e =
    let l = lawful.cells at (ClassCell decl base encl holder over) e in
    class_encl_live world.cells code encl holder (slice_get code.classes decl) l.declared l.enclosing
class_cell_live world code at lawful None e = (tt, refl)
class_cell_live world code at lawful (Some (ObjectCell class entries)) e = (tt, refl)
class_cell_live world code at lawful (Some (BlockCell body env home receiver holder)) e = (tt, refl)
class_cell_live world code at lawful (Some (EnvironmentCell parent locals)) e = (tt, refl)
class_cell_live world code at lawful (Some (ArrayCell items)) e = (tt, refl)
class_cell_live world code at lawful (Some (TextCell bytes)) e = (tt, refl)
class_cell_live world code at lawful (Some (FacetCell kind)) e = (tt, refl)
class_cell_live world code at lawful (Some (MirrorCell shown)) e = (tt, refl)
class_cell_live world code at lawful (Some (MessageCell sel' args)) e = (tt, refl)

of_class_live : (world : World) (code : CodeProgram) (class : ℕ) → IsLawful world code →
    IsLiveValue world.cells code (enclosing_of_class world.cells class)
of_class_live world code class lawful = tested (eqb class no_class)
  where
    tested : (b : Bool) → IsLiveValue world.cells code (cond b Nil (enclosing_in (shape_at world.cells class)))
    tested true = (tt, refl)
    tested false = class_cell_live world code class lawful (find_cell world.cells class) refl

shape_live : (world : World) (code : CodeProgram) (at : ℕ) → IsLawful world code → (o : Option Cell) → find_cell world.cells at ≡ o →
    IsLiveValue world.cells code (enclosing_of_shape world.cells (option_map_or shape_of o (new.Mirror Nil)))
shape_live world code at lawful (Some (ObjectCell class entries)) e = of_class_live world code class lawful
shape_live world code at lawful None e = (tt, refl)
shape_live world code at lawful (Some (ClassCell decl base encl holder over)) e =
    class_cell_live world code at lawful (Some (ClassCell decl base encl holder over)) e
shape_live world code at lawful (Some (BlockCell body env home receiver holder)) e =
    class_cell_live world code at lawful (Some (BlockCell body env home receiver holder)) e
shape_live world code at lawful (Some (EnvironmentCell parent locals)) e =
    class_cell_live world code at lawful (Some (EnvironmentCell parent locals)) e
shape_live world code at lawful (Some (ArrayCell items)) e = class_cell_live world code at lawful (Some (ArrayCell items)) e
shape_live world code at lawful (Some (TextCell bytes)) e = class_cell_live world code at lawful (Some (TextCell bytes)) e
shape_live world code at lawful (Some (FacetCell kind)) e = class_cell_live world code at lawful (Some (FacetCell kind)) e
shape_live world code at lawful (Some (MirrorCell shown)) e = class_cell_live world code at lawful (Some (MirrorCell shown)) e
shape_live world code at lawful (Some (MessageCell sel' args)) e = class_cell_live world code at lawful (Some (MessageCell sel' args)) e

pub enclosing_live : (world : World) (code : CodeProgram) (value : Value) → IsLawful world code →
    IsLiveValue world.cells code (enclosing world.cells value)
enclosing_live world code Nil lawful = (tt, refl)
enclosing_live world code True lawful = (tt, refl)
enclosing_live world code False lawful = (tt, refl)
enclosing_live world code (Int number) lawful = (tt, refl)
enclosing_live world code (Sym sel) lawful = (tt, refl)
enclosing_live world code (Kernel class) lawful = (tt, refl)
enclosing_live world code (Ref at) lawful = shape_live world code at lawful (find_cell world.cells at) refl
