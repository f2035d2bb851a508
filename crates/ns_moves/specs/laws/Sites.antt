-- The site of a send names a class of the code.
use Rattle.std.proofs.Common.{◌≡◌, ℕ, length, slice_get, refl, ap, sym, ◌∙◌, Option, Some, None, Bool, true, false, cond, eqb}
use Rattle.std.proofs.lemmas.Bool.{lt-ltb}
use Rattle.std.proofs.lemmas.Option.{slice_get_within}
use Rattle.std.specs.Prelude.{◌<◌, IsTrue, IsSome, nat_lt}
use Rattle.std.specs.Option.{option_map_or, ForSome}
use Rattle.ns_base.specs.declared.place.Place.{Place}
use Rattle.ns_base.specs.declared.selector.Sel.{Sel}
use Rattle.ns_code.specs.declared.program.CodeProgram.{CodeProgram}
use Rattle.ns_code.specs.declared.class.ClassCode.{ClassCode}
use Rattle.ns_code.specs.Selector.{is_selector_number}
use Rattle.ns_world.specs.declared.value.Value.{Value}
use Rattle.ns_world.specs.declared.value.Value.TheVariants as value
use Rattle.ns_world.specs.declared.cell.NewCell.TheVariants as new
use Rattle.ns_world.specs.declared.kernel.ClassName.TheVariants as name
use Rattle.ns_world.specs.declared.kernel_class.KernelRow.TheVariants as row
use Rattle.ns_world.specs.declared.kernel.Start.TheVariants as start
use Rattle.ns_world.specs.Cell.{Cell, ObjectCell, ClassCell, BlockCell, EnvironmentCell, ArrayCell, TextCell, FacetCell, MirrorCell, MessageCell, shape_of}
use Rattle.ns_world.specs.Heap.{find_cell, is_class, is_chain_start, no_class}
use Rattle.ns_world.specs.Layout.{declaration_of}
use Rattle.ns_world.specs.Starts.{start_of_cell, class_name_at, class_name_of}
use Rattle.ns_world.specs.World.{World}
use Rattle.ns_world.specs.Lawful.{IsLawful}
use Rattle.ns_world.specs.laws.Above.{class_of_start}
use Rattle.ns_moves.specs.Control.{Progress}
use Rattle.ns_moves.specs.Sends.{site_at}
use Rattle.ns_moves.specs.Lawful.{LawfulRun}
use Rattle.ns_moves.specs.Fitting.{names_class, FitsSite}
use Rattle.ns_moves.specs.lemmas.Fitting.{class_there}

-- the declaration of a class is one of the code
declared : (world : World) (code : CodeProgram) (class : ℕ) → IsLawful world code → is_class (find_cell world.cells class) ≡ true →
    nat_lt (declaration_of world.cells class) (length code.classes) ≡ true
declared world code class lawful is =
    found (slice_get code.classes (declaration_of world.cells class)) refl (class_there world code class lawful is)
  where
    found : (o : Option ClassCode) → slice_get code.classes (declaration_of world.cells class) ≡ o → IsSome o → nat_lt (declaration_of world.cells class) (length code.classes) ≡ true
    found (Some c) e some = lt-ltb (declaration_of world.cells class) (length code.classes) (slice_get_within code.classes (declaration_of world.cells class) c e)
    found None e some = absurd (cc)

-- the class of an object is one, or the kernel's Object
instance_named : (world : World) (code : CodeProgram) (class : ℕ) → IsLawful world code → is_chain_start world.cells class ≡ true →
    names_class code (class_name_at world.cells (start.Instance class)) ≡ true
instance_named world code class lawful from = tested (eqb class no_class) refl
  where
    tested : (b : Bool) → eqb class no_class ≡ b → names_class code (cond b (name.Kernel row.Object) (name.Declared (declaration_of world.cells class))) ≡ true
    tested true t = refl
    tested false t = declared world code class lawful (class_of_start world.cells class from (λ e. let wrong : true ≡ false = sym e ∙ t in cc))

class_named : (world : World) (code : CodeProgram) (receiver : Value) → IsLawful world code →
    names_class code (class_name_of world.cells receiver) ≡ true
class_named world code (value.Ref at) lawful = cell (find_cell world.cells at) refl
  where
    cell : (o : Option Cell) → find_cell world.cells at ≡ o → names_class code (class_name_at world.cells (start_of_cell (option_map_or shape_of o (new.Mirror value.Nil)) at)) ≡ true
    cell None e = refl
    cell (Some (ObjectCell class entries)) e = instance_named world code class lawful (lawful.cells at (ObjectCell class entries) e).0.class_is
    cell (Some (ClassCell decl base encl holder over)) e = declared world code at lawful (ap is_class e)
    cell (Some (BlockCell body env home receiver holder)) e = refl
    cell (Some (EnvironmentCell parent locals)) e = refl
    cell (Some (ArrayCell items)) e = refl
    cell (Some (TextCell bytes)) e = refl
    cell (Some (FacetCell kind)) e = refl
    cell (Some (MirrorCell shown)) e = refl
    cell (Some (MessageCell sel args)) e = refl
class_named world code value.Nil lawful = refl
class_named world code value.True lawful = refl
class_named world code value.False lawful = refl
class_named world code (value.Int number) lawful = refl
class_named world code (value.Sym sel) lawful = refl
class_named world code (value.Kernel class) lawful = refl

-- In a lawful run the site of a send fits the code.
pub site_fits : (code : CodeProgram) (receiver : Value) (sel : Sel) (place : Option Place) (progress : Progress) → LawfulRun code progress →
    IsTrue (is_selector_number code sel.0) → ForSome place (λ (place : Place). place.file < length code.files)
    → FitsSite code (site_at progress.world.cells place receiver sel)
site_fits code receiver sel place progress lawful is file =
    record { place = file; class = class_named progress.world code receiver lawful; sel = is }
