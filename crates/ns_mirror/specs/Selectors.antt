-- The selectors that a mirror shows.
use Rattle.std.specs.Prelude.{ℕ, List, [], ◌∷◌, ◌==◌, slice_get, if◌then◌else◌}
use Rattle.std.specs.Option.{option_map_or}
use Rattle.ns_code.specs.declared.program.CodeProgram.{CodeProgram}
use Rattle.ns_code.specs.declared.class.ClassCode.{ClassCode}
use Rattle.ns_code.specs.declared.class.MethodCode.{MethodCode}
use Rattle.ns_world.specs.declared.value.Value.{Value}
use Rattle.ns_world.specs.declared.value.Value.TheVariants.{Sym}
use Rattle.ns_world.specs.declared.cell.NewCell.{NewCell}
use Rattle.ns_world.specs.declared.cell.NewCell.TheVariants as new
use Rattle.ns_world.specs.Cell.{ArrayCell}
use Rattle.ns_world.specs.Heap.{Heap, no_class}
use Rattle.ns_world.specs.Layout.{declaration_of}
use Rattle.ns_world.specs.World.{World}
use Rattle.ns_kdata.specs.Arguments.{shape_of_value}
use Rattle.ns_kdata.specs.Outcome.{RowOutcome, making}

-- the selectors of the public methods of a list, as symbols
abbrev pub public_selectors : List MethodCode → List Value
public_selectors [] = []
public_selectors (method ∷ methods) = if method.access == 0 then Sym method.sel ∷ public_selectors methods else public_selectors methods

-- the methods of a declaration, and those of its class side
abbrev pub declared_methods : CodeProgram → ℕ → List MethodCode
declared_methods code decl = option_map_or (λ (class : ClassCode). class.methods) (slice_get code.classes decl) []

abbrev pub declared_side_methods : CodeProgram → ℕ → List MethodCode
declared_side_methods code decl = option_map_or (λ (class : ClassCode). class.side_methods) (slice_get code.classes decl) []

-- the methods of a class, none for the number of no class
abbrev pub methods_of_class : Heap → CodeProgram → ℕ → List MethodCode
methods_of_class heap code class = if class == no_class then [] else declared_methods code (declaration_of heap class)

-- the methods of an object's declaration, those of the class side for a class, none for kernel values
abbrev pub methods_of_shape : Heap → CodeProgram → NewCell → List MethodCode
methods_of_shape heap code (new.Object class words) = methods_of_class heap code class
methods_of_shape heap code (new.Class decl base encl holder over) = declared_side_methods code decl
methods_of_shape heap code cell = []

-- `selectors` of a value
abbrev pub selectors : World → CodeProgram → Value → RowOutcome
selectors world code value =
    making world (ArrayCell (public_selectors (methods_of_shape world.cells code (shape_of_value world.cells value))))
