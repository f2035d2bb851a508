-- The names of classes.
use Rattle.std.specs.Prelude.{ℕ, List, [], ◌++◌, codes, slice_get}
use Rattle.std.specs.Option.{option_map_or}
use Rattle.ns_code.specs.declared.program.CodeProgram.{CodeProgram}
use Rattle.ns_code.specs.declared.class.ClassCode.{ClassCode}
use Rattle.ns_code.specs.Selector.{selector_text}
use Rattle.ns_world.specs.declared.value.Value.{Value}
use Rattle.ns_world.specs.declared.kernel_class.KernelRow.{KernelRow}
use Rattle.ns_world.specs.declared.kernel_class.KernelRow.TheVariants as row
use Rattle.ns_world.specs.declared.kernel.ClassName.{ClassName}
use Rattle.ns_world.specs.declared.kernel.ClassName.TheVariants.{Declared, ClassOf, Kernel}
use Rattle.ns_world.specs.Starts.{class_name_of}
use Rattle.ns_world.specs.Cell.{TextCell}
use Rattle.ns_world.specs.World.{World}
use Rattle.ns_kdata.specs.Outcome.{RowOutcome, making}

-- the names of the kernel's classes
abbrev pub kernel_text : KernelRow → List ℕ
kernel_text row.Object = codes "Object"
kernel_text row.ObjectClass = codes "Object class"
kernel_text row.ArrayClass = codes "Array class"
kernel_text row.Class = codes "Class"
kernel_text row.UndefinedObject = codes "UndefinedObject"
kernel_text row.Boolean = codes "Boolean"
kernel_text row.Integer = codes "Integer"
kernel_text row.String = codes "String"
kernel_text row.Symbol = codes "Symbol"
kernel_text row.Array = codes "Array"
kernel_text row.Block = codes "Block"
kernel_text row.Manifest = codes "Manifest"
kernel_text row.Platform = codes "Platform"
kernel_text row.Kernel = codes "Kernel"
kernel_text row.Console = codes "Console"
kernel_text row.Board = codes "Board"
kernel_text row.Mirrors = codes "Mirrors"
kernel_text row.Mirror = codes "Mirror"
kernel_text row.Message = codes "Message"

-- the name of a declaration
abbrev pub declared_text : CodeProgram → ℕ → List ℕ
declared_text code decl = option_map_or (λ (class : ClassCode). selector_text code class.name.0) (slice_get code.classes decl) []

-- the text of a class name: a class object's is that of its declaration and `class`
abbrev pub class_text : CodeProgram → ClassName → List ℕ
class_text code (Declared decl) = declared_text code decl
class_text code (ClassOf decl) = declared_text code decl ++ codes " class"
class_text code (Kernel named) = kernel_text named

-- `className` of a value
abbrev pub class_name : World → CodeProgram → Value → RowOutcome
class_name world code value = making world (TextCell (class_text code (class_name_of world.cells value)))
