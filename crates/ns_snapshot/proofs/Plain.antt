-- The formats of variants that hold nothing.
use Rattle.std.proofs.Common.{◌≡◌, ℕ, List, [], ◌∷◌, Some, refl, arith}
use Rattle.std.specs.Prelude.{slice_get}
use Rattle.ns_world.specs.declared.value.KClass.{KClass}
use Rattle.ns_world.specs.declared.value.KClass.TheVariants as kernel
use Rattle.ns_world.specs.declared.cell.FacetKind.{FacetKind}
use Rattle.ns_world.specs.declared.cell.FacetKind.TheVariants as facet
use Rattle.ns_world.specs.declared.kernel_class.KernelRow.{KernelRow}
use Rattle.ns_world.specs.declared.kernel_class.KernelRow.TheVariants as row
use Rattle.ns_world.specs.declared.ending.Kind.{Kind}
use Rattle.ns_world.specs.declared.ending.Kind.TheVariants as error
use Rattle.ns_world.specs.declared.ending.LimitKind.{LimitKind}
use Rattle.ns_world.specs.declared.ending.LimitKind.TheVariants as limit
use Rattle.ns_world.specs.Seek.{facet_number}
use Rattle.ns_world.specs.declared.kernel_parts.KMethod.{KMethod}
use Rattle.ns_world.specs.declared.kernel_parts.KMethod.TheVariants as method
use Rattle.ns_image.specs.Bytes as b
use Rattle.ns_image.specs.laws.Format.{Format, Any, rewrite}
use Rattle.ns_snapshot.specs.Bytes as s
use Rattle.ns_snapshot.specs.Fields as fields
use Rattle.ns_snapshot.proofs.Variants.{variants_format}

abbrev classes : List KClass
classes = kernel.Object ∷ kernel.Array ∷ []

abbrev class_number : KClass → ℕ
class_number kernel.Object = 0
class_number kernel.Array = 1

class_there : (c : KClass) → slice_get classes (class_number c) ≡ Some c
class_there kernel.Object = refl
class_there kernel.Array = refl

class_bytes : (c : KClass) → b.byte (class_number c) ≡ s.kernel_class c
class_bytes kernel.Object = refl
class_bytes kernel.Array = refl

pub kernel_class_format : Format fields.kernel_class Any s.kernel_class
kernel_class_format = rewrite (variants_format classes class_number (omega arith) refl class_there) class_bytes

abbrev rows : List KernelRow
rows =
    row.Object
    ∷ row.ObjectClass
    ∷ row.ArrayClass
    ∷ row.Class
    ∷ row.UndefinedObject
    ∷ row.Boolean
    ∷ row.Integer
    ∷ row.String
    ∷ row.Symbol
    ∷ row.Array
    ∷ row.Block
    ∷ row.Manifest
    ∷ row.Platform
    ∷ row.Kernel
    ∷ row.Console
    ∷ row.Board
    ∷ row.Mirrors
    ∷ row.Mirror
    ∷ row.Message
    ∷ []

rows_there : (x : KernelRow) → slice_get rows (s.row_number x) ≡ Some x
rows_there row.Object = refl
rows_there row.ObjectClass = refl
rows_there row.ArrayClass = refl
rows_there row.Class = refl
rows_there row.UndefinedObject = refl
rows_there row.Boolean = refl
rows_there row.Integer = refl
rows_there row.String = refl
rows_there row.Symbol = refl
rows_there row.Array = refl
rows_there row.Block = refl
rows_there row.Manifest = refl
rows_there row.Platform = refl
rows_there row.Kernel = refl
rows_there row.Console = refl
rows_there row.Board = refl
rows_there row.Mirrors = refl
rows_there row.Mirror = refl
rows_there row.Message = refl

pub kernel_row_format : Format fields.kernel_row Any (λ x. b.byte (s.row_number x))
kernel_row_format = variants_format rows s.row_number (omega arith) refl rows_there

abbrev kinds : List Kind
kinds =
    error.NotUnderstood
    ∷ error.NotPublic
    ∷ error.Overflow
    ∷ error.ZeroDivide
    ∷ error.WrongKind
    ∷ error.OutOfRange
    ∷ error.MustBeBoolean
    ∷ error.DeadReturn
    ∷ error.WrongArity
    ∷ error.NotAClass
    ∷ error.KernelSuper
    ∷ error.InitMismatch
    ∷ error.FixedSlot
    ∷ error.ChainLimit
    ∷ []

kinds_there : (x : Kind) → slice_get kinds (s.kind_number x) ≡ Some x
kinds_there error.NotUnderstood = refl
kinds_there error.NotPublic = refl
kinds_there error.Overflow = refl
kinds_there error.ZeroDivide = refl
kinds_there error.WrongKind = refl
kinds_there error.OutOfRange = refl
kinds_there error.MustBeBoolean = refl
kinds_there error.DeadReturn = refl
kinds_there error.WrongArity = refl
kinds_there error.NotAClass = refl
kinds_there error.KernelSuper = refl
kinds_there error.InitMismatch = refl
kinds_there error.FixedSlot = refl
kinds_there error.ChainLimit = refl

pub error_kind_format : Format fields.error_kind Any (λ x. b.byte (s.kind_number x))
error_kind_format = variants_format kinds s.kind_number (omega arith) refl kinds_there

abbrev limit_kinds : List LimitKind
limit_kinds =
    limit.Steps
    ∷ limit.Cells
    ∷ limit.Depth
    ∷ limit.Out
    ∷ []

limit_kinds_there : (x : LimitKind) → slice_get limit_kinds (s.limit_number x) ≡ Some x
limit_kinds_there limit.Steps = refl
limit_kinds_there limit.Cells = refl
limit_kinds_there limit.Depth = refl
limit_kinds_there limit.Out = refl

pub limit_kind_format : Format fields.limit_kind Any (λ x. b.byte (s.limit_number x))
limit_kind_format = variants_format limit_kinds s.limit_number (omega arith) refl limit_kinds_there

abbrev facets : List FacetKind
facets =
    facet.Manifest
    ∷ facet.Platform
    ∷ facet.Console
    ∷ facet.Mirrors
    ∷ facet.Kernel
    ∷ facet.Board
    ∷ []

facets_there : (x : FacetKind) → slice_get facets (facet_number x) ≡ Some x
facets_there facet.Manifest = refl
facets_there facet.Platform = refl
facets_there facet.Console = refl
facets_there facet.Mirrors = refl
facets_there facet.Kernel = refl
facets_there facet.Board = refl

pub facet_kind_format : Format fields.facet_kind Any (λ x. b.byte (facet_number x))
facet_kind_format = variants_format facets facet_number (omega arith) refl facets_there

abbrev methods : List KMethod
methods =
    method.And
    ∷ method.Or
    ∷ method.IfTrue
    ∷ method.IfFalse
    ∷ method.IfTrueIfFalse
    ∷ method.IfFalseIfTrue
    ∷ method.WhileTrue
    ∷ method.WhileFalse
    ∷ method.ToDo
    ∷ method.TimesRepeat
    ∷ method.Do
    ∷ []

methods_there : (x : KMethod) → slice_get methods (s.method_number x) ≡ Some x
methods_there method.And = refl
methods_there method.Or = refl
methods_there method.IfTrue = refl
methods_there method.IfFalse = refl
methods_there method.IfTrueIfFalse = refl
methods_there method.IfFalseIfTrue = refl
methods_there method.WhileTrue = refl
methods_there method.WhileFalse = refl
methods_there method.ToDo = refl
methods_there method.TimesRepeat = refl
methods_there method.Do = refl

pub kernel_method_format : Format fields.kernel_method Any (λ x. b.byte (s.method_number x))
kernel_method_format = variants_format methods s.method_number (omega arith) refl methods_there
