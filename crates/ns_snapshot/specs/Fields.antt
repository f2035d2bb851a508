-- Readers of what a state is made of: numbers, variants, values and sites.
use Rattle.std.specs.Prelude.{ℕ, nat_le, length, List, [], ◌∷◌, Option, Some, None, ◌&&◌, slice_get}
use Rattle.std.specs.Int.{w64}
use Rattle.ns_base.specs.declared.place.Place.{Place}
use Rattle.ns_base.specs.declared.selector.Sel.{Sel}
use Rattle.ns_image.specs.Read.{bad, Reader, ◌>>=◌, and_then, given, checked, number, byte, word, long, times}
use Rattle.ns_world.specs.declared.value.Value.{Value}
use Rattle.ns_world.specs.declared.value.Value.TheVariants as v
use Rattle.ns_world.specs.declared.value.KClass.{KClass}
use Rattle.ns_world.specs.declared.value.KClass.TheVariants as kernel
use Rattle.ns_world.specs.declared.cell.FacetKind.{FacetKind}
use Rattle.ns_world.specs.declared.cell.FacetKind.TheVariants as facet
use Rattle.ns_world.specs.declared.kernel_class.KernelRow.{KernelRow}
use Rattle.ns_world.specs.declared.kernel_class.KernelRow.TheVariants as row
use Rattle.ns_world.specs.declared.kernel.ClassName.{ClassName}
use Rattle.ns_world.specs.declared.kernel.ClassName.TheVariants as name
use Rattle.ns_world.specs.declared.ending.Kind.{Kind}
use Rattle.ns_world.specs.declared.ending.Kind.TheVariants as error
use Rattle.ns_world.specs.declared.ending.LimitKind.{LimitKind}
use Rattle.ns_world.specs.declared.ending.LimitKind.TheVariants as limit
use Rattle.ns_world.specs.declared.kernel_parts.KMethod.{KMethod}
use Rattle.ns_world.specs.declared.kernel_parts.KMethod.TheVariants as method
use Rattle.ns_moves.specs.declared.site.Site.{Site}

-- ---- fields

-- a number of eight bytes
abbrev pub double : Reader ℕ
double = number w64

-- what follows the number of a variant, which is bad where there is none of it; so many bytes were left where it stands
abbrev pub behind : {A : Type 0} → ℕ → Option (Reader A) → Reader A
behind left None rest = bad left
behind left (Some variant) rest = variant rest

-- one of these variants, by its number
unfoldable pub one_of : {A : Type 0} → List (Reader A) → Reader A
one_of variants bytes = and_then (byte bytes) (λ n rest. behind (length bytes) (slice_get variants n) rest)

-- 0 for none, or 1 and the item
unfoldable pub option : {A : Type 0} → Reader A → Reader (Option A)
option item = one_of (given None ∷ (item >>= λ a. given (Some a)) ∷ [])

-- items behind their count
unfoldable pub counted : {A : Type 0} → Reader A → Reader (List A)
counted item = word >>= λ n. times n item

-- a number of eight bytes from 1 to the greatest
abbrev pub from_1_to : ℕ → Reader ℕ
from_1_to greatest = checked (λ n. nat_le 1 n && nat_le n greatest) double

-- the number of a selector
abbrev pub selector : Reader Sel
selector = word >>= λ n. given (record { 0 = n })

-- ---- variants

-- a class object of the kernel
abbrev pub kernel_class : Reader KClass
kernel_class = one_of (given kernel.Object ∷ given kernel.Array ∷ [])

-- a class of the kernel, by its place among them
abbrev pub kernel_row : Reader KernelRow
kernel_row =
    one_of
    (given row.Object
    ∷ given row.ObjectClass
    ∷ given row.ArrayClass
    ∷ given row.Class
    ∷ given row.UndefinedObject
    ∷ given row.Boolean
    ∷ given row.Integer
    ∷ given row.String
    ∷ given row.Symbol
    ∷ given row.Array
    ∷ given row.Block
    ∷ given row.Manifest
    ∷ given row.Platform
    ∷ given row.Kernel
    ∷ given row.Console
    ∷ given row.Board
    ∷ given row.Mirrors
    ∷ given row.Mirror
    ∷ given row.Message
    ∷ [])

-- a kind of error
abbrev pub error_kind : Reader Kind
error_kind =
    one_of
    (given error.NotUnderstood
    ∷ given error.NotPublic
    ∷ given error.Overflow
    ∷ given error.ZeroDivide
    ∷ given error.WrongKind
    ∷ given error.OutOfRange
    ∷ given error.MustBeBoolean
    ∷ given error.DeadReturn
    ∷ given error.WrongArity
    ∷ given error.NotAClass
    ∷ given error.KernelSuper
    ∷ given error.InitMismatch
    ∷ given error.FixedSlot
    ∷ given error.ChainLimit
    ∷ [])

-- a kind of limit
abbrev pub limit_kind : Reader LimitKind
limit_kind = one_of (given limit.Steps ∷ given limit.Cells ∷ given limit.Depth ∷ given limit.Out ∷ [])

-- a kind of facet
abbrev pub facet_kind : Reader FacetKind
facet_kind =
    one_of
    (given facet.Manifest
    ∷ given facet.Platform
    ∷ given facet.Console
    ∷ given facet.Mirrors
    ∷ given facet.Kernel
    ∷ given facet.Board
    ∷ [])

-- a method of the kernel that evaluates blocks
abbrev pub kernel_method : Reader KMethod
kernel_method =
    one_of
    (given method.And
    ∷ given method.Or
    ∷ given method.IfTrue
    ∷ given method.IfFalse
    ∷ given method.IfTrueIfFalse
    ∷ given method.IfFalseIfTrue
    ∷ given method.WhileTrue
    ∷ given method.WhileFalse
    ∷ given method.ToDo
    ∷ given method.TimesRepeat
    ∷ given method.Do
    ∷ [])

-- ---- values and sites

-- a value
unfoldable pub value : Reader Value
value =
    one_of
    (given v.Nil
    ∷ given v.True
    ∷ given v.False
    ∷ (long >>= λ n. given (v.Int n))
    ∷ (selector >>= λ s. given (v.Sym s))
    ∷ (kernel_class >>= λ c. given (v.Kernel c))
    ∷ (word >>= λ at. given (v.Ref at))
    ∷ [])

-- values behind their count
abbrev pub values : Reader (List Value)
values = counted value

-- a place
unfoldable pub place : Reader Place
place = do
  file ← word
  line ← word
  col ← word
  given (record { file = file; line = line; col = col })

-- the name of a class
unfoldable pub class_name : Reader ClassName
class_name =
    one_of ((word >>= λ decl. given (name.Declared decl)) ∷ (word >>= λ decl. given (name.ClassOf decl)) ∷ (kernel_row >>= λ r. given (name.Kernel r)) ∷ [])

-- the site of a send
unfoldable pub site : Reader Site
site = do
  place ← option place
  class ← class_name
  sel ← selector
  given (record { place = place; class = class; sel = sel })
