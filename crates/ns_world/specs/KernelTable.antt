-- The kernel's table: class by class the text that calls each row, its access, and what answers it. A row's number is its
-- place in the table, counted from 0.
use Rattle.std.specs.Prelude.{◌≡◌, ℕ, ◌+◌, ◌-◌, List, [], ◌∷◌, map, flat_map, length, take, drop, slice_get, codes, Bool, false, Option, Some, None, if◌then◌else◌}
use Rattle.std.specs.List.{slice_index_or}
use Rattle.std.specs.Str.{bytes_eq}
use Rattle.ns_code.specs.Access.{public_access, protected_access}
use Rattle.ns_world.specs.declared.kernel_class.KernelRow.{KernelRow}
use Rattle.ns_world.specs.declared.kernel_class.KernelRow.TheVariants as row
use Rattle.ns_world.specs.declared.kernel_parts.DataRow.TheVariants as values
use Rattle.ns_world.specs.declared.kernel_parts.IntRow.TheVariants as int
use Rattle.ns_world.specs.declared.kernel_parts.FacetRow.TheVariants as facet
use Rattle.ns_world.specs.declared.kernel_parts.MirrorRow.TheVariants as mirror
use Rattle.ns_world.specs.declared.kernel_parts.KMethod.TheVariants as method
use Rattle.ns_world.specs.declared.kernel_row.Row.{Row}
use Rattle.ns_world.specs.declared.kernel_row.Row.TheVariants.{Data, Integer, Top, Facet, Mirror, Method, Apply, Value, ValueWithArguments, NumArgs}

-- a row; one without a text is called by the names of the top-level classes
pub record Line : Type 0 where
  pub text : Option (List ℕ)
  pub access : ℕ
  pub answer : Row

-- a row that every send reaches
abbrev pub open_row : List ℕ → Row → Line
open_row text answer = record { text = Some text; access = public_access; answer = answer }

-- a row that plain sends don't reach
abbrev pub inner_row : List ℕ → Row → Line
inner_row text answer = record { text = Some text; access = protected_access; answer = answer }

-- a row that is called by the names of the top-level classes
abbrev pub named_row : Row → Line
named_row answer = record { text = None; access = public_access; answer = answer }

-- the table: the rows of each class
abbrev pub lines_of : KernelRow → List Line
lines_of row.Object =
    open_row (codes "==") (Data values.Identical)
    ∷ open_row (codes "=") (Data values.Equal)
    ∷ open_row (codes "isNil") (Data values.IsNil)
    ∷ open_row (codes "notNil") (Data values.NotNil)
    ∷ inner_row (codes "Object") (Data values.KernelObject)
    ∷ inner_row (codes "doesNotUnderstand:") (Data values.DoesNotUnderstand) ∷ []
lines_of row.ObjectClass = open_row (codes "new") (Data values.NewObject) ∷ []
lines_of row.ArrayClass = open_row (codes "new:") (Data values.NewArray) ∷ []
lines_of row.Class = open_row (codes "<:") Apply ∷ []
lines_of row.UndefinedObject = open_row (codes "printString") (Data values.NilPrint) ∷ []
lines_of row.Boolean =
    open_row (codes "not") (Data values.Not)
    ∷ open_row (codes "printString") (Data values.BooleanPrint)
    ∷ open_row (codes "&") (Data values.And)
    ∷ open_row (codes "|") (Data values.Or)
    ∷ open_row (codes "and:") (Method method.And)
    ∷ open_row (codes "or:") (Method method.Or)
    ∷ open_row (codes "ifTrue:") (Method method.IfTrue)
    ∷ open_row (codes "ifFalse:") (Method method.IfFalse)
    ∷ open_row (codes "ifTrue:ifFalse:") (Method method.IfTrueIfFalse)
    ∷ open_row (codes "ifFalse:ifTrue:") (Method method.IfFalseIfTrue) ∷ []
lines_of row.Integer =
    open_row (codes "+") (Integer int.Add)
    ∷ open_row (codes "-") (Integer int.Subtract)
    ∷ open_row (codes "*") (Integer int.Multiply)
    ∷ open_row (codes "//") (Integer int.Quotient)
    ∷ open_row (codes "\\\\") (Integer int.Remainder)
    ∷ open_row (codes "<") (Integer int.Less)
    ∷ open_row (codes "<=") (Integer int.LessEqual)
    ∷ open_row (codes ">") (Integer int.Greater)
    ∷ open_row (codes ">=") (Integer int.GreaterEqual)
    ∷ open_row (codes "=") (Integer int.Equal)
    ∷ open_row (codes "bitAnd:") (Integer int.BitAnd)
    ∷ open_row (codes "bitOr:") (Integer int.BitOr)
    ∷ open_row (codes "bitXor:") (Integer int.BitXor)
    ∷ open_row (codes "negated") (Integer int.Negated)
    ∷ open_row (codes "printString") (Data values.IntegerPrint)
    ∷ open_row (codes "to:do:") (Method method.ToDo)
    ∷ open_row (codes "timesRepeat:") (Method method.TimesRepeat) ∷ []
lines_of row.String =
    open_row (codes "size") (Data values.TextSize)
    ∷ open_row (codes "at:") (Data values.TextAt)
    ∷ open_row (codes "copyFrom:to:") (Data values.TextCopy)
    ∷ open_row (codes ",") (Data values.TextJoin)
    ∷ open_row (codes "=") (Data values.TextEqual)
    ∷ open_row (codes "<") (Data values.TextLess)
    ∷ open_row (codes "printString") (Data values.TextPrint) ∷ []
lines_of row.Symbol =
    open_row (codes "size") (Data values.SymbolSize)
    ∷ open_row (codes "asString") (Data values.SymbolText)
    ∷ open_row (codes "printString") (Data values.SymbolPrint)
    ∷ open_row (codes "<") (Data values.SymbolLess) ∷ []
lines_of row.Array =
    open_row (codes "size") (Data values.ArraySize)
    ∷ open_row (codes "at:") (Data values.ArrayAt)
    ∷ open_row (codes "at:put:") (Data values.ArrayPut)
    ∷ open_row (codes "do:") (Method method.Do) ∷ []
lines_of row.Block =
    open_row (codes "value") Value
    ∷ open_row (codes "value:") Value
    ∷ open_row (codes "value:value:") Value
    ∷ open_row (codes "value:value:value:") Value
    ∷ open_row (codes "valueWithArguments:") ValueWithArguments
    ∷ open_row (codes "numArgs") NumArgs
    ∷ open_row (codes "whileTrue:") (Method method.WhileTrue)
    ∷ open_row (codes "whileFalse:") (Method method.WhileFalse) ∷ []
lines_of row.Manifest = named_row Top ∷ []
lines_of row.Platform =
    open_row (codes "console") (Facet facet.PlatformConsole)
    ∷ open_row (codes "kernel") (Facet facet.PlatformKernel)
    ∷ open_row (codes "mirrors") (Facet facet.PlatformMirrors)
    ∷ open_row (codes "board") (Facet facet.PlatformBoard) ∷ []
lines_of row.Kernel =
    open_row (codes "Object") (Facet facet.KernelObject)
    ∷ open_row (codes "Array") (Facet facet.KernelArray) ∷ []
lines_of row.Console =
    open_row (codes "print:") (Facet facet.ConsolePrint)
    ∷ open_row (codes "printLine:") (Facet facet.ConsolePrintLine) ∷ []
lines_of row.Board =
    open_row (codes "at:") (Facet facet.BoardAt)
    ∷ open_row (codes "at:put:") (Facet facet.BoardPut) ∷ []
lines_of row.Mirrors = open_row (codes "on:") (Mirror mirror.On) ∷ []
lines_of row.Mirror =
    open_row (codes "className") (Mirror mirror.ClassName)
    ∷ open_row (codes "slotNames") (Mirror mirror.SlotNames)
    ∷ open_row (codes "slot:") (Mirror mirror.Slot)
    ∷ open_row (codes "slot:put:") (Mirror mirror.SlotPut)
    ∷ open_row (codes "selectors") (Mirror mirror.Selectors)
    ∷ open_row (codes "enclosing") (Mirror mirror.Enclosing)
    ∷ open_row (codes "perform:with:") (Mirror mirror.Perform) ∷ []
lines_of row.Message =
    open_row (codes "selector") (Data values.MessageSelector)
    ∷ open_row (codes "arguments") (Data values.MessageArguments) ∷ []

-- the classes, in their order
abbrev pub classes : List KernelRow
classes =
    row.Object ∷ row.ObjectClass ∷ row.ArrayClass ∷ row.Class ∷ row.UndefinedObject ∷ row.Boolean ∷ row.Integer ∷ row.String ∷ row.Symbol ∷ row.Array
    ∷ row.Block ∷ row.Manifest ∷ row.Platform ∷ row.Kernel ∷ row.Console ∷ row.Board ∷ row.Mirrors ∷ row.Mirror ∷ row.Message ∷ []

-- the place of a class in that order
abbrev pub class_place : KernelRow → ℕ
class_place row.Object = 0
class_place row.ObjectClass = 1
class_place row.ArrayClass = 2
class_place row.Class = 3
class_place row.UndefinedObject = 4
class_place row.Boolean = 5
class_place row.Integer = 6
class_place row.String = 7
class_place row.Symbol = 8
class_place row.Array = 9
class_place row.Block = 10
class_place row.Manifest = 11
class_place row.Platform = 12
class_place row.Kernel = 13
class_place row.Console = 14
class_place row.Board = 15
class_place row.Mirrors = 16
class_place row.Mirror = 17
class_place row.Message = 18

-- the rows of all classes, in the order of their numbers
abbrev pub all_lines : List Line
all_lines = flat_map lines_of classes

-- what answers the rows, in the same order
abbrev pub all_rows : List Row
all_rows = map (λ (line : Line). line.answer) all_lines

-- what answers the row of a number
abbrev pub row_at : ℕ → Row
row_at number = slice_index_or all_rows number Apply

-- a row with its number
pub record Numbered : Type 0 where
  pub number : ℕ
  pub line : Line

abbrev pub row_of : ℕ → Line → Numbered
row_of number line = record { number = number; line = line }

-- lines with their numbers, from that number on
abbrev pub numbered : ℕ → List Line → List Numbered
numbered number [] = []
numbered number (line ∷ lines) = row_of number line ∷ numbered (number + 1) lines

-- the number of the first row of a class: as many rows as the classes before it have
abbrev pub first_of : KernelRow → ℕ
first_of class = length (flat_map lines_of (take (class_place class) classes))

-- the rows of a class
abbrev pub rows_of : KernelRow → List Numbered
rows_of class = numbered (first_of class) (lines_of class)

-- the rows from a number up to another
abbrev pub rows_between : ℕ → ℕ → List Numbered
rows_between first end = numbered first (take (end - first) (drop first all_lines))

-- whether a text calls a row
abbrev pub calls : List ℕ → Option (List ℕ) → Bool
calls spelling (Some text) = bytes_eq spelling text
calls spelling None = false

-- the number of the first of some rows that a text calls
abbrev pub first_called : List ℕ → List Numbered → Option ℕ
first_called spelling [] = None
first_called spelling (row ∷ rows) = if calls spelling row.line.text then Some row.number else first_called spelling rows

-- the number of the row of a class that a text calls
abbrev pub row_called : KernelRow → List ℕ → Option ℕ
row_called class spelling = first_called spelling (rows_of class)

-- A row stands in the table at the place of its number.
abbrev pub StandsThere : Numbered → Type 0
StandsThere row = slice_get all_lines row.number ≡ Some row.line
