-- The layout of a snapshot, field by field. Numbers are big-endian; a list has its count before it.
use Rattle.std.specs.Prelude.{ℕ, List, [], ◌∷◌, ◌++◌, Option, Some, None, codes}
use Rattle.std.specs.Int.{w64, to_be_bytes}
use Rattle.std.specs.List.{concat, flat_map}
use Rattle.ns_base.specs.declared.limits.Limits.{Limits}
use Rattle.ns_base.specs.declared.place.Place.{Place}
use Rattle.ns_code.specs.declared.program.CodeProgram.{CodeProgram}
use Rattle.ns_image.specs.Bytes.{byte, half, word, long, flag, text, counted, bytes_of}
use Rattle.ns_world.specs.declared.value.Value.{Value}
use Rattle.ns_world.specs.declared.value.Value.TheVariants as v
use Rattle.ns_world.specs.declared.value.KClass.{KClass}
use Rattle.ns_world.specs.declared.value.KClass.TheVariants as kernel
use Rattle.ns_world.specs.declared.kernel_class.KernelRow.{KernelRow}
use Rattle.ns_world.specs.declared.kernel_class.KernelRow.TheVariants as row
use Rattle.ns_world.specs.declared.kernel.ClassName.{ClassName}
use Rattle.ns_world.specs.declared.kernel.ClassName.TheVariants as name
use Rattle.ns_world.specs.declared.ending.Counters.{Counters}
use Rattle.ns_world.specs.declared.ending.Kind.{Kind}
use Rattle.ns_world.specs.declared.ending.Kind.TheVariants as error
use Rattle.ns_world.specs.declared.ending.LimitKind.{LimitKind}
use Rattle.ns_world.specs.declared.ending.LimitKind.TheVariants as limit
use Rattle.ns_world.specs.declared.ending.Ending.{Ending}
use Rattle.ns_world.specs.declared.ending.Ending.TheVariants as ends
use Rattle.ns_world.specs.Seek.{facet_number}
use Rattle.ns_facets.specs.declared.board.Plain.{Plain}
use Rattle.ns_facets.specs.declared.board.Plain.TheVariants as p
use Rattle.ns_facets.specs.declared.row.Grants.{Grants}
use Rattle.ns_world.specs.declared.kernel_parts.KMethod.{KMethod}
use Rattle.ns_world.specs.declared.kernel_parts.KMethod.TheVariants as method
use Rattle.ns_kcode.specs.declared.state.KState.{KState}
use Rattle.ns_moves.specs.declared.site.Site.{Site}
use Rattle.ns_frozen.specs.declared.cell.CellData.{CellData}
use Rattle.ns_frozen.specs.declared.cell.CellData.TheVariants as held
use Rattle.ns_frozen.specs.declared.frame.FrameKind.{FrameKind}
use Rattle.ns_frozen.specs.declared.frame.FrameKind.TheVariants as kinds
use Rattle.ns_frozen.specs.declared.frame.FrozenFrame.{FrozenFrame}
use Rattle.ns_frozen.specs.declared.pending.Pending.{Pending}
use Rattle.ns_frozen.specs.declared.pending.Pending.TheVariants as waits
use Rattle.ns_frozen.specs.declared.frozen.Frozen.{Frozen}

-- ---- fields

-- a number of eight bytes
abbrev pub double : ℕ → List ℕ
double = to_be_bytes w64

-- 0 for none, or 1 and the item
abbrev pub option : {A : Type 0} → (A → List ℕ) → Option A → List ℕ
option item None = byte 0
option item (Some a) = byte 1 ++ item a

-- ---- variants by their numbers

-- the places of the kernel's classes, in the order of their declaration
abbrev pub row_number : KernelRow → ℕ
row_number row.Object = 0
row_number row.ObjectClass = 1
row_number row.ArrayClass = 2
row_number row.Class = 3
row_number row.UndefinedObject = 4
row_number row.Boolean = 5
row_number row.Integer = 6
row_number row.String = 7
row_number row.Symbol = 8
row_number row.Array = 9
row_number row.Block = 10
row_number row.Manifest = 11
row_number row.Platform = 12
row_number row.Kernel = 13
row_number row.Console = 14
row_number row.Board = 15
row_number row.Mirrors = 16
row_number row.Mirror = 17
row_number row.Message = 18

-- those of the kinds of errors
abbrev pub kind_number : Kind → ℕ
kind_number error.NotUnderstood = 0
kind_number error.NotPublic = 1
kind_number error.Overflow = 2
kind_number error.ZeroDivide = 3
kind_number error.WrongKind = 4
kind_number error.OutOfRange = 5
kind_number error.MustBeBoolean = 6
kind_number error.DeadReturn = 7
kind_number error.WrongArity = 8
kind_number error.NotAClass = 9
kind_number error.KernelSuper = 10
kind_number error.InitMismatch = 11
kind_number error.FixedSlot = 12
kind_number error.ChainLimit = 13

-- those of the limits
abbrev pub limit_number : LimitKind → ℕ
limit_number limit.Steps = 0
limit_number limit.Cells = 1
limit_number limit.Depth = 2
limit_number limit.Out = 3

-- those of the kernel's methods that evaluate blocks
abbrev pub method_number : KMethod → ℕ
method_number method.And = 0
method_number method.Or = 1
method_number method.IfTrue = 2
method_number method.IfFalse = 3
method_number method.IfTrueIfFalse = 4
method_number method.IfFalseIfTrue = 5
method_number method.WhileTrue = 6
method_number method.WhileFalse = 7
method_number method.ToDo = 8
method_number method.TimesRepeat = 9
method_number method.Do = 10

-- ---- values and sites

-- a class object of the kernel
abbrev pub kernel_class : KClass → List ℕ
kernel_class kernel.Object = byte 0
kernel_class kernel.Array = byte 1

-- a value: its number, and what it holds
abbrev pub value : Value → List ℕ
value v.Nil = byte 0
value v.True = byte 1
value v.False = byte 2
value (v.Int number) = byte 3 ++ long number
value (v.Sym sel) = byte 4 ++ word sel.0
value (v.Kernel class) = byte 5 ++ kernel_class class
value (v.Ref at) = byte 6 ++ word at

-- values behind their count
abbrev pub values : List Value → List ℕ
values items = counted value items

-- a place: its file, its line and its column
abbrev pub place : Place → List ℕ
place at = concat (word at.file ∷ word at.line ∷ word at.col ∷ [])

-- the name of a class
abbrev pub class_name : ClassName → List ℕ
class_name (name.Declared decl) = byte 0 ++ word decl
class_name (name.ClassOf decl) = byte 1 ++ word decl
class_name (name.Kernel row) = byte 2 ++ byte (row_number row)

-- the site of a send: its place, its class and its selector
abbrev pub site : Site → List ℕ
site s = concat (option place s.place ∷ class_name s.class ∷ word s.sel.0 ∷ [])

-- ---- numbers, grants, board

-- the limits of a run
abbrev pub limits : Limits → List ℕ
limits l = concat (double l.steps ∷ double l.cells ∷ double l.depth ∷ double l.out ∷ [])

-- what a run has used
abbrev pub counters : Counters → List ℕ
counters c = concat (double c.steps ∷ double c.cells ∷ double c.depth ∷ double c.out ∷ [])

-- which facets a run is granted
abbrev pub grants : Grants → List ℕ
grants g = concat (flag g.console ∷ flag g.kernel ∷ flag g.mirrors ∷ flag g.board ∷ [])

-- a value of the board
abbrev pub plain : Plain → List ℕ
plain p.Nil = byte 0
plain p.True = byte 1
plain p.False = byte 2
plain (p.Int number) = byte 3 ++ long number

-- ---- what waits, and endings

-- what waits to be done
abbrev pub pending : Pending → List ℕ
pending (waits.Send receiver sel arguments s) = concat (byte 0 ∷ value receiver ∷ word sel.0 ∷ values arguments ∷ site s ∷ [])
pending (waits.Perform receiver sel array s) = concat (byte 1 ∷ value receiver ∷ word sel.0 ∷ word array ∷ site s ∷ [])
pending (waits.Evaluate block arguments s) = concat (byte 2 ∷ value block ∷ values arguments ∷ site s ∷ [])

-- how a run has ended
abbrev pub ending : Ending → List ℕ
ending (ends.Done a) = byte 0 ++ value a
ending (ends.Error e) = concat (byte 1 ∷ byte (kind_number e.kind) ∷ option place e.place ∷ class_name e.class ∷ word e.sel.0 ∷ [])
ending (ends.Limit kind) = byte 2 ++ byte (limit_number kind)

-- ---- cells

-- a cell: its number, and what it holds
abbrev pub cell : CellData → List ℕ
cell (held.Object class words) = concat (byte 0 ∷ word class ∷ values words ∷ [])
cell (held.Class decl encl holder over) = concat (byte 1 ∷ word decl ∷ value encl ∷ value holder ∷ value over ∷ [])
cell (held.Block body env receiver holder home) = concat (byte 2 ∷ word body ∷ value env ∷ double home ∷ value receiver ∷ word holder ∷ [])
cell (held.Environment parent locals) = concat (byte 3 ∷ value parent ∷ values locals ∷ [])
cell (held.Array items) = byte 4 ++ values items
cell (held.Text bytes) = byte 5 ++ text bytes
cell (held.Facet kind) = byte 6 ++ byte (facet_number kind)
cell (held.Mirror mirrored) = byte 7 ++ value mirrored
cell (held.Message sel args) = concat (byte 8 ∷ word sel.0 ∷ value args ∷ [])

-- ---- frames

-- the state of a method of the kernel
abbrev pub state : KState → List ℕ
state s =
    concat (value s.receiver ∷ value s.first ∷ value s.second ∷ long s.size ∷ long s.count ∷ option value s.last ∷ [])

-- what a frame runs
abbrev pub frame_kind : FrameKind → List ℕ
frame_kind (kinds.Method body) = byte 0 ++ word body
frame_kind (kinds.Block body) = byte 1 ++ word body
frame_kind (kinds.Initialiser body) = byte 2 ++ word body
frame_kind (kinds.Clause body object holder class) = concat (byte 3 ∷ word body ∷ word object ∷ word holder ∷ word class ∷ [])
frame_kind (kinds.Kernel method s) = concat (byte 4 ∷ byte (method_number method) ∷ state s ∷ [])

-- a frame
abbrev pub frame : FrozenFrame → List ℕ
frame f =
    concat
    (frame_kind f.kind
    ∷ word f.instr
    ∷ value f.receiver
    ∷ word f.holder
    ∷ double f.home
    ∷ value f.env
    ∷ values f.locals
    ∷ values f.operands
    ∷ site f.site
    ∷ [])

-- ---- whole snapshots

-- the state of a run
abbrev pub frozen : Frozen → List ℕ
frozen f =
    concat
    (limits f.limits
    ∷ counters f.used
    ∷ grants f.grants
    ∷ flat_map plain f.board.places
    ∷ text f.output
    ∷ double f.homes
    ∷ byte f.phase
    ∷ option pending f.pending
    ∷ option ending f.ending
    ∷ counted cell f.cells
    ∷ counted frame f.frames
    ∷ [])

-- what a snapshot begins with
abbrev pub mark : List ℕ
mark = codes "NSPS"

-- the snapshot of a state of a run of the code of that image
abbrev pub with_image : List ℕ → Frozen → List ℕ
with_image image f = mark ++ (half 1 ++ (text image ++ frozen f))

-- the snapshot of a state of a run of that code
abbrev pub snapshot_of : CodeProgram → Frozen → List ℕ
snapshot_of code f = with_image (bytes_of code) f
