-- The text of a value, and the line that reports how a run ended (this profile).
use Rattle.std.specs.Prelude.{ℕ, List, [], ◌∷◌, ◌++◌, codes, Option, Some, None}
use Rattle.std.specs.List.{slice_index_or}
use Rattle.std.specs.Fmt.{decimal, signed_decimal}
use Rattle.ns_base.specs.declared.place.Place.{Place}
use Rattle.ns_code.specs.declared.program.CodeProgram.{CodeProgram}
use Rattle.ns_code.specs.Selector.{selector_text}
use Rattle.ns_world.specs.declared.value.Value.{Value}
use Rattle.ns_world.specs.declared.value.Value.TheVariants.{Nil, True, False, Int, Sym, Kernel, Ref}
use Rattle.ns_world.specs.declared.value.KClass.{KClass}
use Rattle.ns_world.specs.declared.value.KClass.TheVariants.{Object, Array}
use Rattle.ns_world.specs.declared.ending.Kind.{Kind}
use Rattle.ns_world.specs.declared.ending.Kind.TheVariants as kind
use Rattle.ns_world.specs.declared.ending.LimitKind.{LimitKind}
use Rattle.ns_world.specs.declared.ending.LimitKind.TheVariants.{Steps, Cells, Depth, Out}
use Rattle.ns_world.specs.declared.ending.Ending.{Ending}
use Rattle.ns_world.specs.declared.ending.Ending.TheVariants.{Done, Error, Limit}
use Rattle.ns_world.specs.Cell.{Cell, ClassCell, TextCell}
use Rattle.ns_world.specs.Heap.{Heap, find_cell}
use Rattle.ns_world.specs.Starts.{class_name_of}
use Rattle.ns_base.specs.Quoted.{quoted}
use Rattle.ns_mirror.specs.Naming.{declared_text, class_text}

-- ---- the text of a value

-- a kernel class
abbrev pub kernel_class_text : KClass → List ℕ
kernel_class_text Object = codes "class Object"
kernel_class_text Array = codes "class Array"

-- a cell: a string in quotes, a class by its name, and all else by the name of its class
abbrev pub cell_text : CodeProgram → Option Cell → List ℕ → List ℕ
cell_text code (Some (TextCell bytes)) class = quoted bytes
cell_text code (Some (ClassCell decl base encl holder over)) class = codes "class " ++ declared_text code decl
cell_text code cell class = codes "object " ++ class

-- a value
abbrev pub value_text : Heap → CodeProgram → Value → List ℕ
value_text heap code Nil = codes "nil"
value_text heap code True = codes "true"
value_text heap code False = codes "false"
value_text heap code (Int number) = signed_decimal number
value_text heap code (Sym sel) = codes "#" ++ selector_text code sel.0
value_text heap code (Kernel class) = kernel_class_text class
value_text heap code (Ref at) = cell_text code (find_cell heap at) (class_text code (class_name_of heap (Ref at)))

-- ---- the report line

-- the names of the kinds of errors
abbrev pub kind_text : Kind → List ℕ
kind_text kind.NotUnderstood = codes "NotUnderstood"
kind_text kind.NotPublic = codes "NotPublic"
kind_text kind.Overflow = codes "Overflow"
kind_text kind.ZeroDivide = codes "ZeroDivide"
kind_text kind.WrongKind = codes "WrongKind"
kind_text kind.OutOfRange = codes "OutOfRange"
kind_text kind.MustBeBoolean = codes "MustBeBoolean"
kind_text kind.DeadReturn = codes "DeadReturn"
kind_text kind.WrongArity = codes "WrongArity"
kind_text kind.NotAClass = codes "NotAClass"
kind_text kind.KernelSuper = codes "KernelSuper"
kind_text kind.InitMismatch = codes "InitMismatch"
kind_text kind.FixedSlot = codes "FixedSlot"
kind_text kind.ChainLimit = codes "ChainLimit"

-- the names of the limits
abbrev pub limit_text : LimitKind → List ℕ
limit_text Steps = codes "steps"
limit_text Cells = codes "cells"
limit_text Depth = codes "depth"
limit_text Out = codes "out"

-- a place: file, line and column; an error of code that has no places is the image's
abbrev pub place_text : List (List ℕ) → Option Place → List ℕ
place_text files (Some place) = slice_index_or files place.file [] ++ codes ":" ++ decimal place.line ++ codes ":" ++ decimal place.col
place_text files None = codes "image"

-- the line of an ending, with its line feed
abbrev pub report_line : Heap → CodeProgram → List (List ℕ) → Ending → List ℕ
report_line heap code files (Done value) = codes "=> " ++ value_text heap code value ++ 10 ∷ []
report_line heap code files (Error error) =
    place_text files error.place ++ codes ": " ++ kind_text error.kind ++ codes " " ++ class_text code error.class
    ++ codes " " ++ selector_text code error.sel.0 ++ 10 ∷ []
report_line heap code files (Limit limit) = codes "limit: " ++ limit_text limit ++ 10 ∷ []
