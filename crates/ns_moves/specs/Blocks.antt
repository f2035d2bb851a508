-- Blocks, and the methods of the kernel that evaluate them.
use Rattle.std.specs.Prelude.{ℕ, ℤ, pos, unsigned_abs, List, [], ◌∷◌, length, ◌==◌, nat_lt, Option, Some, None, Bool, true, false, ◌&&◌, if◌then◌else◌}
use Rattle.std.specs.List.{slice_index_or}
use Rattle.ns_code.specs.declared.program.CodeProgram.{CodeProgram}
use Rattle.ns_world.specs.declared.value.Value.{Value}
use Rattle.ns_world.specs.declared.value.Value.TheVariants.{Nil, Int, Ref}
use Rattle.ns_world.specs.declared.cell.NewCell.{NewCell}
use Rattle.ns_world.specs.declared.cell.NewCell.TheVariants as new
use Rattle.ns_world.specs.declared.ending.Kind.TheVariants.{WrongArity, WrongKind}
use Rattle.ns_world.specs.declared.ending.LimitKind.TheVariants.{Steps, Depth, Cells}
use Rattle.ns_world.specs.Cell.{Cell, BlockCell, ArrayCell, TextCell}
use Rattle.ns_world.specs.Heap.{Heap, heap_size}
use Rattle.ns_world.specs.World.{made, stepped, entered}
use Rattle.ns_kdata.specs.Arguments.{items_of, is_array, shape_of_value}
use Rattle.ns_world.specs.declared.kernel_parts.KMethod.{KMethod}
use Rattle.ns_world.specs.declared.kernel_parts.KMethod.TheVariants as method
use Rattle.ns_kcode.specs.declared.state.KState.{KState}
use Rattle.ns_kcode.specs.declared.state.KAction.{KAction}
use Rattle.ns_kcode.specs.declared.state.KAction.TheVariants as action
use Rattle.ns_kcode.specs.Next.{next}
use Rattle.ns_kcode.specs.Rows.{beginning, answered}
use Rattle.ns_moves.specs.declared.site.Site.{Site}
use Rattle.ns_moves.specs.Site.{error}
use Rattle.ns_moves.specs.Control.{Progress, Activation, FromBody, After, Gives, Halts, Control, Enter, Evaluate, Begin, Waiting, Waits, Finishes, halts, fails, charged, frame_left}
use Rattle.ns_moves.specs.Bodies.{parameters_of, opened}

-- ---- new cells

-- a new cell as the value
abbrev pub new_cell : Cell → Progress → After
new_cell cell progress = charged Halts Cells (made progress.world cell) progress (Gives (Ref (heap_size progress.world.cells)))

-- a block of a body that stands in the one that runs, over its environment
abbrev pub new_block : Activation → ℕ → Progress → After
new_block activation body progress = new_cell (BlockCell body activation.env activation.home activation.self activation.holder) progress

-- a text, and an array of elements
abbrev pub new_text : List ℕ → Progress → After
new_text bytes progress = new_cell (TextCell bytes) progress

abbrev pub new_array : List Value → Progress → After
new_array items progress = new_cell (ArrayCell items) progress

-- ---- evaluating a block

-- whether a cell is a block
abbrev pub is_block_shape : NewCell → Bool
is_block_shape (new.Block body env home receiver holder) = true
is_block_shape cell = false

-- whether a value is a Block
abbrev pub is_block : Heap → Value → Bool
is_block heap value = is_block_shape (shape_of_value heap value)

-- the number of a block's body, 0 where the cell is none
abbrev pub block_body_in : NewCell → ℕ
block_body_in (new.Block body env home receiver holder) = body
block_body_in cell = 0

-- how many arguments a Block takes
abbrev pub block_arity : CodeProgram → Heap → Value → ℕ
block_arity code heap block = parameters_of code (block_body_in (shape_of_value heap block))

-- the evaluation of a block: its arity is checked, then its step is charged, its frame, and its environment
abbrev pub block_entered : CodeProgram → NewCell → List Value → Site → Progress → Control
block_entered code (new.Block body env home receiver holder) arguments site progress =
    if length arguments == parameters_of code body
    then charged halts Steps (stepped progress.world) progress (λ progress.
    charged halts Depth (entered progress.world) progress
    (opened code halts (Enter FromBody) (record { self = receiver; holder = holder; body = body; home = home; env = env; site = site }) arguments))
    else fails WrongArity site progress
block_entered code cell arguments site progress = fails WrongKind site progress

-- an evaluation that waited
abbrev pub evaluated : CodeProgram → Value → List Value → Site → Progress → Control
evaluated code block arguments site progress = block_entered code (shape_of_value progress.world.cells block) arguments site progress

-- `valueWithArguments:`; more than 255 elements are too many for any block
abbrev pub value_with_arguments : Value → Value → Site → Progress → Control
value_with_arguments block array site progress =
    if is_array progress.world.cells array
    then (if nat_lt 255 (length (items_of progress.world.cells array)) then fails WrongArity site progress
    else Evaluate block (items_of progress.world.cells array) site progress)
    else fails WrongKind site progress

-- ---- the methods of the kernel that evaluate blocks

-- whether a value is an Integer
abbrev pub is_integer : Value → Bool
is_integer (Int number) = true
is_integer value = false

-- whether both are Blocks
abbrev pub are_blocks : Heap → Value → Value → Bool
are_blocks heap first second = is_block heap first && is_block heap second

-- whether the arguments are those that a method asks for: blocks, and for `to:do:` an Integer first
abbrev pub has_arguments : Heap → KMethod → Value → Value → Bool
has_arguments heap method.IfTrueIfFalse first second = are_blocks heap first second
has_arguments heap method.IfFalseIfTrue first second = are_blocks heap first second
has_arguments heap method.ToDo first second = is_integer first && is_block heap second
has_arguments heap other first second = is_block heap first

-- how many elements `do:` has turns for
abbrev pub turns_of : Heap → KMethod → Value → ℕ
turns_of heap method.Do receiver = length (items_of heap receiver)
turns_of heap other receiver = 0

-- such a method begins: its arguments are checked, and then its frame is charged
abbrev pub method_begun : KMethod → Value → Value → Value → Site → Progress → Control
method_begun named receiver first second site progress =
    if has_arguments progress.world.cells named first second
    then charged halts Depth (entered progress.world) progress
    (Begin named (beginning receiver first second (pos (turns_of progress.world.cells named receiver))) site)
    else fails WrongKind site progress

-- the argument of an evaluation as a list
abbrev pub listed : Option Value → List Value
listed (Some value) = value ∷ []
listed None = []

-- the state of a method while a block is evaluated
abbrev pub waiting : KState → ℤ → KState
waiting state count = record state { count = count; last = None }

-- a turn of a loop charges its step
abbrev pub turned : Bool → Progress → (Progress → Waiting) → Waiting
turned true progress go = charged (λ ending progress. Finishes (Halts ending progress)) Steps (stepped progress.world) progress go
turned false progress go = go progress

-- the element of an array as it is now
abbrev pub item_at : Heap → Value → ℤ → Value
item_at heap array item = slice_index_or (items_of heap array) (unsigned_abs item) Nil

-- what an action of a method does
abbrev pub acted : KAction → KState → Site → Progress → Waiting
acted (action.Evaluate block argument turn count) state site progress =
    turned turn progress (Waits block (listed argument) (waiting state count))
acted (action.EvaluateItem block item count) state site progress =
    turned true progress (λ progress. Waits block (item_at progress.world.cells state.receiver item ∷ []) (waiting state count) progress)
acted (action.Answer value) state site progress = Finishes (Gives value (frame_left progress))
acted (action.Fail kind) state site progress = Finishes (Halts (error kind site) progress)

-- the next action of a method
abbrev pub method_next : KMethod → KState → Site → Progress → Waiting
method_next named state site progress = acted (next named state) state site progress

-- a block has answered
abbrev pub taken : KState → Value → KState
taken state value = answered state state.count value
