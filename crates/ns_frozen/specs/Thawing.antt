-- The state of a run that plain data stands for.
use Rattle.std.specs.Prelude.{ℕ, zero, suc, ◌+◌, List, [], ◌∷◌, length, drop, reverse, slice_get, Option, Some, None, Bool, true, false, ◌||◌}
use Rattle.std.specs.Option.{option_map_or, unwrap_or}
use Rattle.ns_code.specs.declared.program.CodeProgram.{CodeProgram}
use Rattle.ns_code.specs.declared.body.BodyCode.{BodyCode}
use Rattle.ns_world.specs.declared.ending.Ending.{Ending}
use Rattle.ns_world.specs.Cell.{Cell, ObjectCell, ClassCell, BlockCell, EnvironmentCell, ArrayCell, TextCell, FacetCell, MirrorCell, MessageCell}
use Rattle.ns_world.specs.Heap.{Heap}
use Rattle.ns_world.specs.Layout.{entries_above}
use Rattle.ns_world.specs.World.{World}
use Rattle.ns_moves.specs.Control.{Progress, FromMethod, FromBody, FromClause}
use Rattle.ns_moves.specs.Start.{standing_cells, size_of_cells}
use Rattle.ns_facets.specs.declared.row.Grants.{Grants}
use Rattle.ns_moves.specs.Steps.{PlacedInstr, steps_from}
use Rattle.ns_moves.specs.State as run
use Rattle.ns_moves.specs.State.{Leaving, Loud, Silent, Frame, Running, Looping, Sending, Performing, Evaluating, Phase, Start, First, Second, Hosted, State, Unbegun, Going, Pends, Ended}
use Rattle.ns_moves.specs.Valid.{array_behind}
use Rattle.ns_moves.specs.ValidFrames.{is_super_part}
use Rattle.ns_frozen.specs.declared.cell.CellData.{CellData}
use Rattle.ns_frozen.specs.declared.cell.CellData.TheVariants as cell
use Rattle.ns_frozen.specs.declared.frame.FrameKind.{FrameKind}
use Rattle.ns_frozen.specs.declared.frame.FrameKind.TheVariants as kinds
use Rattle.ns_frozen.specs.declared.frame.FrozenFrame.{FrozenFrame}
use Rattle.ns_frozen.specs.declared.pending.Pending.{Pending}
use Rattle.ns_frozen.specs.declared.pending.Pending.TheVariants as waiting
use Rattle.ns_frozen.specs.declared.frozen.Frozen.{Frozen}

-- ---- cells

-- a cell behind others; the base of a class is how many entries the classes above it have
abbrev pub cell_thawed : CodeProgram → Heap → CellData → Cell
cell_thawed code earlier (cell.Object class words) = ObjectCell class words
cell_thawed code earlier (cell.Class decl encl holder over) = ClassCell decl (entries_above earlier code over) encl holder over
cell_thawed code earlier (cell.Block body env receiver holder home) = BlockCell body env home receiver holder
cell_thawed code earlier (cell.Environment parent locals) = EnvironmentCell parent locals
cell_thawed code earlier (cell.Array items) = ArrayCell items
cell_thawed code earlier (cell.Text bytes) = TextCell bytes
cell_thawed code earlier (cell.Facet kind) = FacetCell kind
cell_thawed code earlier (cell.Mirror mirrored) = MirrorCell mirrored
cell_thawed code earlier (cell.Message sel args) = MessageCell sel args

-- cells, the oldest first, behind others
abbrev pub cells_onto : CodeProgram → Heap → List CellData → Heap
cells_onto code earlier [] = earlier
cells_onto code earlier (cell ∷ cells) = cells_onto code (cell_thawed code earlier cell ∷ earlier) cells

-- all cells
abbrev pub heap_thawed : CodeProgram → List CellData → Heap
heap_thawed code cells = cells_onto code [] cells

-- ---- frames

-- whether the instruction of that number of a body is a superclass message
abbrev pub is_super_at : CodeProgram → ℕ → ℕ → Bool
is_super_at code body number =
    option_map_or (λ (b : BodyCode). option_map_or is_super_part (slice_get b.instrs number) false) (slice_get code.bodies body) false

-- whether a frame stands at one
abbrev pub is_at_super : CodeProgram → FrameKind → ℕ → Bool
is_at_super code (kinds.Method body) number = is_super_at code body number
is_at_super code (kinds.Block body) number = is_super_at code body number
is_at_super code (kinds.Initialiser body) number = is_super_at code body number
is_at_super code (kinds.Clause body object holder class) number = is_super_at code body number
is_at_super code (kinds.Kernel method state) number = false

-- the end of an initialiser: it is a superclass part where the frame below waits at a superclass message
abbrev pub initialiser_leaves : Bool → Leaving
initialiser_leaves true = Silent
initialiser_leaves false = Loud FromBody

-- what is left of a body, behind the instruction that waits, where it waits
abbrev pub rest_thawed : CodeProgram → Bool → ℕ → ℕ → List PlacedInstr
rest_thawed code true body number = steps_from code body (number + 1)
rest_thawed code false body number = steps_from code body number

-- the frame of a body, by whether it waits
abbrev pub running_thawed : CodeProgram → Bool → Leaving → ℕ → FrozenFrame → Frame
running_thawed code waits leaving body frame =
    Running leaving
    (record { self = frame.receiver; holder = frame.holder; body = body; home = frame.home; env = frame.env; site = frame.site })
    frame.locals (rest_thawed code waits body frame.instr) (reverse frame.operands)

-- a frame, by whether the one below waits at a superclass message, and whether it waits itself
abbrev pub frame_thawed : CodeProgram → Bool → Bool → FrameKind → FrozenFrame → Frame
frame_thawed code part waits (kinds.Method body) frame = running_thawed code waits (Loud FromMethod) body frame
frame_thawed code part waits (kinds.Block body) frame = running_thawed code waits (Loud FromBody) body frame
frame_thawed code part waits (kinds.Initialiser body) frame = running_thawed code waits (initialiser_leaves part) body frame
frame_thawed code part waits (kinds.Clause body object holder class) frame = running_thawed code waits (Loud (FromClause object holder class)) body frame
frame_thawed code part waits (kinds.Kernel method state) frame = Looping method state frame.site

-- whether there is a frame
abbrev pub is_below : List FrozenFrame → Bool
is_below [] = false
is_below (frame ∷ frames) = true

-- frames, the outermost first, on those below them, by whether the topmost waits
abbrev pub frames_onto : CodeProgram → Bool → Bool → List Frame → List FrozenFrame → List Frame
frames_onto code waits part below [] = below
frames_onto code waits part below (frame ∷ frames) =
    frames_onto code waits (is_at_super code frame.kind frame.instr)
    (frame_thawed code part (waits || is_below frames) frame.kind frame ∷ below) frames

-- all frames
abbrev pub frames_thawed : CodeProgram → Bool → List FrozenFrame → List Frame
frames_thawed code waits frames = frames_onto code waits false [] frames

-- ---- what waits, and how far a run has come

-- what is pending
abbrev pub pending_thawed : Pending → run.Pending
pending_thawed (waiting.Send receiver sel arguments site) = Sending receiver sel arguments site
pending_thawed (waiting.Perform receiver sel array site) = Performing receiver sel array site
pending_thawed (waiting.Evaluate block arguments site) = Evaluating block arguments site

-- the array of the arguments behind the cells of the start, 0 where there is none
abbrev pub arguments_in : CodeProgram → Grants → Heap → ℕ
arguments_in code grants heap =
    unwrap_or (array_behind (size_of_cells (standing_cells code grants)) (drop (length (standing_cells code grants)) (reverse heap))) 0

-- how far a run has come by a number, with the array of its arguments
abbrev pub phase_thawed : ℕ → ℕ → Phase
phase_thawed arguments zero = Start
phase_thawed arguments (suc zero) = First arguments
phase_thawed arguments (suc (suc zero)) = Second
phase_thawed arguments (suc (suc (suc more))) = Hosted

-- ---- states

-- the world
abbrev pub world_thawed : CodeProgram → Frozen → World
world_thawed code frozen = record {
  cells = heap_thawed code frozen.cells;
  limits = frozen.limits;
  steps = frozen.used.steps;
  depth = frozen.used.depth;
  output = frozen.output;
}

-- what the run has done
abbrev pub progress_thawed : CodeProgram → Frozen → Progress
progress_thawed code frozen = record { world = world_thawed code frozen; board = frozen.board; begun = frozen.homes }

-- a run that waits for nothing: it goes on with its frames, unless nothing was begun
abbrev pub going_thawed : Phase → List Frame → Progress → ℕ → State
going_thawed Start frames progress arguments = Unbegun arguments progress
going_thawed (First array) frames progress arguments = Going (First array) frames progress
going_thawed Second frames progress arguments = Going Second frames progress
going_thawed Hosted frames progress arguments = Going Hosted frames progress

-- where a run stands that has done so much and has come so far
abbrev pub state_at : CodeProgram → Frozen → Progress → ℕ → Option Pending → Option Ending → State
state_at code frozen progress arguments waits (Some ending) = Ended ending (phase_thawed arguments frozen.phase) progress
state_at code frozen progress arguments (Some waits) None =
    Pends (phase_thawed arguments frozen.phase) (pending_thawed waits) (frames_thawed code true frozen.frames) progress
state_at code frozen progress arguments None None =
    going_thawed (phase_thawed arguments frozen.phase) (frames_thawed code false frozen.frames) progress arguments

-- the state
abbrev pub thawed : CodeProgram → Frozen → State
thawed code frozen =
    state_at code frozen (progress_thawed code frozen) (arguments_in code frozen.grants (heap_thawed code frozen.cells)) frozen.pending frozen.ending
