-- The state of a run as plain data.
use Rattle.std.specs.Prelude.{ℕ, ◌-◌, List, [], ◌∷◌, map, reverse, Option, Some, None, Bool, true, false, ◌==◌, if◌then◌else◌}
use Rattle.ns_code.specs.declared.program.CodeProgram.{CodeProgram}
use Rattle.ns_code.specs.Soundness.{block_kind}
use Rattle.ns_world.specs.declared.value.Value.TheVariants.{Nil}
use Rattle.ns_world.specs.declared.ending.Ending.{Ending}
use Rattle.ns_world.specs.Cell.{Cell, ObjectCell, ClassCell, BlockCell, EnvironmentCell, ArrayCell, TextCell, FacetCell, MirrorCell, MessageCell}
use Rattle.ns_world.specs.Heap.{Heap, no_class}
use Rattle.ns_world.specs.World.{counters_of}
use Rattle.ns_facets.specs.declared.row.Grants.{Grants}
use Rattle.ns_moves.specs.Control.{Progress, FromMethod, FromBody, FromClause}
use Rattle.ns_moves.specs.Bodies.{no_home}
use Rattle.ns_moves.specs.Fitting.{kind_of}
use Rattle.ns_moves.specs.Steps.{PlacedInstr}
use Rattle.ns_moves.specs.State as run
use Rattle.ns_moves.specs.State.{Leaving, Loud, Silent, Frame, Running, Looping, Sending, Performing, Evaluating, Phase, Start, First, Second, Hosted, State, Unbegun, Going, Pends, Ended, Stuck}
use Rattle.ns_moves.specs.ValidFrames.{next_number}
use Rattle.ns_frozen.specs.declared.cell.CellData.{CellData}
use Rattle.ns_frozen.specs.declared.cell.CellData.TheVariants as cell
use Rattle.ns_frozen.specs.declared.frame.FrameKind.{FrameKind}
use Rattle.ns_frozen.specs.declared.frame.FrameKind.TheVariants as kinds
use Rattle.ns_frozen.specs.declared.frame.FrozenFrame.{FrozenFrame}
use Rattle.ns_frozen.specs.declared.pending.Pending.{Pending}
use Rattle.ns_frozen.specs.declared.pending.Pending.TheVariants as waiting
use Rattle.ns_frozen.specs.declared.frozen.Frozen.{Frozen}

-- ---- cells

-- a cell without the base of a class
abbrev pub cell_frozen : Cell → CellData
cell_frozen (ObjectCell class entries) = cell.Object class entries
cell_frozen (ClassCell decl base encl holder over) = cell.Class decl encl holder over
cell_frozen (BlockCell body env home receiver holder) = cell.Block body env receiver holder home
cell_frozen (EnvironmentCell parent locals) = cell.Environment parent locals
cell_frozen (ArrayCell items) = cell.Array items
cell_frozen (TextCell bytes) = cell.Text bytes
cell_frozen (FacetCell kind) = cell.Facet kind
cell_frozen (MirrorCell mirrored) = cell.Mirror mirrored
cell_frozen (MessageCell sel args) = cell.Message sel args

-- all cells, the oldest first
abbrev pub cells_frozen : Heap → List CellData
cells_frozen heap = map cell_frozen (reverse heap)

-- ---- frames

-- what the frame of a body runs, as its end and the body's kind tell
abbrev pub kind_frozen : CodeProgram → Leaving → ℕ → FrameKind
kind_frozen code (Loud FromMethod) body = kinds.Method body
kind_frozen code (Loud FromBody) body = if kind_of code body == block_kind then kinds.Block body else kinds.Initialiser body
kind_frozen code (Loud (FromClause object holder class)) body = kinds.Clause body object holder class
kind_frozen code Silent body = kinds.Initialiser body

-- the instruction of a frame: that which waits, where it waits, and else the next one
abbrev pub instr_frozen : CodeProgram → Bool → ℕ → List PlacedInstr → ℕ
instr_frozen code true body rest = next_number code body rest - 1
instr_frozen code false body rest = next_number code body rest

-- a frame, by whether it waits
abbrev pub frame_frozen : CodeProgram → Bool → Frame → FrozenFrame
frame_frozen code waits (Running leaving activation locals rest stack) = record {
  kind = kind_frozen code leaving activation.body;
  instr = instr_frozen code waits activation.body rest;
  receiver = activation.self;
  holder = activation.holder;
  home = activation.home;
  env = activation.env;
  locals = locals;
  operands = reverse stack;
  site = activation.site;
}
frame_frozen code waits (Looping method state site) = record {
  kind = kinds.Kernel method state;
  instr = 0;
  receiver = state.receiver;
  holder = no_class;
  home = no_home;
  env = Nil;
  locals = [];
  operands = [];
  site = site;
}

-- frames, the topmost first, by whether that waits; all others wait
abbrev pub frames_down : CodeProgram → Bool → List Frame → List FrozenFrame
frames_down code waits [] = []
frames_down code waits (frame ∷ frames) = frame_frozen code waits frame ∷ frames_down code true frames

-- the same, the outermost first
abbrev pub frames_frozen : CodeProgram → Bool → List Frame → List FrozenFrame
frames_frozen code waits frames = reverse (frames_down code waits frames)

-- ---- what waits, and how far a run has come

-- what is pending
abbrev pub pending_frozen : run.Pending → Pending
pending_frozen (Sending receiver sel arguments site) = waiting.Send receiver sel arguments site
pending_frozen (Performing receiver sel array site) = waiting.Perform receiver sel array site
pending_frozen (Evaluating block arguments site) = waiting.Evaluate block arguments site

-- how far the run has come, as a number
abbrev pub phase_frozen : Phase → ℕ
phase_frozen Start = 0
phase_frozen (First arguments) = 1
phase_frozen Second = 2
phase_frozen Hosted = 3

-- ---- states

-- what a run has done, with where it stands
abbrev pub frozen_at : Grants → Progress → ℕ → Option Pending → Option Ending → List FrozenFrame → Frozen
frozen_at grants progress phase waits ending frames = record {
  limits = progress.world.limits;
  used = counters_of progress.world;
  grants = grants;
  board = progress.board;
  output = progress.world.output;
  homes = progress.begun;
  phase = phase;
  pending = waits;
  ending = ending;
  cells = cells_frozen progress.world.cells;
  frames = frames;
}

-- a state of a run of that code, with what it is granted
abbrev pub frozen_of : CodeProgram → Grants → State → Frozen
frozen_of code grants (Unbegun arguments progress) = frozen_at grants progress 0 None None []
frozen_of code grants (Going phase frames progress) = frozen_at grants progress (phase_frozen phase) None None (frames_frozen code false frames)
frozen_of code grants (Pends phase waits frames progress) =
    frozen_at grants progress (phase_frozen phase) (Some (pending_frozen waits)) None (frames_frozen code true frames)
frozen_of code grants (Ended ending phase progress) = frozen_at grants progress (phase_frozen phase) None (Some ending) []
frozen_of code grants (Stuck progress) = frozen_at grants progress 0 None None []
