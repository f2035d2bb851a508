-- Readers of the parts of a snapshot, field by field.
use Rattle.std.specs.Prelude.{ℕ, nat_eq, nat_le, drop, length, List, [], ◌∷◌, None, Result, Ok, Err, ◌-◌, ◌==◌, if◌then◌else◌}
use Rattle.std.specs.List.{starts_with}
use Rattle.ns_base.specs.declared.limits.Limits.{Limits}
use Rattle.ns_image.specs.Read.{Outcome, got, truncated, bad, Reader, ◌>>=◌, given, checked, byte, half, word, long, flag, text, times}
use Rattle.ns_world.specs.declared.value.Value.{Value}
use Rattle.ns_world.specs.declared.ending.Counters.{Counters}
use Rattle.ns_world.specs.declared.ending.Ending.{Ending}
use Rattle.ns_world.specs.declared.ending.Ending.TheVariants as ends
use Rattle.ns_facets.specs.declared.board.Plain.{Plain}
use Rattle.ns_facets.specs.declared.board.Plain.TheVariants as p
use Rattle.ns_facets.specs.declared.board.Board.{Board}
use Rattle.ns_facets.specs.declared.row.Grants.{Grants}
use Rattle.ns_kcode.specs.declared.state.KState.{KState}
use Rattle.ns_frozen.specs.declared.cell.CellData.{CellData}
use Rattle.ns_frozen.specs.declared.cell.CellData.TheVariants as held
use Rattle.ns_frozen.specs.declared.frame.FrameKind.{FrameKind}
use Rattle.ns_frozen.specs.declared.frame.FrameKind.TheVariants as kinds
use Rattle.ns_frozen.specs.declared.frame.FrozenFrame.{FrozenFrame}
use Rattle.ns_frozen.specs.declared.pending.Pending.{Pending}
use Rattle.ns_frozen.specs.declared.pending.Pending.TheVariants as waits
use Rattle.ns_frozen.specs.declared.frozen.Frozen.{Frozen}
use Rattle.ns_snapshot.specs.Bytes.{mark}
use Rattle.ns_snapshot.specs.Fields.{double, one_of, option, counted, from_1_to, selector, error_kind, limit_kind, facet_kind, kernel_method, value, values, place, class_name, site}
use Rattle.ns_snapshot.specs.declared.fault.SnapFault.{SnapFault}
use Rattle.ns_snapshot.specs.declared.fault.SnapFault.TheVariants as f

-- ---- numbers, grants, board

-- limits, each in its range
unfoldable pub limits : Reader Limits
limits = do
  steps ← from_1_to 1000000000000
  cells ← from_1_to 64000000
  depth ← from_1_to 100000
  out ← from_1_to 16777216
  given (record { steps = steps; cells = cells; depth = depth; out = out })

-- what a run has used
unfoldable pub counters : Reader Counters
counters = do
  steps ← double
  cells ← double
  depth ← double
  out ← double
  given (record { steps = steps; cells = cells; depth = depth; out = out })

-- which facets a run is granted
unfoldable pub grants : Reader Grants
grants = do
  console ← flag
  kernel ← flag
  mirrors ← flag
  board ← flag
  given (record { console = console; kernel = kernel; mirrors = mirrors; board = board })

-- a value of the board
unfoldable pub plain : Reader Plain
plain = one_of (given p.Nil ∷ given p.True ∷ given p.False ∷ (long >>= λ n. given (p.Int n)) ∷ [])

-- the board: 64 values without a count
unfoldable pub board : Reader Board
board = times 64 plain >>= λ places. given (record { places = places })

-- ---- what waits, and endings

-- a send that waits
unfoldable pub pending_send : Reader Pending
pending_send = do
  receiver ← value
  sel ← selector
  arguments ← values
  site ← site
  given (waits.Send receiver sel arguments site)

-- a send that waits with the elements of an array
unfoldable pub pending_perform : Reader Pending
pending_perform = do
  receiver ← value
  sel ← selector
  array ← word
  site ← site
  given (waits.Perform receiver sel array site)

-- an evaluation that waits
unfoldable pub pending_evaluate : Reader Pending
pending_evaluate = do
  block ← value
  arguments ← values
  site ← site
  given (waits.Evaluate block arguments site)

-- what waits to be done
abbrev pub waiting : Reader Pending
waiting = one_of (pending_send ∷ pending_perform ∷ pending_evaluate ∷ [])

-- an error that has ended a run
unfoldable pub run_error : Reader Ending
run_error = do
  kind ← error_kind
  place ← option place
  class ← class_name
  sel ← selector
  given (ends.Error (record { kind = kind; place = place; class = class; sel = sel }))

-- how a run has ended
abbrev pub ended : Reader Ending
ended = one_of ((value >>= λ a. given (ends.Done a)) ∷ run_error ∷ (limit_kind >>= λ l. given (ends.Limit l)) ∷ [])

-- ---- cells

-- an object
unfoldable pub object : Reader CellData
object = do
  class ← word
  words ← values
  given (held.Object class words)

-- a class
unfoldable pub class : Reader CellData
class = do
  decl ← word
  encl ← value
  holder ← value
  over ← value
  given (held.Class decl encl holder over)

-- a block
unfoldable pub block : Reader CellData
block = do
  body ← word
  env ← value
  home ← double
  receiver ← value
  holder ← word
  given (held.Block body env receiver holder home)

-- an environment
unfoldable pub environment : Reader CellData
environment = do
  parent ← value
  locals ← values
  given (held.Environment parent locals)

-- a message
unfoldable pub message : Reader CellData
message = do
  sel ← selector
  args ← value
  given (held.Message sel args)

-- a cell
abbrev pub cell : Reader CellData
cell =
    one_of
    (object
    ∷ class
    ∷ block
    ∷ environment
    ∷ (values >>= λ items. given (held.Array items))
    ∷ (text >>= λ bytes. given (held.Text bytes))
    ∷ (facet_kind >>= λ kind. given (held.Facet kind))
    ∷ (value >>= λ mirrored. given (held.Mirror mirrored))
    ∷ message
    ∷ [])

-- cells behind their count, which isn't above a limit
unfoldable pub cells : ℕ → Reader (List CellData)
cells most = checked (λ n. nat_le n most) word >>= λ n. times n cell

-- ---- frames

-- the state of a method of the kernel
unfoldable pub kernel_state : Reader KState
kernel_state = do
  receiver ← value
  first ← value
  second ← value
  size ← long
  count ← long
  last ← option value
  given (record { receiver = receiver; first = first; second = second; size = size; count = count; last = last })

-- a clause, with the object, the holder and the declaration of the class that it makes
unfoldable pub clause : Reader FrameKind
clause = do
  body ← word
  object ← word
  holder ← word
  class ← word
  given (kinds.Clause body object holder class)

-- a method of the kernel
unfoldable pub looping : Reader FrameKind
looping = do
  method ← kernel_method
  state ← kernel_state
  given (kinds.Kernel method state)

-- what a frame runs
abbrev pub frame_kind : Reader FrameKind
frame_kind =
    one_of
    ((word >>= λ body. given (kinds.Method body))
    ∷ (word >>= λ body. given (kinds.Block body))
    ∷ (word >>= λ body. given (kinds.Initialiser body))
    ∷ clause
    ∷ looping
    ∷ [])

-- what follows a frame's home
unfoldable pub frame_from : FrameKind → ℕ → Value → ℕ → ℕ → Reader FrozenFrame
frame_from kind instr receiver holder home = do
  env ← value
  locals ← values
  operands ← values
  site ← site
  given (record {
    kind = kind;
    instr = instr;
    receiver = receiver;
    holder = holder;
    home = home;
    env = env;
    locals = locals;
    operands = operands;
    site = site;
  })

-- a frame
unfoldable pub frame : Reader FrozenFrame
frame = do
  kind ← frame_kind
  instr ← word
  receiver ← value
  holder ← word
  home ← double
  frame_from kind instr receiver holder home

-- ---- whole states

-- a state with the cells and the frames that follow it
unfoldable pub with_cells : Frozen → Reader Frozen
with_cells state = do
  cells ← cells state.limits.cells
  frames ← counted frame
  given (record state { cells = cells; frames = frames })

-- a state with what is pending, the ending, the cells and the frames that follow it
unfoldable pub with_pending : Frozen → Reader Frozen
with_pending state = do
  pending ← option waiting
  ending ← option ended
  with_cells (record state { pending = pending; ending = ending })

-- what follows the board
unfoldable pub frozen_from : Limits → Counters → Grants → Board → Reader Frozen
frozen_from limits used grants board = do
  output ← text
  homes ← double
  phase ← byte
  with_pending (record {
    limits = limits;
    used = used;
    grants = grants;
    board = board;
    output = output;
    homes = homes;
    phase = phase;
    pending = None;
    ending = None;
    cells = [];
    frames = [];
  })

-- the state of a run
unfoldable pub frozen : Reader Frozen
frozen = do
  limits ← limits
  used ← counters
  grants ← grants
  board ← board
  frozen_from limits used grants board

-- ---- snapshots

-- what a snapshot has: the bytes of an image, and a state
pub record Parts : Type 0 where
  pub image : List ℕ
  pub frozen : Frozen

-- what follows the version
unfoldable pub parts : Reader Parts
parts = do
  image ← text
  frozen ← frozen
  given (record { image = image; frozen = frozen })

-- the parts, where no bytes follow
abbrev pub whole : Parts → List ℕ → Result Parts SnapFault
whole read [] = Ok read
whole read (b ∷ rest) = Err f.Trailing

-- the answer, of so many bytes
abbrev pub answer : ℕ → Outcome Parts → Result Parts SnapFault
answer size (got read rest) = whole read rest
answer size truncated = Err f.Truncated
answer size (bad left) = Err (f.BadField (size - left))

-- what follows the mark, of so many bytes: the version, which is 1, and then the parts
abbrev pub versioned : ℕ → Outcome ℕ → Result Parts SnapFault
versioned size (got version rest) = if version == 1 then answer size (parts rest) else Err f.BadVersion
versioned size truncated = Err f.Truncated
versioned size (bad left) = Err (f.BadField (size - left))

-- Reading goes from left to right, and the first fault that it meets is the answer.
unfoldable pub read_parts : List ℕ → Result Parts SnapFault
read_parts bytes = if starts_with nat_eq bytes mark then versioned (length bytes) (half (drop 4 bytes)) else Err f.NotASnapshot
