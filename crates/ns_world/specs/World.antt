-- The world of a run: cells, limits, what was used of them, and output.
use Rattle.std.specs.Prelude.{◌≡◌, ℕ, ◌+◌, ◌-◌, ◌≤◌, List, [], ◌∷◌, ◌++◌, length, Option, Some, None, Result, Ok, Err, nat_lt, nat_le, if◌then◌else◌}
use Rattle.ns_base.specs.declared.limits.Limits.{Limits}
use Rattle.ns_base.specs.Limits.{InRange}
use Rattle.ns_world.specs.declared.value.Value.{Value}
use Rattle.ns_world.specs.declared.value.Value.TheVariants.{Ref}
use Rattle.ns_world.specs.declared.cell.CellLimit.{CellLimit}
use Rattle.ns_world.specs.declared.ending.Counters.{Counters}
use Rattle.ns_world.specs.declared.ending.LimitKind.{LimitKind}
use Rattle.ns_world.specs.Cell.{Cell, cell_size}
use Rattle.ns_world.specs.Heap.{Heap, heap_size, write_word, write_byte}

-- The cells used are the sum of the sizes of the cells, the bytes used are those of the output.
pub record World : Type 0 where
  pub cells : Heap
  pub limits : Limits
  pub steps : ℕ
  pub depth : ℕ
  pub output : List ℕ

-- a world with the memory that was reserved for it: for so many cells, and so many bytes of output
pub record WorldView : Type 0 where
  pub world : World
  pub cell_room : ℕ
  pub out_room : ℕ

-- No counter passes its limit.
pub record IsWithin (world : World) : Type 0 where
  pub limits : InRange world.limits
  pub cells : heap_size world.cells ≤ world.limits.cells
  pub steps : world.steps ≤ world.limits.steps
  pub depth : world.depth ≤ world.limits.depth
  pub out : length world.output ≤ world.limits.out

-- a world in which nothing was done
abbrev pub empty_world : Limits → World
empty_world limits = record { cells = []; limits = limits; steps = 0; depth = 0; output = [] }

-- what was used
abbrev pub counters_of : World → Counters
counters_of world = record { steps = world.steps; cells = heap_size world.cells; depth = world.depth; out = length world.output }

-- the world with a cell more, none where its size would pass the limit
abbrev pub made : World → Cell → Option World
made world cell =
    if nat_le (heap_size world.cells + cell_size cell) world.limits.cells then Some (record world { cells = cell ∷ world.cells }) else None

-- the world with one step charged, none where that would pass the limit
abbrev pub stepped : World → Option World
stepped world = if nat_lt world.steps world.limits.steps then Some (record world { steps = world.steps + 1 }) else None

-- the world with one frame charged, none where that would pass the limit
abbrev pub entered : World → Option World
entered world = if nat_lt world.depth world.limits.depth then Some (record world { depth = world.depth + 1 }) else None

-- the world with one frame given back
abbrev pub left : World → World
left world = record world { depth = world.depth - 1 }

-- the world with bytes printed, none where they would pass the limit
abbrev pub printed : World → List ℕ → Option World
printed world bytes =
    if nat_le (length world.output + length bytes) world.limits.out then Some (record world { output = world.output ++ bytes }) else None

-- the world with a word of a cell written
abbrev pub written : World → ℕ → ℕ → Value → World
written world at word value = record world { cells = write_word world.cells at word value }

-- the world with a word of what a reference names written, as it was for any other value
abbrev pub stored : World → Value → ℕ → Value → World
stored world (Ref at) word value = written world at word value
stored world other word value = world

-- the world with a byte of a text written
abbrev pub byte_written : World → ℕ → ℕ → ℕ → World
byte_written world at place byte = record world { cells = write_byte world.cells at place byte }

-- The memory reserved is as before.
abbrev pub SameRoom : WorldView → WorldView → Type 0
SameRoom old new = (new.cell_room ≡ old.cell_room) × (new.out_room ≡ old.out_room)

-- A charge leaves the next world, or answers its limit where there is none, and changes nothing.
abbrev pub Charges : Option World → LimitKind → WorldView → Result (Unit {0}) LimitKind → WorldView → Type 0
Charges next kind old (Ok done) new = (next ≡ Some new.world) × SameRoom old new
Charges next kind old (Err limit) new = (next ≡ None) × (limit ≡ kind) × (new ≡ old)

-- A cell is made with the number of cells used before, or its size would pass the limit, and nothing changes.
abbrev pub MakesCell : WorldView → Cell → Result ℕ CellLimit → WorldView → Type 0
MakesCell old cell (Ok number) new = (made old.world cell ≡ Some new.world) × (number ≡ heap_size old.world.cells) × SameRoom old new
MakesCell old cell (Err limit) new = (made old.world cell ≡ None) × (new ≡ old)
