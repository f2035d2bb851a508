-- How many bytes may be written, and which states have counts that fit their fields.
use Rattle.std.specs.Prelude.{◌≡◌, ℕ, ◌+◌, ◌<◌, length, All, Result, Ok, Err}
use Rattle.std.specs.Option.{ForSome}
use Rattle.ns_code.specs.Fits.{IsWord, IsShort}
use Rattle.ns_frozen.specs.declared.cell.CellData.{CellData}
use Rattle.ns_frozen.specs.declared.cell.CellData.TheVariants as held
use Rattle.ns_frozen.specs.declared.frame.FrozenFrame.{FrozenFrame}
use Rattle.ns_frozen.specs.declared.pending.Pending.{Pending}
use Rattle.ns_frozen.specs.declared.pending.Pending.TheVariants as waits
use Rattle.ns_frozen.specs.declared.frozen.Frozen.{Frozen}

-- So many of the bytes that may be written are taken, and the others are left; or they are fewer.
abbrev pub Takes : {X E : Type 0} → ℕ → ℕ → Result X E → ℕ → Type 0
Takes count before (Ok x) after = before ≡ count + after
Takes count before (Err e) after = before < count

-- ---- counts

-- The counts of a cell fit their fields.
abbrev pub CellHasRoom : CellData → Type 0
CellHasRoom (held.Object class words) = IsWord (length words)
CellHasRoom (held.Class decl encl holder over) = Unit {0}
CellHasRoom (held.Block body env receiver holder home) = Unit {0}
CellHasRoom (held.Environment parent locals) = IsWord (length locals)
CellHasRoom (held.Array items) = IsWord (length items)
CellHasRoom (held.Text bytes) = IsShort bytes
CellHasRoom (held.Facet kind) = Unit {0}
CellHasRoom (held.Mirror mirrored) = Unit {0}
CellHasRoom (held.Message sel args) = Unit {0}

-- So do those of a frame.
pub record FrameHasRoom (frame : FrozenFrame) : Type 0 where
  pub locals : IsWord (length frame.locals)
  pub operands : IsWord (length frame.operands)

-- So do those of what waits.
abbrev pub PendingHasRoom : Pending → Type 0
PendingHasRoom (waits.Send receiver sel arguments site) = IsWord (length arguments)
PendingHasRoom (waits.Perform receiver sel array site) = Unit {0}
PendingHasRoom (waits.Evaluate block arguments site) = IsWord (length arguments)

-- So do those of a state.
pub record StateHasRoom (frozen : Frozen) : Type 0 where
  pub output : IsShort frozen.output
  pub pending : ForSome frozen.pending PendingHasRoom
  pub cell_count : IsWord (length frozen.cells)
  pub cells : All CellHasRoom frozen.cells
  pub frame_count : IsWord (length frozen.frames)
  pub frames : All FrameHasRoom frozen.frames
