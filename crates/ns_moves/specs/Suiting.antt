-- Which rows of the kernel suit a receiver.
use Rattle.std.specs.Prelude.{◌≡◌, Option, Some, None, Bool, true, false}
use Rattle.ns_world.specs.declared.value.Value.{Value}
use Rattle.ns_world.specs.declared.value.Value.TheVariants.{Ref}
use Rattle.ns_world.specs.declared.cell.FacetKind.{FacetKind}
use Rattle.ns_world.specs.declared.cell.FacetKind.TheVariants as kind
use Rattle.ns_world.specs.Cell.{Cell, FacetCell}
use Rattle.ns_world.specs.Heap.{Heap, find_cell}
use Rattle.ns_world.specs.declared.kernel_parts.FacetRow.{FacetRow}
use Rattle.ns_world.specs.declared.kernel_parts.FacetRow.TheVariants as facet
use Rattle.ns_find.specs.declared.found.Found.{Found}
use Rattle.ns_find.specs.declared.found.Found.TheVariants as found
use Rattle.ns_world.specs.declared.kernel_row.Row.{Row}
use Rattle.ns_world.specs.declared.kernel_row.Row.TheVariants as row
use Rattle.ns_moves.specs.Blocks.{is_block}
use Rattle.ns_world.specs.KernelTable.{row_at}
use Rattle.ns_moves.specs.Fitting.{belongs_to}

-- whether a value refers to a cell
abbrev pub is_reference : Value → Bool
is_reference (Ref at) = true
is_reference value = false

-- the kind of the facet that a value refers to, if it refers to one
abbrev pub facet_in : Option Cell → Option FacetKind
facet_in (Some (FacetCell kind)) = Some kind
facet_in _ = None

abbrev pub facet_at : Heap → Value → Option FacetKind
facet_at heap (Ref at) = facet_in (find_cell heap at)
facet_at heap value = None

-- the facet whose row it is
abbrev pub facet_of_row : FacetRow → FacetKind
facet_of_row (facet.Top sel) = kind.Manifest
facet_of_row facet.PlatformConsole = kind.Platform
facet_of_row facet.PlatformKernel = kind.Platform
facet_of_row facet.PlatformMirrors = kind.Platform
facet_of_row facet.PlatformBoard = kind.Platform
facet_of_row facet.KernelObject = kind.Kernel
facet_of_row facet.KernelArray = kind.Kernel
facet_of_row facet.ConsolePrint = kind.Console
facet_of_row facet.ConsolePrintLine = kind.Console
facet_of_row facet.BoardAt = kind.Board
facet_of_row facet.BoardPut = kind.Board

-- A row that evaluates blocks has a receiver of its kind, a mirror's row a cell, and a facet's row that facet.
abbrev pub RowSuits : Heap → Value → Row → Type 0
RowSuits heap receiver (row.Data about) = Unit {0}
RowSuits heap receiver (row.Integer int) = Unit {0}
RowSuits heap receiver row.Top = facet_at heap receiver ≡ Some kind.Manifest
RowSuits heap receiver (row.Facet about) = facet_at heap receiver ≡ Some (facet_of_row about)
RowSuits heap receiver (row.Mirror mirrors) = is_reference receiver ≡ true
RowSuits heap receiver (row.Method method) = belongs_to heap receiver method ≡ true
RowSuits heap receiver row.Apply = Unit {0}
RowSuits heap receiver row.Value = is_block heap receiver ≡ true
RowSuits heap receiver row.ValueWithArguments = is_block heap receiver ≡ true
RowSuits heap receiver row.NumArgs = Unit {0}

-- A row of the kernel that was found suits the receiver.
abbrev pub FoundSuits : Heap → Value → Found → Type 0
FoundSuits heap receiver (found.Kernel number) = RowSuits heap receiver (row_at number)
FoundSuits heap receiver other = Unit {0}
