-- Cells that are read onto others.
use Rattle.ns_image.specs.Read.{Outcome, Reader, ◌>>=◌, and_then, given, text}
use Rattle.ns_frozen.specs.declared.cell.CellData.{CellData}
use Rattle.ns_frozen.specs.declared.cell.CellData.TheVariants as held
use Rattle.ns_frozen.specs.Heads.{MadeCells, with_cell}
use Rattle.ns_snapshot.specs.Fields.{value, values, facet_kind}

-- a cell as its reader reads it, put behind those that were made
abbrev pub cell_onto : MadeCells → Reader CellData → Reader MadeCells
cell_onto made reader bytes = and_then (reader bytes) (λ cell. given (with_cell cell made))

-- an array
abbrev pub array : Reader CellData
array = values >>= λ items. given (held.Array items)

-- a text
abbrev pub literal : Reader CellData
literal = text >>= λ bytes. given (held.Text bytes)

-- a facet
abbrev pub facet : Reader CellData
facet = facet_kind >>= λ kind. given (held.Facet kind)

-- a mirror
abbrev pub mirror : Reader CellData
mirror = value >>= λ mirrored. given (held.Mirror mirrored)
