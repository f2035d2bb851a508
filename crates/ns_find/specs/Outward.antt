-- What stands around a class or an environment, further and further out.
use Rattle.std.specs.Prelude.{ℕ, zero, suc, ◌<◌, IsSome}
use Rattle.ns_world.specs.declared.cell.NewCell.{NewCell}
use Rattle.ns_world.specs.declared.cell.NewCell.TheVariants.{Class, Environment}
use Rattle.ns_world.specs.Heap.{Heap, find_cell, shape_at, cell_number}

-- the number of what stands around a cell: the enclosing holder of a class, the parent of an environment; 0 for any other
abbrev pub around : NewCell → ℕ
around (Class decl base encl holder over) = cell_number holder
around (Environment parent locals) = cell_number parent
around cell = 0

-- the number of the cell that stands so many further out
abbrev pub outward : Heap → ℕ → ℕ → ℕ
outward heap from zero = from
outward heap from (suc levels) = around (shape_at heap (outward heap from levels))

-- The cells on a way out are there, up to the one before its end.
abbrev pub IsWay : Heap → ℕ → ℕ → Type 0
IsWay heap from levels = (k : ℕ) → k < levels → IsSome (find_cell heap (outward heap from k))
