-- The rows of the kernel's classes, as members that a lookup meets.
use Rattle.std.specs.Prelude.{ℕ, ◌+◌, List, [], ◌∷◌, flat_map, Bool, true, ◌&&◌, is_none, is_some, Option, Some, None}
use Rattle.ns_code.specs.declared.program.CodeProgram.{CodeProgram}
use Rattle.ns_code.specs.declared.class.ClassCode.{ClassCode}
use Rattle.ns_code.specs.Access.{public_access}
use Rattle.ns_world.specs.declared.kernel_class.KernelRow.{KernelRow}
use Rattle.ns_world.specs.declared.kernel_row.Row.{Row}
use Rattle.ns_world.specs.declared.kernel_row.Row.TheVariants.{Facet}
use Rattle.ns_world.specs.declared.kernel_parts.FacetRow.TheVariants.{PlatformConsole, PlatformKernel, PlatformMirrors, PlatformBoard}
use Rattle.ns_world.specs.KernelTable.{Numbered as NumberedRow, rows_of}
use Rattle.ns_world.specs.declared.cell.FacetKind.{FacetKind}
use Rattle.ns_world.specs.declared.cell.FacetKind.TheVariants as facet
use Rattle.ns_world.specs.Heap.{Heap}
use Rattle.ns_world.specs.Seek.{first_such, is_facet, is_top}
use Rattle.ns_find.specs.declared.found.Found.TheVariants.{Kernel}
use Rattle.ns_find.specs.Members.{Member, Numbered, Spelled}

-- the facet that a row of Platform answers
abbrev pub facet_asked : Row → Option FacetKind
facet_asked (Facet PlatformConsole) = Some facet.Console
facet_asked (Facet PlatformKernel) = Some facet.Kernel
facet_asked (Facet PlatformMirrors) = Some facet.Mirrors
facet_asked (Facet PlatformBoard) = Some facet.Board
facet_asked other = None

-- whether a row is there: where it answers a facet, this was granted
abbrev pub is_granted : Heap → Option FacetKind → Bool
is_granted heap (Some kind) = is_some (first_such (is_facet kind) heap)
is_granted heap None = true

-- Manifest answers the names of the top-level classes that were made, all by the row of one number
abbrev pub top_rows : Heap → ℕ → ℕ → List ClassCode → List Member
top_rows heap row number [] = []
top_rows heap row number (class ∷ classes) =
    record {
      there = is_none class.outer && is_some (first_such (is_top number) heap);
      name = Numbered class.name.0;
      access = public_access;
      found = Kernel row;
    }
    ∷ top_rows heap row (number + 1) classes

-- the members that a row is: one of its text, or without a text one for each top-level class
abbrev pub called_by : Heap → CodeProgram → NumberedRow → Option (List ℕ) → List Member
called_by heap code row (Some text) =
    record {
      there = is_granted heap (facet_asked row.line.answer);
      name = Spelled text;
      access = row.line.access;
      found = Kernel row.number;
    }
    ∷ []
called_by heap code row None = top_rows heap row.number 0 code.classes

abbrev pub row_members : Heap → CodeProgram → NumberedRow → List Member
row_members heap code row = called_by heap code row row.line.text

-- those of rows in turn
abbrev pub rows_members : Heap → CodeProgram → List NumberedRow → List Member
rows_members heap code rows = flat_map (row_members heap code) rows

-- the rows of a class of the kernel
abbrev pub kernel_rows : Heap → CodeProgram → KernelRow → List Member
kernel_rows heap code class = rows_members heap code (rows_of class)
