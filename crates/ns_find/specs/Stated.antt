-- What the laws say of lookups that are kept, and of the members that are found.
use Rattle.std.specs.Prelude.{◌≡◌, ℕ, ◌∷◌, List, Option, Some}
use Rattle.ns_code.specs.declared.program.CodeProgram.{CodeProgram}
use Rattle.ns_code.specs.Selector.{selector_text}
use Rattle.ns_world.specs.declared.kernel_class.KernelRow.TheVariants.{Array, Boolean, Integer}
use Rattle.ns_world.specs.KernelTable.{row_called}
use Rattle.ns_world.specs.declared.kernel.Start.{Start}
use Rattle.ns_world.specs.declared.kernel.Start.TheVariants as start
use Rattle.ns_world.specs.Cell.{Cell}
use Rattle.ns_world.specs.Heap.{Heap}
use Rattle.ns_world.specs.World.{World}
use Rattle.ns_world.specs.Lawful.{IsLawful}
use Rattle.ns_find.specs.declared.memo.Kept.{Kept}
use Rattle.ns_find.specs.declared.found.Found.TheVariants.{Kernel}
use Rattle.ns_find.specs.declared.found.Sending.{Sending}
use Rattle.ns_find.specs.declared.members.Side.{Side}
use Rattle.ns_find.specs.Find.{found_from}
use Rattle.ns_find.specs.Belonging.{Belongs}
use Rattle.ns_find.specs.Memo.{PlaceIsRight, AddsNoRow}

-- A lookup that is kept in a lawful world is right in the cells that a change leaves.
abbrev pub StaysRight : (Heap → Heap) → Type 0
StaysRight change =
    (world : World) (code : CodeProgram) (place : Option Kept) → IsLawful world code
    → PlaceIsRight world.cells code place → PlaceIsRight (change world.cells) code place

-- So it is where a cell is made, unless this is a facet or the first class of a top-level declaration.
abbrev pub MakingKeepsRight : Type 0
MakingKeepsRight =
    (world : World) (code : CodeProgram) (cell : Cell) (place : Option Kept) → IsLawful world code
    → AddsNoRow world.cells cell → PlaceIsRight world.cells code place → PlaceIsRight (cell ∷ world.cells) code place

-- Whatever is found from a start is a member of a side of the holders of a chain, or one of the factories.
abbrev pub FromBelongs : Heap → CodeProgram → Start → Side → List ℕ → List ℕ → Type 0
FromBelongs heap code start side chain factories =
    (sel : ℕ) (kind : Sending) → Belongs heap code side chain factories (found_from heap code start sel kind)

-- An Integer finds the row of Integer that a selector calls.
abbrev pub IntegersFind : Heap → CodeProgram → ℕ → Sending → Type 0
IntegersFind heap code sel kind =
    (number : ℕ) → row_called Integer (selector_text code sel) ≡ Some number
    → found_from heap code (start.Kernel Integer) sel kind ≡ Kernel number

-- A Boolean finds the row of Boolean that a selector calls.
abbrev pub BooleansFind : Heap → CodeProgram → ℕ → Sending → Type 0
BooleansFind heap code sel kind =
    (number : ℕ) → row_called Boolean (selector_text code sel) ≡ Some number
    → found_from heap code (start.Kernel Boolean) sel kind ≡ Kernel number

-- An Array finds the row of Array that a selector calls.
abbrev pub ArraysFind : Heap → CodeProgram → ℕ → Sending → Type 0
ArraysFind heap code sel kind =
    (number : ℕ) → row_called Array (selector_text code sel) ≡ Some number
    → found_from heap code (start.Kernel Array) sel kind ≡ Kernel number
