-- Cells that are put back in their order.
use Rattle.std.specs.Prelude.{◌≡◌, ℕ, ◌+◌, ◌<◌, ◌≤◌, List, [], ◌∷◌, length, true}
use Rattle.ns_code.specs.declared.program.CodeProgram.{CodeProgram}
use Rattle.ns_world.specs.declared.value.Value.{Value}
use Rattle.ns_world.specs.declared.value.Value.TheVariants.{Ref}
use Rattle.ns_world.specs.Cell.{Cell, ObjectCell, EnvironmentCell, ArrayCell, open_words}
use Rattle.ns_world.specs.Heap.{Heap, heap_size, find_cell, is_class, is_superclass, is_ordered, no_class}
use Rattle.ns_world.specs.Layout.{declaration_of, base_of, entries_of, layout_of}
use Rattle.ns_world.specs.World.{WorldView, SameRoom}

-- The base of a class and its own entries are those of its instances, which are few.
pub record HasItsBase (code : CodeProgram) (heap : Heap) (class : ℕ) : Type 0 where
  pub all : base_of heap class + entries_of code (declaration_of heap class) ≡ layout_of heap code class
  pub few : layout_of heap code class ≤ 33553920

-- Cells can be made one behind the other: each class has its superclass before it and has its base, and so many hold them all.
pub record CellsFit (code : CodeProgram) (most : ℕ) (heap : Heap) : Type 0 where
  pub ordered : is_ordered heap ≡ true
  pub small : heap_size heap < no_class
  pub within : heap_size heap ≤ most
  pub bases : (class : ℕ) → is_class (find_cell heap class) ≡ true → HasItsBase code heap class

-- A class can be made over this superclass, whose base is known.
pub record StandsOver (code : CodeProgram) (heap : Heap) (over : Value) : Type 0 where
  pub superclass : is_superclass heap over ≡ true
  pub base : (class : ℕ) → over ≡ Ref class → HasItsBase code heap class

-- A cell stands behind those that there were, and nothing else has changed.
pub record CellIsPut (cell : Cell) (old new : WorldView) : Type 0 where
  pub world : new.world ≡ record old.world { cells = cell ∷ old.world.cells }
  pub room : SameRoom old new

-- ---- the words of the last cell

-- The last cell has that number, and so many words that may be written.
abbrev pub EndsWith : ℕ → ℕ → Heap → Type 0
EndsWith at count [] = ⊥
EndsWith at count (cell ∷ earlier) = (at ≡ heap_size earlier) × (length (open_words cell) ≡ count)

-- an object, an environment or an array with other words
abbrev pub of_words : List Value → Cell → Cell
of_words words (ObjectCell class entries) = ObjectCell class words
of_words words (EnvironmentCell parent locals) = EnvironmentCell parent words
of_words words (ArrayCell items) = ArrayCell words
of_words words cell = cell

-- the cells of which the last has these
abbrev pub with_words : List Value → Heap → Heap
with_words words [] = []
with_words words (cell ∷ earlier) = of_words words cell ∷ earlier
