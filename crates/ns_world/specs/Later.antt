-- What stays true of a world while a run goes on.
use Rattle.std.specs.Prelude.{◌≡◌, ℕ, ◌≤◌, List, ◌++◌, Some, IsTrue, false}
use Rattle.ns_code.specs.declared.program.CodeProgram.{CodeProgram}
use Rattle.ns_world.specs.declared.seek.Sought.{Sought}
use Rattle.ns_world.specs.Cell.{Cell, shape_of, cell_bytes}
use Rattle.ns_world.specs.Heap.{Heap, heap_size, find_cell, is_class, has_superclass, is_ordered, is_chain_start, chain_of}
use Rattle.ns_world.specs.Seek.{first_such, is_sought, may_be_first}
use Rattle.ns_world.specs.World.{World}
use Rattle.ns_world.specs.Lawful.{IsLawful}

-- A cell is there with all of it that never changes: its kind, its sizes and its fixed parts, and a text's bytes.
-- What an object's entries, an environment's locals and an array's elements hold may be another.
pub record StaysThere (heap : Heap) (number : ℕ) (cell : Cell) : Type 0 where
  pub now : Cell
  pub there : find_cell heap number ≡ Some now
  pub shape : shape_of now ≡ shape_of cell
  pub bytes : cell_bytes now ≡ cell_bytes cell

-- No cell is gone, and each class has the chain that it had.
pub record AreLater (old new : Heap) : Type 0 where
  pub size : heap_size old ≤ heap_size new
  pub cells : (number : ℕ) (cell : Cell) → find_cell old number ≡ Some cell → StaysThere new number cell
  pub chains : (class : ℕ) → IsTrue (is_class (find_cell old class)) → chain_of new class ≡ chain_of old class
  pub ordered : IsTrue (is_ordered old) → IsTrue (is_ordered new)

-- Platform holds the facets that it held, and Manifest the top-level classes.
abbrev pub SameFirsts : Heap → Heap → Type 0
SameFirsts old new = (sought : Sought) → first_such (is_sought sought) new ≡ first_such (is_sought sought) old

-- One world is another as it is later in a run: no limit changed, no counter but depth fell, what was printed
-- stands, and all cells are there. It holds once the start has made its facets and its top-level classes.
pub record IsLater (old new : World) : Type 0 where
  pub limits : new.limits ≡ old.limits
  pub steps : old.steps ≤ new.steps
  pub cells : AreLater old.cells new.cells
  pub firsts : SameFirsts old.cells new.cells
  pub more : List ℕ
  pub printed : new.output ≡ old.output ++ more

-- A cell may come while a run goes on: a class has its superclass before it, and it is no facet and no first
-- class of a top-level declaration.
pub record MayCome (heap : Heap) (cell : Cell) : Type 0 where
  pub superclass : IsTrue (has_superclass heap cell)
  pub no_first : may_be_first heap (shape_of cell) ≡ false

-- A lawful world of a run, and a lawful later one.
pub record RunsOn (code : CodeProgram) (old new : World) : Type 0 where
  pub before : IsLawful old code
  pub after : IsLawful new code
  pub later : IsLater old new

-- What holds of a world of a run holds of each later one.
abbrev pub Lasts : (Heap → CodeProgram → Type 0) → Type 0
Lasts holds = (code : CodeProgram) (old new : World) → RunsOn code old new → holds old.cells code → holds new.cells code

-- What is told of a world of a run is told of each later one, where something held of the first.
abbrev pub Unchanged : {A : Type 0} → (Heap → CodeProgram → Type 0) → (Heap → CodeProgram → A) → Type 0
Unchanged holds told =
    (code : CodeProgram) (old new : World) → RunsOn code old new → holds old.cells code → told new.cells code ≡ told old.cells code

-- A class has that number; a chain can start there.
abbrev pub IsClassAt : ℕ → Heap → CodeProgram → Type 0
IsClassAt class heap code = IsTrue (is_class (find_cell heap class))

abbrev pub IsStartAt : ℕ → Heap → CodeProgram → Type 0
IsStartAt class heap code = IsTrue (is_chain_start heap class)
