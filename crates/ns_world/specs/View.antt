-- What contracts see of a heap.
use Rattle.std.specs.Prelude.{◌≡◌, ℕ, ◌<◌, ◌≤◌, List, Some, IsTrue, length}
use Rattle.ns_world.specs.declared.word.Word.{Word}
use Rattle.ns_world.specs.declared.seek.Sought.{Sought}
use Rattle.ns_world.specs.Heap.{Heap, is_ordered}
use Rattle.ns_world.specs.Words.{laid_out, cells_in}
use Rattle.ns_world.specs.Seek.{first_such, is_sought}

-- the cells, and for how many there is room
pub record HeapView : Type 0 where
  pub cells : Heap
  pub room : ℕ

-- Each first facet of a kind, and each first top-level class of a declaration, stands below that number.
abbrev pub AreFirstsBelow : Heap → ℕ → Type 0
AreFirstsBelow heap bound = (sought : Sought) (number : ℕ) → first_such (is_sought sought) heap ≡ Some number → number < bound

-- The words are those of the cells that they stand for, each class has its superclass before it, and no
-- first cell of a kind stands behind the bound.
pub record IsLaidOut (words : List Word) (capacity room bound : ℕ) : Type 0 where
  pub whole : laid_out (cells_in words) ≡ words
  pub ordered : IsTrue (is_ordered (cells_in words))
  pub room_kept : room ≤ capacity
  pub small : length words ≤ 64000000
  pub within : bound ≤ length words
  pub firsts : AreFirstsBelow (cells_in words) bound
