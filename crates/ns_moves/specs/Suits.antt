-- What can be done with what a send finds.
use Rattle.std.specs.Prelude.{ℕ, ◌<◌, length, IsTrue}
use Rattle.ns_code.specs.declared.program.CodeProgram.{CodeProgram}
use Rattle.ns_world.specs.declared.value.Value.{Value}
use Rattle.ns_world.specs.Heap.{Heap, find_cell, is_class, open_words_at}
use Rattle.ns_world.specs.World.{World}
use Rattle.ns_world.specs.Lawful.{IsLawful, IsLiveValue, HasHolder}
use Rattle.ns_find.specs.declared.found.Found.{Found}
use Rattle.ns_find.specs.declared.found.Found.TheVariants as found
use Rattle.ns_find.specs.Belonging.{IsSlotOf, HasNested}
use Rattle.ns_moves.specs.Bodies.{Place}

-- What is found can be done with a receiver: a slot and a nested class are those of a holder in its chain, and
-- a factory is that of a class.
abbrev pub Suits : Heap → CodeProgram → Value → Found → Type 0
Suits heap code receiver (found.Getter holder word) =
    HasHolder heap receiver holder × IsTrue (is_class (find_cell heap holder)) × IsSlotOf heap code holder word
Suits heap code receiver (found.Setter holder word) =
    HasHolder heap receiver holder × IsTrue (is_class (find_cell heap holder)) × IsSlotOf heap code holder word
Suits heap code receiver (found.Nested class holder) =
    HasHolder heap receiver holder × IsTrue (is_class (find_cell heap holder)) × HasNested heap code holder class
Suits heap code receiver (found.Factory class) = IsTrue (is_class (find_cell heap class))
Suits heap code receiver other = Unit {0}

-- An enclosing object is live, and is meant by a class.
pub record IsEnclosingPlace (heap : Heap) (code : CodeProgram) (place : Place) : Type 0 where
  pub live : IsLiveValue heap code place.object
  pub class : IsTrue (is_class (find_cell heap place.holder))

-- A lawful world follows another: each class is there, and what may be written of a cell may be written.
pub record Follows (code : CodeProgram) (old new : World) : Type 0 where
  pub lawful : IsLawful new code
  pub classes : (class : ℕ) → IsTrue (is_class (find_cell old.cells class)) → IsTrue (is_class (find_cell new.cells class))
  pub words : (at word : ℕ) → word < length (open_words_at old.cells at) → word < length (open_words_at new.cells at)
