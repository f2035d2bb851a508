-- The way up a chain of classes by places. Each class has a smaller number than those below it, so a holder is looked for no further up.
use Rattle.std.specs.Prelude.{◌≡◌, ℕ, ◌<◌, ◌≤◌, List, length, get_or, Option, Some, None, Bool, true, ◌==◌}
use Rattle.std.specs.List.{list_any}
use Rattle.ns_code.specs.declared.program.CodeProgram.{CodeProgram}
use Rattle.ns_world.specs.Heap.{Heap, chain_of, no_class}
use Rattle.ns_frozen.specs.Live.{has_chain}
use Rattle.ns_frozen_seen.specs.declared.climbs.Climb.{Climb}

-- whether a holder stands among some classes
abbrev pub holds : ℕ → List ℕ → Bool
holds holder classes = list_any (λ above. above == holder) classes

-- Some classes of a chain were gone over, and the next is that one, whose chain tells as much as the whole.
pub record Walks (code : CodeProgram) (heap : Heap) (class at : ℕ) (all : List ℕ → Bool) : Type 0 where
  pub low : at ≤ class
  pub chain : has_chain code heap at ≡ true
  pub same : all (chain_of heap at) ≡ all (chain_of heap class)

-- The class at a place is further up in the chain of that at another, or the same: what isn't above it stands in the chains of both, or of none.
pub record IsUp (code : CodeProgram) (heap : Heap) (numbers : List ℕ) (place above : ℕ) : Type 0 where
  pub within : above < length numbers
  pub low : get_or numbers above 0 ≤ get_or numbers place 0
  pub chain : has_chain code heap (get_or numbers above 0) ≡ true
  pub same : (holder : ℕ) → holder ≤ get_or numbers above 0
      → holds holder (chain_of heap (get_or numbers above 0)) ≡ holds holder (chain_of heap (get_or numbers place 0))

-- It stands before that, and isn't above a holder.
pub record LeadsUp (code : CodeProgram) (heap : Heap) (numbers : List ℕ) (place holder above : ℕ) : Type 0 where
  pub before : above < place
  pub high : holder ≤ get_or numbers above 0
  pub up : has_chain code heap (get_or numbers place 0) ≡ true → IsUp code heap numbers place above

-- What is kept of the class at a place tells classes that are further up, where it tells any.
pub record IsClimb (code : CodeProgram) (heap : Heap) (numbers : List ℕ) (place : ℕ) (climb : Climb) : Type 0 where
  pub over : climb.over < place → IsUp code heap numbers place climb.over
  pub far : climb.far < place → IsUp code heap numbers place climb.far

-- That of a class whose superclass stands at a place, if it has one, tells this, and a class further up.
abbrev pub IsClimbOver : CodeProgram → Heap → List ℕ → Option ℕ → Climb → Type 0
IsClimbOver code heap numbers None climb = (no_class ≤ climb.over) × (no_class ≤ climb.far)
IsClimbOver code heap numbers (Some at) climb =
    (climb.over ≡ at) × (has_chain code heap (get_or numbers at 0) ≡ true → IsUp code heap numbers at climb.far)
