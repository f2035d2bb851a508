-- The cells of a frozen state with what is found of them once.
use Rattle.std.specs.Prelude.{◌≡◌, true}
use Rattle.ns_code.specs.Fits.{Fits}
use Rattle.ns_code.specs.Soundness.{are_parents_earlier}
use Rattle.ns_world.specs.Heap.{Heap}
use Rattle.ns_frozen.specs.Thawing.{heap_thawed}
use Rattle.ns_frozen_seen.specs.declared.seen.Seen.{Seen}
use Rattle.ns_frozen_tables.specs.Numbers.{numbers_from}
use Rattle.ns_frozen_tables.specs.Chain.{AreChains}
use Rattle.ns_frozen_tables.specs.Selectors.{AreSelectors}
use Rattle.ns_frozen_tables.specs.Bodies.{AreBodies}
use Rattle.ns_frozen_seen.specs.Keepers.{AreKeepers}
use Rattle.ns_frozen_seen.specs.Fitting.{AreFitting}
use Rattle.ns_frozen_tables.specs.Nested.{AreOuters}

-- the heap for which the cells stand
abbrev pub heap_of : Seen → Heap
heap_of seen = heap_thawed seen.code.now seen.cells.now

-- What was found is of this code and these cells.
pub record IsSeen (seen : Seen) : Type 0 where
  pub fits : Fits seen.code.now
  pub parents : are_parents_earlier 0 seen.code.now.bodies ≡ true
  pub numbers : seen.numbers ≡ numbers_from 0 seen.cells.now
  pub chains : AreChains seen.code.now (heap_of seen) seen.chains
  pub selectors : AreSelectors seen.code.now seen.selectors
  pub bodies : AreBodies seen.code.now seen.bodies
  pub keepers : AreKeepers seen.code.now (heap_of seen) seen.chains.numbers.items seen.keepers.items
  pub kept : AreFitting seen.code.now (heap_of seen) seen.numbers seen.kept.items
  pub outers : AreOuters seen.code.now seen.outers
