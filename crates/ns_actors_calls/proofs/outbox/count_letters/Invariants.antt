use Rattle.ns_kdata.specs.Arguments.{items_of}
use Rattle.ns_actors_calls.proofs.Reading.{AreCounted}
use Rattle.ns_actors_calls.proofs.outbox.count_letters.Given as goal

abbrev pub invariant-elements : goal.invariant-elements
invariant-elements l = AreCounted l.code l.world.world.cells l.count (items_of l.world.world.cells l.array) l.place
