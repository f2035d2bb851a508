use Rattle.ns_kdata.specs.Arguments.{items_of}
use Rattle.ns_actors_calls.proofs.Reading.{AreRead}
use Rattle.ns_actors_calls.proofs.outbox.read_letters.Given as goal

abbrev pub invariant-elements : goal.invariant-elements
invariant-elements l = AreRead l.code l.world.world.cells l.from l.count (items_of l.world.world.cells l.array) l.place l.letters.items
