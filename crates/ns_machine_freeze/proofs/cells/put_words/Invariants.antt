use Rattle.std.proofs.Common.{◌≡◌, take}
use Rattle.ns_world.specs.Heap.{words_at}
use Rattle.ns_machine_freeze.proofs.cells.put_words.Given as goal

abbrev pub invariant-reading : goal.invariant-reading
invariant-reading l = (l.made.cells ≡ l.fn.made.cells) × (l.made.words ≡ take l.word (words_at l.world.world.cells l.at))
