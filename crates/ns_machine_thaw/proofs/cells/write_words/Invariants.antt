use Rattle.ns_machine_thaw.proofs.Writing.{Writing}
use Rattle.ns_machine_thaw.proofs.cells.write_words.Given as goal

abbrev pub invariant-words : goal.invariant-words
invariant-words l = Writing l.at l.words l.word l.fn.world l.world
