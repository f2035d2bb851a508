use Rattle.ns_world.specs.Heap.{write_word, write_byte}
use Rattle.std.proofs.Common.{◌∷◌}
use Rattle.ns_find.proofs.Later.{right_stays, same_after_making, same_after_word, same_after_byte}
use Rattle.ns_find.proofs.laws.kept_lookups_stay_right.Goals as goal

pub returns-clause-made : goal.returns-clause-made
returns-clause-made c = λ world code cell place lawful adds. right_stays world code (cell ∷ world.cells) place lawful (same_after_making world code cell lawful adds)

pub returns-clause-written : goal.returns-clause-written
returns-clause-written c = λ at word value world code place lawful. right_stays world code (write_word world.cells at word value) place lawful (same_after_word world code at word value lawful)

pub returns-clause-byte_written : goal.returns-clause-byte_written
returns-clause-byte_written c = λ at offset byte world code place lawful. right_stays world code (write_byte world.cells at offset byte) place lawful (same_after_byte world code at offset byte lawful)
