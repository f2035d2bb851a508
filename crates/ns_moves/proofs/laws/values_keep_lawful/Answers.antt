use Rattle.ns_moves.specs.laws.LawfulValues.{text_lawful, array_lawful, block_lawful, slot_lawful, local_lawful}
use Rattle.ns_moves.proofs.laws.values_keep_lawful.Goals as goal

pub returns-clause-text : goal.returns-clause-text
returns-clause-text c = text_lawful

pub returns-clause-array : goal.returns-clause-array
returns-clause-array c = array_lawful

pub returns-clause-block : goal.returns-clause-block
returns-clause-block c = block_lawful

pub returns-clause-slot : goal.returns-clause-slot
returns-clause-slot c = slot_lawful

pub returns-clause-local : goal.returns-clause-local
returns-clause-local c = local_lawful
