use Rattle.ns_world.specs.laws.Writing.{writing_keeps, byte_keeps}
use Rattle.ns_world.proofs.lawful.writing_keeps_lawful.Goals as goal

pub returns-clause-words : goal.returns-clause-words
returns-clause-words c = writing_keeps

pub returns-clause-bytes : goal.returns-clause-bytes
returns-clause-bytes c = byte_keeps
