use Rattle.ns_world.specs.laws.Making.{making_keeps}
use Rattle.ns_world.proofs.lawful.making_keeps_lawful.Goals as goal

pub returns : goal.returns
returns c = making_keeps
