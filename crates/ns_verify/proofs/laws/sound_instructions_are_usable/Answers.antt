use Rattle.ns_verify.proofs.Usable.{usable}
use Rattle.ns_verify.proofs.laws.sound_instructions_are_usable.Goals as goal

pub returns : goal.returns
returns c = usable
