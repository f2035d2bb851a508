use Rattle.ns_verify.proofs.Usable.{stands_right}
use Rattle.ns_verify.proofs.laws.sound_bodies_stand_right.Goals as goal

pub returns : goal.returns
returns c = stands_right
