use Rattle.std.proofs.Common.{arith, append_assoc}
use Rattle.std.proofs.lemmas.Grind.{common_steps}
use Rattle.ns_image_members.proofs.Puts.{after_after}
use Rattle.ns_image_members.proofs.classes.put_numbered_line.Goals as goal

pub returns : goal.returns
returns c = grind (arith, common_steps, after_after, append_assoc)
