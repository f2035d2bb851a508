use Rattle.std.proofs.Common.{arith}
use Rattle.std.proofs.lemmas.Grind.{common_steps}
use Rattle.ns_static.proofs.ClassParts.{class_found_out}
use Rattle.ns_static.proofs.classes.enter_class.Goals as goal

pub returns-clause-found : goal.returns-clause-found
returns-clause-found c = rw (class_found_out c.args.outer.now c.args.class.now) (grind (arith, common_steps))
