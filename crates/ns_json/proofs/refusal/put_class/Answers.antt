use Rattle.std.proofs.Common.{arith}
use Rattle.std.proofs.lemmas.Grind.{common_steps}
use Rattle.ns_json.proofs.Within.{class_member}
use Rattle.ns_json.proofs.refusal.put_class.Goals as goal

pub returns : goal.returns
returns c = grind (arith, common_steps, class_member c.args.class)
