use Rattle.std.proofs.Common.{arith}
use Rattle.std.proofs.lemmas.Grind.{common_steps}
use Rattle.ns_json.proofs.Within.{body_member}
use Rattle.ns_json.proofs.refusal.put_body.Goals as goal

pub returns : goal.returns
returns c = grind (arith, common_steps, body_member c.args.body c.args.at)
