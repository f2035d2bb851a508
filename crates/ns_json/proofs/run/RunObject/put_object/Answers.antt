use Rattle.std.proofs.Common.{arith}
use Rattle.std.proofs.lemmas.Grind.{common_steps}
use Rattle.ns_json.proofs.Parts.{run_parts}
use Rattle.ns_json.proofs.run.RunObject.put_object.Goals as goal

pub returns : goal.returns
returns c = grind (arith, common_steps, run_parts c.args.self.now)
