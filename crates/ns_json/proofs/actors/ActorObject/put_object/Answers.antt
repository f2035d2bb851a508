use Rattle.std.proofs.Common.{arith}
use Rattle.std.proofs.lemmas.Grind.{common_steps}
use Rattle.ns_json.proofs.Parts.{actor_parts}
use Rattle.ns_json.proofs.actors.ActorObject.put_object.Goals as goal

pub returns : goal.returns
returns c = grind (arith, common_steps, actor_parts c.args.self.now)
