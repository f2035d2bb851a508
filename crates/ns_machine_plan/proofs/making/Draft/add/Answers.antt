use Rattle.ns_machine_plan.proofs.Walk.{in_order}
use Rattle.ns_machine_plan.proofs.making.Draft.add.Goals as goal

pub add-requires-clause-order : goal.add-requires-clause-order
add-requires-clause-order c = in_order c.args.body.now.places c.requires.body.places_in_order
