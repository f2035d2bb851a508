use Rattle.ns_world.proofs.Freshly.{new_object_words}
use Rattle.ns_world.proofs.lay.lay_object.Goals as goal

pub returns-clause-items : goal.returns-clause-items
returns-clause-items c = cc (new_object_words c.args.class c.args.count, c.from.ensures, c.fill.ensures.items)
