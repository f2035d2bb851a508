use Rattle.std.proofs.lemmas.Option.{slice_get_past}
use Rattle.ns_machine_plan.proofs.Named.{none_nested}
use Rattle.ns_machine_plan.proofs.members.add_one_nested.Goals as goal

pub returns-in-None : goal.returns-in-None
returns-in-None c =
    let there = rw c.as_slice.ensures at c.in-None.ensures.lookup in
    none_nested c.args.code.now c.args.nested c.args.found.now.items (slice_get_past c.args.code.now.classes c.args.nested.class there.3)
