use Rattle.ns_machine_plan.proofs.Packing.{put_one}
use Rattle.ns_machine_plan.proofs.steps.put_step.Goals as goal

pub returns-clause-put : goal.returns-clause-put
returns-clause-put c =
    put_one c.args.tables.now c.pack.new.self c.pack.ensures.keeps c.args.packed.now.items c.push.new.self.items c.args.step c.in_ok-one.one
    c.in_ok-one.ensures.packed c.in_ok-push.ensures.items
