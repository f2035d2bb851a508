use Rattle.ns_machine_plan.proofs.Named.{are_members}
use Rattle.ns_machine_plan.proofs.members.members_of.Goals as goal

pub returns : goal.returns
returns c =
    are_members c.args.code.now c.args.class.now (record { instance = c.in_ok-of.field-0; side = c.in_ok-of-2.field-0 })
    c.in_ok-instance.instance.items c.in_ok-side.side.items c.requires.fits c.requires.names.differ
    c.in_ok-instance.ensures c.in_ok-side.ensures c.in_ok-of.ensures c.in_ok-of-2.ensures
