use Rattle.ns_image_members.proofs.Tabled.{table_made}
use Rattle.ns_image_members.proofs.firsts.Firsts.of.Goals as goal

pub invariant_of-result : goal.invariant_of-result
invariant_of-result g c = table_made c.args.entries.now c.args.length c.in_ok-table.table.items c.in_ok-table.ensures
