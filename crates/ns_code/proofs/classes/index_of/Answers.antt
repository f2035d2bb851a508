use Rattle.ns_code.proofs.Listing.{lists_all}
use Rattle.ns_code.proofs.classes.index_of.Goals as goal

pub returns : goal.returns
returns g c =
    lists_all (g.N.Naming.names c.args.naming.now) c.args.classes.now c.in_ok-listed.listed.items c.of.result c.in_ok-listed.ensures c.of.ensures
