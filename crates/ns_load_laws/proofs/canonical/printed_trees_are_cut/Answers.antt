use Rattle.ns_tree.specs.Flat.{flat}
use Rattle.ns_load_laws.specs.Canonical.{canonical}
use Rattle.ns_load_laws.proofs.canonical.printed_trees_are_cut.Goals as goal

pub returns-clause-cut : goal.returns-clause-cut
returns-clause-cut c = λ unit tree.
    let x = c.printed_kinds_are_cut.ensures (flat unit) tree.told in
    (x.0, x.1, record { spelled = x.2; tree = tree })

pub returns-clause-scanned : goal.returns-clause-scanned
returns-clause-scanned c = λ unit tree.
    let x = c.printed_kinds_are_cut.ensures (flat unit) tree.told in
    (x.0, (c.sources_are_cut_one_way.ensures.scanned (canonical unit) x.0).0 x.1, x.2)
