use Rattle.std.proofs.Common.{ap, sym, ◌∙◌}
use Rattle.ns_tree.specs.Tokens.{kinds}
use Rattle.ns_print.specs.Printed.{printed}
use Rattle.ns_load_laws.specs.Canonical.{canonical}
use Rattle.ns_load_laws.proofs.canonical.canonical_sources_stay.Goals as goal

pub returns : goal.returns
returns c = λ unit other tree source.
    let x = c.printed_trees_are_cut.ensures.cut unit tree in
    let same = ap kinds (c.sources_are_cut_one_way.ensures.one (canonical unit) source.0 x.0 source.1 x.1) in
    ap printed (sym source.2.spelled ∙ same ∙ x.2.spelled)
