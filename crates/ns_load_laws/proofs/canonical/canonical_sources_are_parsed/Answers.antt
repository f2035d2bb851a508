use Rattle.std.proofs.Common.{ap, sym, subst, ◌∙◌}
use Rattle.ns_tree.specs.Deep.{deep}
use Rattle.ns_tree.specs.Tokens.{kinds}
use Rattle.ns_tree.specs.Tree.{AllHaveText}
use Rattle.ns_load_laws.specs.Canonical.{canonical}
use Rattle.ns_load_laws.proofs.canonical.canonical_sources_are_parsed.Goals as goal

pub returns : goal.returns
returns c = λ unit tree shallow.
    let x = c.printed_trees_are_cut.ensures.cut unit tree in
    let told = subst AllHaveText (sym x.2.spelled) tree.told in
    let parsed = c.what_is_spelled_is_parsed.ensures (kinds x.0) unit told in
    (x.0, (c.sources_are_cut_one_way.ensures.scanned (canonical unit) x.0).0 x.1, parsed.1 (x.2, ap deep x.2.spelled ∙ shallow))
