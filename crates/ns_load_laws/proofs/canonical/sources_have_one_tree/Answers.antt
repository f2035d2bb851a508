use Rattle.std.proofs.Common.{subst}
use Rattle.ns_tree.specs.Tokens.{kinds}
use Rattle.ns_tree.specs.Tree.{Spells}
use Rattle.ns_load_laws.proofs.canonical.sources_have_one_tree.Goals as goal

pub returns : goal.returns
returns c = λ source unit other x y.
    let same = c.sources_are_cut_one_way.ensures.one source y.0 x.0 y.1 x.1 in
    c.one_tree_is_spelled.ensures (kinds x.0) unit other x.2 (subst (λ ts. Spells (kinds ts) other) same y.2)
