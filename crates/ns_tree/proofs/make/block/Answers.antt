use Rattle.ns_tree.specs.laws.Nodes.{block_made}
use Rattle.ns_tree.proofs.make.block.Goals as goal

pub returns : goal.returns
returns c =
    let made = block_made c.fitted.result c.fitted_bars.result c.args.body in
    let params = c.fitted.ensures in
    let bars = c.fitted_bars.ensures in
    cc
