use Rattle.ns_tree.specs.laws.TreeFronts as law
use Rattle.ns_tree.proofs.laws.fronts_begin_trees.Goals as goal

pub returns : goal.returns
returns c = law.fronts_begin_trees
