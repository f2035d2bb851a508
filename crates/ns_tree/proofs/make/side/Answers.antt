use Rattle.std.proofs.Common.{rules}
use Rattle.ns_tree.specs.declared.tree.What.TheViews.{the_lemmas}
use Rattle.ns_tree.specs.lemmas.Rows.{members_items}
use Rattle.ns_tree.proofs.make.side.Goals as goal

pub returns : goal.returns
returns c = search (rules, the_lemmas, members_items)
