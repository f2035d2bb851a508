use Rattle.std.proofs.Common.{rules}
use Rattle.ns_tree.specs.declared.tree.Expr.TheViews.{the_lemmas}
use Rattle.ns_tree.specs.lemmas.Rows.{opers_items, keys_items}
use Rattle.ns_tree.proofs.make.sent.Goals as goal

pub returns : goal.returns
returns c = search (rules, the_lemmas, opers_items, keys_items)
