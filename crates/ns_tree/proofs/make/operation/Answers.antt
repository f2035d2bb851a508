use Rattle.std.proofs.Common.{rules}
use Rattle.ns_tree.specs.declared.tree.Expr.TheViews.{the_lemmas}
use Rattle.ns_tree.specs.lemmas.Rows.{opers_items}
use Rattle.ns_tree.proofs.make.operation.Goals as goal

pub returns-in_ok-new : goal.returns-in_ok-new
returns-in_ok-new c = search (rules, the_lemmas, opers_items)
