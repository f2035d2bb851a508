use Rattle.std.proofs.Common.{◌∙◌, refl, sym, ap, []}
use Rattle.ns_tree.specs.Plain as p
use Rattle.ns_tree.specs.declared.tree.Expr.TheViews as m
use Rattle.ns_tree.specs.laws.Nodes.{implicit_out, key_expr_none, key_expr_some}
use Rattle.ns_tree.proofs.make.simple.Goals as goal

pub returns-in-None : goal.returns-in-None
returns-in-None c =
    let keys = (m.out-KeyExpr c.args.expr).keys in
    implicit_out (m.Implicit keys) keys refl ∙ ap (λ first. p.expr_with [] first p.no_messages) (sym (key_expr_none c.args.expr c.in-None.is))

pub returns-in-Some : goal.returns-in-Some
returns-in-Some c = rw (key_expr_some c.args.expr c.in-Some.bin c.in-Some.is) c.keyed.ensures
