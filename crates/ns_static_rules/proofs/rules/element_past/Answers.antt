use Rattle.std.proofs.Common.{◌≡◌, Some, None, subst, arith}
use Rattle.std.specs.Prelude.{slice_get}
use Rattle.ns_static_rules.proofs.Past.{none_past, some_past, element_map}
use Rattle.ns_tree.specs.PlainOf.{expr_of}
use Rattle.ns_static_rules.specs.Faults.{expr_start}
use Rattle.ns_static_rules.proofs.rules.element_past.Goals as goal

pub returns-in-None : goal.returns-in-None
returns-in-None c = subst (λ ys. None ≡ slice_get ys c.args.most) (element_map c.args.items.now) (none_past (λ x. expr_start (expr_of x)) c.args.items.now c.args.most (omega (arith, c.in-None.ensures.lookup)))

pub returns-in-Some : goal.returns-in-Some
returns-in-Some c = rw c.expr_start.ensures (subst (λ ys. Some (expr_start (expr_of c.in-Some.item.now)) ≡ slice_get ys c.args.most) (element_map c.args.items.now) (some_past (λ x. expr_start (expr_of x)) c.args.items.now c.args.most c.in-Some.item.now (omega (arith, c.in-Some.ensures.lookup)) c.in-Some.ensures.lookup.1))
