use Rattle.std.proofs.Common.{rules, ◌≡◌, IfOk, None, subst}
use Rattle.std.proofs.lemmas.Fn.{always_returns_same}
use Rattle.std.specs.Ordering.{is_lt}
use Rattle.ns_static_rules.specs.Least.{comes_before, order_of}
use Rattle.ns_static_all.specs.InOrder.{once_behind}
use Rattle.ns_static_all.proofs.Alike.{four_numbers, same_fault}
use Rattle.ns_static_all.specs.laws.Telling.{order_is_weak, told_in_order}
use Rattle.ns_static_all.proofs.all.in_order.Goals as goal

pub returns : goal.returns
returns c =
    let sorted = c.sort_unstable_by.ensures.sorted (λ x y. comes_before (order_of x) (order_of y)) (order_is_weak order_of 4 four_numbers same_fault)
    (always_returns_same _ (λ a r. is_lt r ≡ comes_before (order_of a.0.now) (order_of a.1.0.now)) _ (λ a r q k. search rules)) in
    let e = told_in_order order_of 4 four_numbers same_fault c.args.faults.items c.sort_unstable_by.new.self.items c.sort_unstable_by.ensures.permutation sorted in
    let told = subst (λ xs. IfOk c.each_once.result (λ all. all.items ≡ once_behind order_of None xs)) c.deref.ensures.value c.each_once.ensures in
    subst (λ told. IfOk c.each_once.result (λ all. all.items ≡ told)) e told
