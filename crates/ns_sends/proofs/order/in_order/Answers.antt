use Rattle.std.proofs.Common.{rules, ◌≡◌, IfOk, None, subst}
use Rattle.std.proofs.lemmas.Fn.{always_returns_same}
use Rattle.std.specs.Ordering.{is_lt}
use Rattle.ns_static_rules.specs.Least.{comes_before}
use Rattle.ns_static_all.specs.InOrder.{once_behind}
use Rattle.ns_static_all.specs.laws.Telling.{order_is_weak, told_in_order}
use Rattle.ns_sends.specs.Unanswered.{sent_key}
use Rattle.ns_sends.proofs.SentKeys.{four_numbers, same_send}
use Rattle.ns_sends.proofs.order.in_order.Goals as goal

pub returns : goal.returns
returns c =
    let sorted = c.sort_unstable_by.ensures.sorted (λ x y. comes_before (sent_key x) (sent_key y)) (order_is_weak sent_key 4 four_numbers same_send)
    (always_returns_same _ (λ a r. is_lt r ≡ comes_before (sent_key a.0.now) (sent_key a.1.0.now)) _ (λ a r q k. search rules)) in
    let e = told_in_order sent_key 4 four_numbers same_send c.args.sends.items c.sort_unstable_by.new.self.items c.sort_unstable_by.ensures.permutation sorted in
    let told = subst (λ xs. IfOk c.each_once.result (λ all. all.items ≡ once_behind sent_key None xs)) c.deref.ensures.value c.each_once.ensures in
    subst (λ told. IfOk c.each_once.result (λ all. all.items ≡ told)) e told
