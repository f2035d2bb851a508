use Rattle.std.proofs.Common.{◌≡◌, ◌++◌, drop, None}
use Rattle.ns_static_all.specs.InOrder.{once_behind}
use Rattle.ns_sends.specs.Unanswered.{sent_key}
use Rattle.ns_sends.proofs.order.each_once.Given as goal

abbrev pub invariant-sends : goal.invariant-sends
invariant-sends l = l.told.items ++ once_behind sent_key l.last (drop l.sent-index l.sends) ≡ once_behind sent_key None l.sends
