use Rattle.ns_verify_members.proofs.Added.{both_added}
use Rattle.ns_verify_members.proofs.members.add_named.Goals as goal

pub returns-in_ok-push-2 : goal.returns-in_ok-push-2
returns-in_ok-push-2 c =
    both_added c.args.code.now.names c.args.slot c.args.found.now.items c.push.new.self.items c.push-then-slot.new.self.items c.setter.result
    c.if-slot.true c.in_ok-push.ensures.items c.setter.ensures c.in_ok-push-2.ensures.items
