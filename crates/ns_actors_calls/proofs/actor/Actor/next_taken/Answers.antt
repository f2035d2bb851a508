use Rattle.std.proofs.Common.{◌<◌, ◌∙◌, length, arith}
use Rattle.ns_actors_calls.specs.Shown.{shown}
use Rattle.ns_actors_calls.proofs.Taking.{takes_known, takes_unknown}
use Rattle.ns_actors_calls.proofs.actor.Actor.next_taken.Goals as goal

pub returns-then-begin_next : goal.returns-then-begin_next
returns-then-begin_next c =
    let old = c.args.self.now in
    let within : old.taken < length old.letters.all = omega (arith, c.if-len-self.false, c.len.ensures) in
    c.run_on.ensures
    ∙ takes_known c.args.behaviour c.args.k c.args.steps c.args.count (shown old) (shown c.begin_next.new.self) c.begin_next.result within
    c.begin_next.ensures.takes c.if-begin_next.true

pub returns-else-begin_next : goal.returns-else-begin_next
returns-else-begin_next c =
    let old = c.args.self.now in
    let within : old.taken < length old.letters.all = omega (arith, c.if-len-self.false, c.len.ensures) in
    takes_unknown c.args.behaviour c.args.k c.args.steps c.args.count (shown old) (shown c.begin_next.new.self) c.begin_next.result within
    c.begin_next.ensures.takes c.if-begin_next.false
