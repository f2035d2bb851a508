use Rattle.ns_actors_calls.proofs.Taking.{begun_is, is_named, not_named}
use Rattle.ns_actors_calls.proofs.actor.begin.Goals as goal

pub returns-in-Some-clause-named : goal.returns-in-Some-clause-named
returns-in-Some-clause-named c =
    let machine = c.args.machine.now in
    is_named c.args.behaviour c.args.letter.now machine.code machine.state c.bytes.result.now c.value_of-argument.result c.bytes.ensures
    c.in-Some.ensures.may.0

pub returns-in-Some-clause-begun : goal.returns-in-Some-clause-begun
returns-in-Some-clause-begun c = λ _.
    begun_is c.args.behaviour c.args.letter.now c.args.machine.now c.begin.new.self c.in-Some.sel c.bytes.result.now c.value_of-argument.result
    c.bytes.ensures c.value_of-argument.ensures c.in-Some.ensures.may.1 c.begin.ensures.began

pub returns-in-None-clause-named : goal.returns-in-None-clause-named
returns-in-None-clause-named c =
    let machine = c.args.machine.now in
    not_named c.args.behaviour c.args.letter.now machine.code machine.state c.bytes.result.now c.value_of-argument.result c.bytes.ensures
    c.value_of-argument.ensures c.requires c.in-None.ensures.may
