use Rattle.ns_load.proofs.Lists.{next_mapped}
use Rattle.ns_load.proofs.Places.{next_in_order}
use Rattle.ns_load.proofs.place.marks.Goals as goal
use Rattle.ns_load.specs.Place.{place_of}

pub moved-place-requires-clause-within : goal.moved-place-requires-clause-within
moved-place-requires-clause-within c =
    (next_in_order c.loop-token.at _ c.loop-token.token-index c.args.tokens.now c.token-item.result c.loop-token-test.true c.token-item.is c.loop-token.invariant.order).1

pub moved-place-requires-clause-later : goal.moved-place-requires-clause-later
moved-place-requires-clause-later c =
    (next_in_order c.loop-token.at _ c.loop-token.token-index c.args.tokens.now c.token-item.result c.loop-token-test.true c.token-item.is c.loop-token.invariant.order).0

pub loop-token-preserved : goal.loop-token-preserved
loop-token-preserved c = record {
  told = next_mapped (λ token. place_of c.args.file c.args.source.now token.start) c.args.tokens.now c.loop-token.token-index c.token-item.result c.moved-place.result c.loop-token.marks.items c.push.new.self.items _ c.loop-token-test.true c.token-item.is c.loop-token.invariant.told c.moved-place.ensures c.in_ok-push.ensures.items;
  here = c.moved-place.ensures;
  order = (next_in_order c.loop-token.at _ c.loop-token.token-index c.args.tokens.now c.token-item.result c.loop-token-test.true c.token-item.is c.loop-token.invariant.order).2;
}
