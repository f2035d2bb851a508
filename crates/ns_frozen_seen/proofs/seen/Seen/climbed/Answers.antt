use Rattle.std.proofs.Common.{ℕ, ◌≡◌, Option, true, subst, sym}
use Rattle.ns_frozen.specs.Live.{has_chain}
use Rattle.ns_frozen_seen.specs.Climbs.{Walks, holds}
use Rattle.ns_frozen_tables.specs.Numbers.{IsPlaceOf}
use Rattle.ns_frozen_seen.specs.Seen.{heap_of}
use Rattle.ns_frozen_seen.proofs.seen.Seen.climbed.Goals as goal

pub climbed_from-requires-clause-there : goal.climbed_from-requires-clause-there
climbed_from-requires-clause-there c =
    (subst (λ (o : Option ℕ). IsPlaceOf c.args.self.now.chains.numbers.items c.args.class o) c.in-Some.is c.place.ensures).0

pub climbed_from-requires-clause-chain : goal.climbed_from-requires-clause-chain
climbed_from-requires-clause-chain c =
    let at = subst (λ (o : Option ℕ). IsPlaceOf c.args.self.now.chains.numbers.items c.args.class o) c.in-Some.is c.place.ensures in
    subst (λ (n : ℕ). has_chain c.args.self.now.code.now (heap_of c.args.self.now) n ≡ true) (sym at.1) c.requires.chain

pub returns-in-Some : goal.returns-in-Some
returns-in-Some c =
    let at = subst (λ (o : Option ℕ). IsPlaceOf c.args.self.now.chains.numbers.items c.args.class o) c.in-Some.is c.place.ensures in
    subst (λ (n : ℕ). Walks c.args.self.now.code.now (heap_of c.args.self.now) n c.climbed_from.result (holds c.args.holder)) at.1 c.climbed_from.ensures
