use Rattle.std.proofs.Common.{arith}
use Rattle.ns_static_rules.proofs.Past.{none_past, some_past}
use Rattle.ns_static_rules.proofs.bodies.place_past.Goals as goal

pub returns-in-None : goal.returns-in-None
returns-in-None g c = none_past (λ d. d.at) c.args.declared.now c.args.most (omega (arith, c.in-None.ensures.lookup))

pub returns-in-Some : goal.returns-in-Some
returns-in-Some g c = some_past (λ d. d.at) c.args.declared.now c.args.most c.in-Some.one.now (omega (arith, c.in-Some.ensures.lookup)) c.in-Some.ensures.lookup.1
