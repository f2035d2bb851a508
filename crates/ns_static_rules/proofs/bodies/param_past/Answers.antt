use Rattle.std.proofs.Common.{arith}
use Rattle.ns_static_rules.proofs.Past.{none_past, some_past}
use Rattle.ns_static_rules.proofs.bodies.param_past.Goals as goal

pub returns-in-None : goal.returns-in-None
returns-in-None c = none_past (λ param. param.at) c.args.params.now c.args.most (omega (arith, c.in-None.ensures.lookup))

pub returns-in-Some : goal.returns-in-Some
returns-in-Some c = some_past (λ param. param.at) c.args.params.now c.args.most c.in-Some.param.now (omega (arith, c.in-Some.ensures.lookup)) c.in-Some.ensures.lookup.1
