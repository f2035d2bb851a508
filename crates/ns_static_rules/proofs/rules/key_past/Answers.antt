use Rattle.std.proofs.Common.{◌≡◌, Some, None, subst, arith}
use Rattle.std.specs.Prelude.{slice_get}
use Rattle.ns_static_rules.proofs.Past.{none_past, some_past, key_map}
use Rattle.ns_static_rules.proofs.rules.key_past.Goals as goal

pub returns-in-None : goal.returns-in-None
returns-in-None c = subst (λ ys. None ≡ slice_get ys c.args.most) (key_map c.args.keys.now) (none_past (λ x. x.0.at) c.args.keys.now c.args.most (omega (arith, c.in-None.ensures.lookup)))

pub returns-in-Some : goal.returns-in-Some
returns-in-Some c = subst (λ ys. Some (c.in-Some.key.now.0.at) ≡ slice_get ys c.args.most) (key_map c.args.keys.now) (some_past (λ x. x.0.at) c.args.keys.now c.args.most c.in-Some.key.now (omega (arith, c.in-Some.ensures.lookup)) c.in-Some.ensures.lookup.1)
