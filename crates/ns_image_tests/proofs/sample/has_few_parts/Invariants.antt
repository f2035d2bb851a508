use Rattle.std.proofs.Common.{◌≤◌, length}
use Rattle.std.specs.List.{AllWithin}
use Rattle.ns_code.specs.declared.body.BodyCode.{BodyCode}
use Rattle.ns_image_tests.proofs.sample.has_few_parts.Given as goal

abbrev pub invariant-bodies : goal.invariant-bodies
invariant-bodies l = AllWithin (λ (body : BodyCode). length body.instrs ≤ 65536) l.code.bodies 0 l.body-index
