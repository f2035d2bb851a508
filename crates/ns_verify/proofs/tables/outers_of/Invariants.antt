use Rattle.std.proofs.Common.{◌≡◌, ◌++◌, drop, map}
use Rattle.ns_code.specs.declared.class.ClassCode.{ClassCode}
use Rattle.ns_verify.proofs.tables.outers_of.Given as goal

abbrev pub invariant-classes : goal.invariant-classes
invariant-classes l = l.outers.items ++ map (λ (class : ClassCode). class.outer) (drop l.class-index l.classes) ≡ map (λ (class : ClassCode). class.outer) l.classes
