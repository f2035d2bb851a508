use Rattle.std.proofs.Common.{◌≡◌, ◌++◌, drop, map}
use Rattle.ns_tree.specs.PlainOf.{unit_of}
use Rattle.ns_scope.specs.Bodies.{bodies_of}
use Rattle.ns_scope_bodies.proofs.bodies.scopes.Given as goal

abbrev pub invariant-loop-unit : goal.invariant-loop-unit
invariant-loop-unit l = l.all.items ++ bodies_of (map unit_of (drop l.unit-index l.fn.program.units)) ≡ bodies_of (map unit_of l.fn.program.units)
