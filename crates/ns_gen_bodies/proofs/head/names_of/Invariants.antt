use Rattle.std.proofs.Common.{◌≡◌, ◌++◌, map, drop}
use Rattle.ns_gen_bodies.proofs.head.names_of.Given as goal

abbrev pub invariant-loop-local : goal.invariant-loop-local
invariant-loop-local l = l.names.items ++ map (λ local. local.name) (drop l.local-index l.locals) ≡ map (λ local. local.name) l.locals
