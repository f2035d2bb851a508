use Rattle.std.proofs.Common.{◌≡◌, map, drop}
use Rattle.ns_gen_records.specs.Naming.{with_names}
use Rattle.ns_gen_records.proofs.names.put_methods.Given as goal

abbrev pub invariant-loop-method : goal.invariant-loop-method
invariant-loop-method l = with_names (map (λ method. method.selector) (drop l.method-index l.methods)) l.writer ≡ with_names (map (λ method. method.selector) l.methods) l.fn.writer
