use Rattle.std.proofs.Common.{◌≡◌, ℕ, ◌<◌, Some, length, slice_get}
use Rattle.ns_machine_plan.specs.Outers.{out_from}
use Rattle.ns_machine_plan.proofs.outers.Outers.new.Given as goal

abbrev pub invariant-classes : goal.invariant-classes
invariant-classes l = (length l.far.items ≡ l.number) × ((k : ℕ) → k < l.number → slice_get l.far.items k ≡ Some (out_from l.code (Some k) 16))
