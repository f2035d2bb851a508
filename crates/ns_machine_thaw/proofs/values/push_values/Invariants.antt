use Rattle.std.proofs.Common.{take}
use Rattle.ns_machine_thaw.proofs.Pushed.{Pushed}
use Rattle.ns_machine_thaw.proofs.values.push_values.Given as goal

abbrev pub invariant-values : goal.invariant-values
invariant-values l = Pushed (take l.value-index l.values) l.fn.stack l.fn.at l.stack l.above
