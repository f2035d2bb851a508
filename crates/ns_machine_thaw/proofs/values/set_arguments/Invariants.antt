use Rattle.std.proofs.Common.{◌≡◌, take}
use Rattle.ns_machine_thaw.proofs.values.set_arguments.Given as goal

abbrev pub invariant-arguments : goal.invariant-arguments
invariant-arguments l = l.arguments ≡ record l.initial.arguments { items = take l.value-index l.values }
