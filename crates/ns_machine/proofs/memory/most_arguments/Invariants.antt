use Rattle.std.proofs.Common.{◌≡◌, max, drop}
use Rattle.ns_machine_core.specs.Standing.{most_arguments}
use Rattle.ns_machine.proofs.memory.most_arguments.Given as goal

abbrev pub invariant-names : goal.invariant-names
invariant-names l = max l.most (most_arguments (drop l.name-index l.names)) ≡ most_arguments l.names
