use Rattle.std.proofs.Common.{◌≡◌, take}
use Rattle.ns_machine_frames.proofs.arguments.Arguments.set.Given as goal

abbrev pub invariant-arguments : goal.invariant-arguments
invariant-arguments l = l.self ≡ record l.initial.self { items = take l.value-index l.values }
