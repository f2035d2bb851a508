use Rattle.std.proofs.Common.{◌≡◌}
use Rattle.ns_code.specs.LocalNames.{numbered_names}
use Rattle.ns_code.proofs.local_names.numbered_texts.Given as goal

abbrev pub invariant-names : goal.invariant-names
invariant-names l = l.names.items ≡ numbered_names l.number
