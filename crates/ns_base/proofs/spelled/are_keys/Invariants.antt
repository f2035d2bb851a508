use Rattle.std.proofs.Common.{◌≡◌, false, drop}
use Rattle.ns_base.specs.Spelling.{are_keys}
use Rattle.ns_base.proofs.spelled.are_keys.Given as goal

abbrev pub invariant-bytes : goal.invariant-bytes
invariant-bytes l = are_keys l.begun (drop l.byte-index l.text) ≡ are_keys false l.text
