use Rattle.std.proofs.Common.{◌≡◌, drop}
use Rattle.ns_kdata.specs.Texts.{is_before}
use Rattle.ns_kdata.proofs.symbols.is_before.Given as goal

abbrev pub invariant-bytes : goal.invariant-bytes
invariant-bytes l = is_before (drop l.place l.first) (drop l.place l.second) ≡ is_before l.first l.second
