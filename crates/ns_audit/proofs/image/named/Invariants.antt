use Rattle.std.proofs.Common.{◌≡◌, drop}
use Rattle.ns_audit.specs.Image.{named_from}
use Rattle.ns_audit.proofs.image.named.Given as goal

abbrev pub invariant-names : goal.invariant-names
invariant-names l =
    (l.number ≡ l.name-index)
    × (named_from (drop l.name-index l.names) l.number l.text ≡ named_from l.names 0 l.text)
