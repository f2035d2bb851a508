use Rattle.std.proofs.Common.{◌≡◌, drop, length}
use Rattle.ns_code.specs.Selector.{name_number}
use Rattle.ns_machine.proofs.asking.name_number.Given as goal

abbrev pub invariant-names : goal.invariant-names
invariant-names l =
    (l.number ≡ l.name-index)
    × (name_number (drop l.name-index l.names) l.number l.text (length l.names) ≡ name_number l.names 0 l.text (length l.names))
