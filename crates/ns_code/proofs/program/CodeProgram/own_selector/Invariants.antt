use Rattle.std.proofs.Common.{◌≡◌, ◌+◌, drop, length}
use Rattle.ns_code.specs.Own.{own_text, own_place}
use Rattle.ns_code.specs.Selector.{name_number}
use Rattle.ns_code.proofs.program.CodeProgram.own_selector.Given as goal

abbrev pub invariant-names : goal.invariant-names
invariant-names l =
    (l.number ≡ l.name-index)
    × (name_number (drop l.name-index l.name-items) l.number (own_text l.own) (length l.name-items + own_place l.own)
    ≡ name_number l.name-items 0 (own_text l.own) (length l.name-items + own_place l.own))
