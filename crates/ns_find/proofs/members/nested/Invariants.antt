use Rattle.std.proofs.Common.{◌≡◌, drop}
use Rattle.ns_find.specs.Members.{search, nested_members}
use Rattle.ns_find.proofs.members.nested.Given as goal

abbrev pub invariant-nested : goal.invariant-nested
invariant-nested l =
    search l.code l.asked.sel.0 l.asked.kind (nested_members l.asked.wanted l.holder (drop l.one-index l.nested))
    ≡ search l.code l.asked.sel.0 l.asked.kind (nested_members l.asked.wanted l.holder l.nested)
