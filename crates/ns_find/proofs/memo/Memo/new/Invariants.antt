use Rattle.std.proofs.Common.{◌≡◌, All, length}
use Rattle.ns_find.specs.Memo.{IsEmpty}
use Rattle.ns_find.proofs.memo.Memo.new.Given as goal

abbrev pub invariant-places : goal.invariant-places
invariant-places l = (length l.places.items ≡ l.counter) × All IsEmpty l.places.items
