use Rattle.std.proofs.Common.{◌≡◌, ℕ, ◌<◌, length, get_or, Option}
use Rattle.ns_find.specs.declared.memo.Kept.{Kept}
use Rattle.ns_find.specs.Memo.{IsEmpty}
use Rattle.ns_find.proofs.memo.Memo.clear.Given as goal

abbrev pub invariant-places : goal.invariant-places
invariant-places l =
    (length l.self-inside.places.items ≡ 1536)
    × ((k : ℕ) (d : Option Kept) → k < l.place → IsEmpty (get_or l.self-inside.places.items k d))
