use Rattle.std.proofs.Common.{◌≡◌, take}
use Rattle.ns_code.proofs.copies.clones_of.Given as goal

abbrev pub invariant-items : goal.invariant-items
invariant-items g l = l.copies.items ≡ take l.item-index l.items
