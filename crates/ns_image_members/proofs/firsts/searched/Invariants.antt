use Rattle.std.proofs.Common.{◌≡◌, drop}
use Rattle.ns_image_members.specs.Under.{first_under}
use Rattle.ns_image_members.proofs.firsts.searched.Given as goal

abbrev pub invariant-entries : goal.invariant-entries
invariant-entries g l = first_under (drop l.entry-index l.entries) l.number ≡ first_under l.entries l.number
