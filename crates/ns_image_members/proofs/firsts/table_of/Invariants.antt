use Rattle.std.proofs.Common.{◌≡◌, drop, None}
use Rattle.std.specs.Prelude.{fold, replicate}
use Rattle.ns_image_members.specs.Under.{put_under}
use Rattle.ns_image_members.proofs.firsts.table_of.Given as goal

abbrev pub invariant-entries : goal.invariant-entries
invariant-entries g l = fold put_under l.table.items (drop l.entry-index l.entries) ≡ fold put_under (replicate l.length None) l.entries
