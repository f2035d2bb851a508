use Rattle.std.proofs.Common.{◌≡◌, ◌++◌, drop, flat_map}
use Rattle.ns_snapshot_write.proofs.part.put_all.Given as goal

abbrev pub invariant-parts : goal.invariant-parts
invariant-parts g l = l.out.items ++ flat_map g.P.Part.layout (drop l.part-index l.parts) ≡ l.fn.out.items ++ flat_map g.P.Part.layout l.parts
