use Rattle.std.proofs.Common.{◌≡◌, ◌+◌, drop, flat_map, length}
use Rattle.ns_snapshot_write.proofs.part.measure_all.Given as goal

abbrev pub invariant-parts : goal.invariant-parts
invariant-parts g l = l.fn.room.left + length (flat_map g.P.Part.layout (drop l.part-index l.parts)) ≡ l.room.left + length (flat_map g.P.Part.layout l.parts)
