use Rattle.std.proofs.Common.{◌≡◌, ◌≤◌, length, take, map, Ok, vec_len}
use Rattle.std.specs.Vec.{vec_capacity}
use Rattle.ns_world.specs.Cell.{TextCell}
use Rattle.ns_world.specs.Heap.{heap_size}
use Rattle.ns_machine_start.specs.Making.{CellsAreMade, referring}
use Rattle.ns_machine_start.proofs.texts.make_texts.Given as goal

abbrev pub invariant-texts : goal.invariant-texts
invariant-texts l = record {
  makes : CellsAreMade (map TextCell (take l.text-index l.texts)) l.initial.world (Ok tt) l.world;
  listed : l.values.items ≡ referring (heap_size l.initial.world.world.cells) (take l.text-index l.texts);
  count : vec_len l.values ≡ l.text-index;
  enough : length l.texts ≤ vec_capacity l.values;
}
