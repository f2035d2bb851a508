use Rattle.std.proofs.Common.{◌≡◌, ◌≤◌, ◌+◌, drop}
use Rattle.ns_load.specs.Place.{behind}
use Rattle.ns_load.proofs.place.behind.Given as goal

abbrev pub invariant-loop-b : goal.invariant-loop-b
invariant-loop-b l = record {
  told : behind (drop l.b-index l.text) (record { file = l.file; line = l.line; col = l.col }) ≡ behind l.text l.fn.start;
  lines : l.line ≤ l.b-index + l.fn.start.line;
  columns : l.col ≤ l.b-index + l.fn.start.col;
}
