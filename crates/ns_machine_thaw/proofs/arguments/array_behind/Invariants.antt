use Rattle.std.proofs.Common.{◌≡◌, ◌+◌, ◌≤◌, drop, unwrap_or}
use Rattle.ns_machine_thaw.specs.Arguments.{data_behind, texts_size}
use Rattle.ns_machine_thaw.proofs.arguments.array_behind.Given as goal

abbrev pub invariant-texts : goal.invariant-texts
invariant-texts l =
    (unwrap_or (data_behind l.at (drop l.place l.cells)) 0 ≡ unwrap_or (data_behind l.first (drop l.from l.cells)) 0)
    × (l.at + texts_size (drop l.place l.cells) ≤ 4294967295)
