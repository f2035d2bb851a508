use Rattle.std.proofs.Common.{◌≡◌, drop}
use Rattle.std.specs.Prelude.{fold}
use Rattle.ns_scope.specs.Names.{table_of}
use Rattle.ns_scope.specs.Table.{put_first}
use Rattle.ns_scope.proofs.names.table_of.Given as goal

abbrev pub invariant-loop-one : goal.invariant-loop-one
invariant-loop-one g l = fold (λ table d. put_first table d.name d.value) l.table (drop l.one-index l.declared) ≡ table_of l.declared
