use Rattle.std.proofs.Common.{◌≡◌, [], drop}
use Rattle.std.specs.Prelude.{fold}
use Rattle.ns_scope.specs.Names.{table_of}
use Rattle.ns_scope.specs.Table.{put_first}
use Rattle.ns_static_rules.specs.Rules.{found_repeated}
use Rattle.ns_static_rules.specs.Walk.{with_found}
use Rattle.ns_static_rules.proofs.bodies.found_repeated.Given as goal

abbrev pub invariant-loop-one : goal.invariant-loop-one
invariant-loop-one g l = record {
  found : with_found l.checker (found_repeated l.cause l.table (drop l.one-index l.declared)) ≡ with_found l.fn.checker (found_repeated l.cause [] l.declared);
  table : fold (λ table d. put_first table d.name d.value) l.table (drop l.one-index l.declared) ≡ table_of l.declared;
}
