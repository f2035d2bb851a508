use Rattle.std.proofs.Common.{rules}
use Rattle.std.specs.Prelude.{nat_le}
use Rattle.std.proofs.lemmas.List.Sorted.{IsPartitionPoint-from_clause, IsPartitionedBy-leb}
use Rattle.ns_code.specs.declared.listed.Listed.{Listed}
use Rattle.ns_code.proofs.listed.first_past.Goals as goal

pub returns-clause-point : goal.returns-clause-point
returns-clause-point c =
    IsPartitionPoint-from_clause (λ (one : Listed). nat_le one.name c.args.name) _ _ c.partition_point.ensures.partitioned
    (IsPartitionedBy-leb (λ (one : Listed). one.name) _ c.args.name c.requires) (λ a r q k. search rules)
