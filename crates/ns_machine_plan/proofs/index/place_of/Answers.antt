use Rattle.std.proofs.Common.{rules}
use Rattle.std.specs.Prelude.{nat_lt}
use Rattle.std.proofs.lemmas.List.Sorted.{IsPartitionPoint-from_clause, IsPartitionedBy-ltb}
use Rattle.ns_machine_plan.specs.declared.index.Entry.{Entry}
use Rattle.ns_machine_plan.proofs.index.place_of.Goals as goal

pub returns : goal.returns
returns c =
    IsPartitionPoint-from_clause (λ (entry : Entry). nat_lt entry.number c.args.number) _ _ c.partition_point.ensures.partitioned
    (IsPartitionedBy-ltb (λ (entry : Entry). entry.number) _ c.args.number c.requires) (λ a r q k. search rules)
