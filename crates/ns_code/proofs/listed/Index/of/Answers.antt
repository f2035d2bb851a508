use Rattle.std.proofs.Common.{rules}
use Rattle.std.proofs.lemmas.List.Sorted.{IsNonDecreasingBy-from_sort_by_key}
use Rattle.ns_code.specs.declared.listed.Listed.{Listed}
use Rattle.ns_code.proofs.listed.Index.of.Goals as goal

pub invariant_of-result : goal.invariant_of-result
invariant_of-result c =
    rw c.shrink_to_fit.ensures.items
    (IsNonDecreasingBy-from_sort_by_key (λ (one : Listed). one.name) _ c.sort_unstable_by_key.ensures.sorted (λ a r q k. search rules))

pub returns : goal.returns
returns c = rw c.shrink_to_fit.ensures.items c.sort_unstable_by_key.ensures.permutation
