use Rattle.std.proofs.Common.{rules, ◌∙◌, ap}
use Rattle.std.proofs.lemmas.List.Sorted.{IsNonDecreasingBy-from_sort_by_key}
use Rattle.ns_machine_plan.specs.declared.index.Entry.{Entry}
use Rattle.ns_machine_plan.specs.Members.{first_under}
use Rattle.ns_machine_plan.proofs.Sorting.{first_stays}
use Rattle.ns_machine_plan.proofs.index.Index.of.Goals as goal

pub invariant_of-result : goal.invariant_of-result
invariant_of-result c =
    rw c.shrink_to_fit.ensures.items
    (IsNonDecreasingBy-from_sort_by_key (λ (entry : Entry). entry.number) _ c.in_ok-sort_by_key.ensures.sorted (λ a r q k. search rules))

pub returns : goal.returns
returns c number =
    ap (first_under number) c.shrink_to_fit.ensures.items
    ∙ first_stays c.args.entries.items c.sort_by_key.new.self.items c.in_ok-sort_by_key.ensures.stable (λ a r q k. search rules) number
