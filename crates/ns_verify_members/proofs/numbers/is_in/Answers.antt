use Rattle.ns_verify_members.proofs.Sorted.{searched_has}
use Rattle.ns_verify_members.proofs.numbers.is_in.Goals as goal

pub returns : goal.returns
returns c = rw c.is_ok.ensures.value (searched_has c.args.numbers.now c.args.number c.binary_search.result c.binary_search.ensures.position c.requires)
