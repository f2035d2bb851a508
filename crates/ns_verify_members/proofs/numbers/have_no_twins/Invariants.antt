use Rattle.std.proofs.Common.{◌≡◌, None, drop}
use Rattle.ns_verify_members.specs.Numbers.{have_no_twins}
use Rattle.ns_verify_members.proofs.numbers.have_no_twins.Given as goal

abbrev pub invariant-numbers : goal.invariant-numbers
invariant-numbers l = have_no_twins l.last (drop l.number-index l.numbers) ≡ have_no_twins None l.numbers
