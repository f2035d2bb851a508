use Rattle.ns_sends.proofs.Never.{told_are_never_found}
use Rattle.ns_sends.proofs.laws.told_are_never_found.Goals as goal

pub returns : goal.returns
returns c = told_are_never_found
