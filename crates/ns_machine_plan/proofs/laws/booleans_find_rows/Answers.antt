use Rattle.ns_machine_plan.proofs.SpelledRows.{booleans_find}
use Rattle.ns_machine_plan.proofs.laws.booleans_find_rows.Goals as goal

pub returns : goal.returns
returns c = λ heap code sel kind method is. booleans_find heap code sel kind method (c.booleans_find_their_rows.ensures heap code sel.0 kind) is
