use Rattle.ns_machine_plan.proofs.SpelledRows.{arrays_find}
use Rattle.ns_machine_plan.proofs.laws.arrays_find_rows.Goals as goal

pub returns : goal.returns
returns c = λ heap code sel kind row is. arrays_find heap code sel kind row (c.arrays_find_their_rows.ensures heap code sel.0 kind) is
