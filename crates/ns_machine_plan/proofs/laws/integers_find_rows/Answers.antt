use Rattle.ns_machine_plan.proofs.SpelledRows.{integers_find}
use Rattle.ns_machine_plan.proofs.laws.integers_find_rows.Goals as goal

pub returns : goal.returns
returns c = λ heap code sel kind row is. integers_find heap code sel kind row (c.integers_find_their_rows.ensures heap code sel.0 kind) is
