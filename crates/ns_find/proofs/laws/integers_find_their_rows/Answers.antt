use Rattle.ns_find.proofs.Spelled.{integers_find}
use Rattle.ns_find.proofs.laws.integers_find_their_rows.Goals as goal

pub returns : goal.returns
returns c = integers_find
