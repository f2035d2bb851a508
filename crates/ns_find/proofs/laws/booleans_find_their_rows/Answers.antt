use Rattle.ns_find.proofs.Spelled.{booleans_find}
use Rattle.ns_find.proofs.laws.booleans_find_their_rows.Goals as goal

pub returns : goal.returns
returns c = booleans_find
