use Rattle.ns_find.proofs.Spelled.{arrays_find}
use Rattle.ns_find.proofs.laws.arrays_find_their_rows.Goals as goal

pub returns : goal.returns
returns c = arrays_find
