use Rattle.ns_find.specs.laws.SoundBodies.{found_by, private_by}
use Rattle.ns_find.proofs.laws.what_is_found_is_named.Goals as goal

pub returns-clause-found : goal.returns-clause-found
returns-clause-found c = found_by

pub returns-clause-private : goal.returns-clause-private
returns-clause-private c = private_by
