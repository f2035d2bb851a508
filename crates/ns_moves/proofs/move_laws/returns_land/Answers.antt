use Rattle.ns_moves.proofs.Homes.{return_lands}
use Rattle.ns_moves.proofs.Falls.{lands_below}
use Rattle.ns_moves.proofs.move_laws.returns_land.Goals as goal

pub returns-clause-lands : goal.returns-clause-lands
returns-clause-lands c = return_lands

pub returns-clause-below : goal.returns-clause-below
returns-clause-below c = lands_below
