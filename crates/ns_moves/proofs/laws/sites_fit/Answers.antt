use Rattle.ns_moves.specs.laws.Sites.{site_fits}
use Rattle.ns_moves.proofs.laws.sites_fit.Goals as goal

pub returns : goal.returns
returns c = site_fits
