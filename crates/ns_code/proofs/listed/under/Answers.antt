use Rattle.ns_code.proofs.Listing.{found_under}
use Rattle.ns_code.proofs.listed.under.Goals as goal

pub returns : goal.returns
returns c =
    found_under c.args.name c.args.entries.now c.split_at.result.1.now c.split_at-2.result.0.now c.first_from.result c.first_past.result c.first_from.ensures.point
    c.split_at.ensures.back c.first_past.ensures.point c.split_at-2.ensures.front
