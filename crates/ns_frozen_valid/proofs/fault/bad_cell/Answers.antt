use Rattle.std.proofs.Common.{ap, ◌∙◌, map}
use Rattle.ns_frozen_valid.specs.First.{first_shown}
use Rattle.ns_frozen_valid.proofs.Gone.{seen_bad}
use Rattle.ns_frozen_valid.proofs.fault.bad_cell.Goals as goal

pub returns : goal.returns
returns c =
    seen_bad c.args.seen.now.code.now c.args.seen.now.cells.now c.args.frozen.now (map first_shown c.as_slice.result.now) c.wants_arguments.result
    c.bad_among-place.result c.requires.these (ap (map first_shown) c.as_slice.ensures.value ∙ c.in_ok-first.ensures) c.wants_arguments.ensures
    c.bad_among-place.ensures
