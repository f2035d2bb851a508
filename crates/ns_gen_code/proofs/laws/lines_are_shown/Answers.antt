use Rattle.ns_gen_code.proofs.Shown.{shown_is}
use Rattle.ns_gen_code.proofs.laws.lines_are_shown.Goals as goal

pub returns : goal.returns
returns c = shown_is
