use Rattle.ns_run_words.proofs.RangeLaws.{form_in_range}
use Rattle.ns_run_words.proofs.laws.limits_are_in_range.Goals as goal

pub returns : goal.returns
returns c = form_in_range
