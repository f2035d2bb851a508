use Rattle.std.proofs.Common.{length, ◌-◌}
use Rattle.ns_run_words.proofs.words.+after_names.Given as goal

abbrev pub decreases-after_names : goal.decreases-after_names
decreases-after_names l = length l.words.now - l.count
