use Rattle.std.proofs.Common.{length, ◌-◌}
use Rattle.ns_run_words.proofs.words.+after_options.Given as goal

abbrev pub decreases-after_options : goal.decreases-after_options
decreases-after_options l = length l.words.now - l.count
