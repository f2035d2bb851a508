use Rattle.ns_run_words.proofs.ReadingLaws.{reading_is}
use Rattle.ns_run_words.proofs.laws.first_bad_word.Goals as goal

pub returns : goal.returns
returns c = reading_is
