use Rattle.ns_run_words.proofs.ReadingLaws.{cut_is}
use Rattle.ns_run_words.proofs.laws.first_bad_word_of_a_cut_line.Goals as goal

pub returns : goal.returns
returns c = cut_is
