use Rattle.ns_static_all.specs.laws.Telling.{all_of_them}
use Rattle.ns_sends.specs.Unanswered.{lost_sends, sent_key}
use Rattle.ns_sends.proofs.SentKeys.{four_numbers, same_send}
use Rattle.ns_sends.proofs.laws.all_are_told.Goals as goal

pub returns : goal.returns
returns c code = all_of_them sent_key 4 four_numbers same_send (lost_sends code)
