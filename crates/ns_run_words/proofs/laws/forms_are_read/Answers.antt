use Rattle.ns_run_words.proofs.FormLaws.{form_is_read}
use Rattle.ns_run_words.proofs.laws.forms_are_read.Goals as goal

pub returns : goal.returns
returns c = form_is_read
