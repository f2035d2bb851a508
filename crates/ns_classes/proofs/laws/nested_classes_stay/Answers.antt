use Rattle.ns_classes.proofs.Lasting.{nested_word_lasts, fault_lasts}
use Rattle.ns_classes.proofs.laws.nested_classes_stay.Goals as goal

pub returns-clause-words : goal.returns-clause-words
returns-clause-words c = nested_word_lasts

pub returns-clause-checks : goal.returns-clause-checks
returns-clause-checks c = fault_lasts
