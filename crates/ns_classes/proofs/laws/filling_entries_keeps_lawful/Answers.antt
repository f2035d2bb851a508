use Rattle.ns_classes.specs.laws.Lawfully.{slot_filled, class_kept}
use Rattle.ns_classes.proofs.laws.filling_entries_keeps_lawful.Goals as goal

pub returns-clause-slots : goal.returns-clause-slots
returns-clause-slots c = slot_filled

pub returns-clause-classes : goal.returns-clause-classes
returns-clause-classes c = class_kept
