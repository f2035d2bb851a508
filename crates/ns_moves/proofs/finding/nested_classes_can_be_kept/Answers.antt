use Rattle.ns_moves.specs.lemmas.LawfulClasses.{enclosed}
use Rattle.ns_moves.proofs.Keeping.{class_nested, class_entry, class_inside, class_stays}
use Rattle.ns_moves.proofs.finding.nested_classes_can_be_kept.Goals as goal

pub returns-clause-nested : goal.returns-clause-nested
returns-clause-nested c = class_nested

pub returns-clause-entry : goal.returns-clause-entry
returns-clause-entry c = class_entry

pub returns-clause-inside : goal.returns-clause-inside
returns-clause-inside c = class_inside

pub returns-clause-enclosed : goal.returns-clause-enclosed
returns-clause-enclosed c = enclosed

pub returns-clause-stays : goal.returns-clause-stays
returns-clause-stays c = class_stays
