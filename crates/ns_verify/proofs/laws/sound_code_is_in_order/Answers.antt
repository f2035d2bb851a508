use Rattle.ns_verify.proofs.Order.{sound_classes, earlier_parents}
use Rattle.ns_verify.proofs.laws.sound_code_is_in_order.Goals as goal

pub returns-clause-classes : goal.returns-clause-classes
returns-clause-classes c = sound_classes

pub returns-clause-parents : goal.returns-clause-parents
returns-clause-parents c = earlier_parents
