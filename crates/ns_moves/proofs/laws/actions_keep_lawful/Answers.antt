use Rattle.ns_moves.specs.laws.LawfulParts.{super_lawful, ended_lawful, next_lawful}
use Rattle.ns_moves.proofs.laws.actions_keep_lawful.Goals as goal

pub returns-clause-super_part : goal.returns-clause-super_part
returns-clause-super_part c = super_lawful

pub returns-clause-body_ended : goal.returns-clause-body_ended
returns-clause-body_ended c = ended_lawful

pub returns-clause-method_next : goal.returns-clause-method_next
returns-clause-method_next c = λ m state site code progress lawful live. next_lawful code m state site progress lawful live
