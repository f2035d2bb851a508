use Rattle.ns_world.specs.laws.Charging.{step_keeps, enter_keeps, leave_keeps, print_keeps}
use Rattle.ns_world.proofs.lawful.charging_keeps_lawful.Goals as goal

pub returns-clause-steps : goal.returns-clause-steps
returns-clause-steps c = step_keeps

pub returns-clause-frames : goal.returns-clause-frames
returns-clause-frames c = enter_keeps

pub returns-clause-left : goal.returns-clause-left
returns-clause-left c = leave_keeps

pub returns-clause-output : goal.returns-clause-output
returns-clause-output c = print_keeps
