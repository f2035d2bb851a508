use Rattle.ns_machine_plan.proofs.Following.{steps_are_usable}
use Rattle.ns_machine_plan.proofs.laws.what_steps_name_is_there.Goals as goal

pub returns : goal.returns
returns c = steps_are_usable c.sound_instructions_are_usable.ensures
