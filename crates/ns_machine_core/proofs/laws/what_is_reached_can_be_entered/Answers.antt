use Rattle.ns_machine_core.proofs.EntersBodies.{can_be_entered, arguments_are_locals}
use Rattle.ns_machine_core.proofs.laws.what_is_reached_can_be_entered.Goals as goal

pub returns-clause-entered : goal.returns-clause-entered
returns-clause-entered c = can_be_entered c.sound_bodies_stand_right.ensures c.frames_have_room.ensures.depth

pub returns-clause-arguments : goal.returns-clause-arguments
returns-clause-arguments c = arguments_are_locals c.sound_bodies_stand_right.ensures
