use Rattle.ns_moves.proofs.Begins.{new_valid}
use Rattle.ns_moves.proofs.valid_world.new_machines_are_valid.Goals as goal

pub returns : goal.returns
returns c = λ code grants. new_valid code grants (c.sound_code_is_in_order.ensures.classes code) (c.sound_code_is_in_order.ensures.parents code)
