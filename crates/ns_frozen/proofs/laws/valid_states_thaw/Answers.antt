use Rattle.ns_frozen.proofs.ValidThaws.{valid_thaws}
use Rattle.ns_frozen.proofs.laws.valid_states_thaw.Goals as goal

pub returns : goal.returns
returns c = λ code. valid_thaws code (c.sound_code_is_in_order.ensures.classes code) (c.sound_code_is_in_order.ensures.parents code)
