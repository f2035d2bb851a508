use Rattle.std.proofs.Common.{◌∙◌}
use Rattle.ns_machine_sends.proofs.blocks.begin_block.Goals as goal

pub begin_shaped-requires-clause-shape : goal.begin_shaped-requires-clause-shape
begin_shaped-requires-clause-shape c = c.with_environment.ensures ∙ c.shape_of-shape.ensures
