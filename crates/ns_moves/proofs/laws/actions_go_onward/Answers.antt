use Rattle.std.proofs.Common.{[], ◌∷◌}
use Rattle.ns_world.specs.declared.value.Value.TheVariants.{Ref}
use Rattle.ns_moves.specs.Bodies.{environment_at, local_stored}
use Rattle.ns_moves.specs.Blocks.{evaluated, method_next}
use Rattle.ns_moves.specs.Classes.{super_part, body_ended, slot_filled, kept_by}
use Rattle.ns_moves.specs.Onward.{after_reached, reached, part_reached, waiting_reached}
use Rattle.ns_moves.specs.laws.Onward.{onward_of}
use Rattle.ns_moves.specs.laws.ClassesOnward.{super_onward, ended_onward, filled_onward}
use Rattle.ns_moves.specs.laws.BlocksOnward.{evaluated_onward, next_onward, any_cell_onward}
use Rattle.ns_moves.specs.laws.LawfulValues.{local_onward}
use Rattle.ns_moves.proofs.laws.actions_go_onward.Goals as goal

pub returns-clause-evaluated : goal.returns-clause-evaluated
returns-clause-evaluated c = λ code block arguments site progress.
    onward_of [] progress (reached (evaluated code block arguments site progress)) (evaluated_onward [] code block arguments site progress)

pub returns-clause-method_next : goal.returns-clause-method_next
returns-clause-method_next c = λ method state site progress.
    onward_of [] progress (waiting_reached (method_next method state site progress)) (next_onward [] method state site progress)

pub returns-clause-super_part : goal.returns-clause-super_part
returns-clause-super_part c = λ code activation arguments progress.
    onward_of [] progress (part_reached (super_part code activation arguments progress)) (super_onward [] code activation arguments progress)

pub returns-clause-new_cell : goal.returns-clause-new_cell
returns-clause-new_cell c = any_cell_onward []

pub returns-clause-body_ended : goal.returns-clause-body_ended
returns-clause-body_ended c = λ code exit activation value progress.
    onward_of (kept_by exit) progress (after_reached (body_ended code exit activation value progress)) (ended_onward code exit activation value progress)

pub returns-clause-slot_filled : goal.returns-clause-slot_filled
returns-clause-slot_filled c = λ code activation slot value progress.
    onward_of (activation.self ∷ []) progress (slot_filled code activation slot value progress) (filled_onward code activation slot value progress)

pub returns-clause-local_stored : goal.returns-clause-local_stored
returns-clause-local_stored c = λ code activation hops place value progress.
    onward_of (Ref (environment_at progress.world.cells code activation hops) ∷ []) progress (local_stored code activation hops place value progress)
    (local_onward code activation hops place value progress)
