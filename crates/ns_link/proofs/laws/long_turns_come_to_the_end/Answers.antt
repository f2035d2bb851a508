use Rattle.std.proofs.Common.{◌+◌, refl}
use Rattle.ns_world.specs.declared.value.Value.TheVariants.{Nil}
use Rattle.ns_moves.specs.Start.{start_cells, nothing_done}
use Rattle.ns_resolved.specs.Tables.{tables}
use Rattle.ns_gen_code.specs.Code.{code_of}
use Rattle.ns_model.specs.Whole.{ran}
use Rattle.ns_moves.specs.Starts.{new_machine}
use Rattle.ns_link.specs.Stated.{begins}
use Rattle.ns_link.proofs.FewerSteps.{all_limits, started_limits}
use Rattle.ns_link.proofs.LongTurns.{long_turn_ends, few_steps}
use Rattle.ns_link.proofs.laws.long_turns_come_to_the_end.Goals as goal

pub returns : goal.returns
returns c meant grants arguments limits state may turns =
    let code = code_of meant in
    let onward = c.moves_go_onward.ensures code in
    let first = c.opening_sends_are_valid.ensures.first code grants (new_machine code limits grants arguments)
    (c.new_machines_are_valid.ensures code grants limits arguments may.sound may.fits may.range) in
    let limited = started_limits limits code _ (all_limits limits (start_cells code grants arguments) Nil (nothing_done limits) refl) in
    long_turn_ends code (c.ended_runs_stay.ensures code) onward (ran meant (tables meant) grants arguments limits) (limits.steps + 1)
    (begins meant grants arguments limits) state
    (c.turns_are_on_the_way.ensures meant may.first grants arguments limits (limits.steps + 1) state turns) turns
    (few_steps code onward grants (c.moves_keep_valid.ensures code grants) limits (limits.steps + 1) (begins meant grants arguments limits) state first limited turns)
