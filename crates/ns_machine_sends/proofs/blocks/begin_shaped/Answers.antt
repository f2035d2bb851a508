use Rattle.std.proofs.Common.{refl}
use Rattle.ns_world.specs.declared.value.Value.TheVariants.{Ref}
use Rattle.ns_moves.specs.declared.control.Exit.TheVariants as exit
use Rattle.ns_moves.specs.declared.control.Reached.TheVariants as reached
use Rattle.ns_machine_core.specs.declared.state.Next.TheVariants.{On}
use Rattle.ns_machine_sends.specs.Going.{arguments_in}
use Rattle.ns_machine_sends.proofs.AtOnce.{block_evaluated}
use Rattle.ns_machine_sends.proofs.Evaluated.{evaluated_goes, evaluated_control, evaluation_goes, evaluation_leads}
use Rattle.ns_machine_sends.proofs.blocks.begin_shaped.Goals as goal

pub enter_shaped-requires-clause-shape : goal.enter_shaped-requires-clause-shape
enter_shaped-requires-clause-shape c = rw c.in-Some.ensures.body c.requires.shape

pub enter_shaped-requires-clause-taken : goal.enter_shaped-requires-clause-taken
enter_shaped-requires-clause-taken c = rw c.in-Some.ensures.given refl

pub enter_shaped-requires-clause-goes : goal.enter_shaped-requires-clause-goes
enter_shaped-requires-clause-goes c =
    let values = arguments_in c.args.core.now c.args.at c.args.sent in
    let r = reached.Enters exit.Body c.in-Some.entered in
    evaluation_goes c.args.code.now c.args.core.now c.args.sent (Ref c.args.cell) values c.open_block.new.world r
    (evaluated_control c.args.code.now c.args.core.now c.args.sent (Ref c.args.cell) c.open_block.new.world r c.from-arguments.result.now values c.from-arguments.ensures
    (block_evaluated c.args.code.now c.args.cell c.args.running c.from-arguments.result.now r c.args.core.now.run.world c.open_block.new.world c.requires.block
    c.in-Some.ensures.reached))
    (evaluated_goes c.args.code.now c.args.core.now c.args.sent (Ref c.args.cell) values
    (record { lawful = c.sends_keep_lawful.ensures.evaluated; hands = c.what_is_handed_on_fits.ensures; spends = c.actions_spend_exactly.ensures; stays = c.sites_stay.ensures.evaluated })
    c.requires.is)

pub returns-in-Some : goal.returns-in-Some
returns-in-Some c =
    let values = arguments_in c.args.core.now c.args.at c.args.sent in
    let r = reached.Enters exit.Body c.in-Some.entered in
    evaluation_leads c.args.code.now c.args.core.now c.args.sent (Ref c.args.cell) values c.open_block.new.world r
    (evaluated_control c.args.code.now c.args.core.now c.args.sent (Ref c.args.cell) c.open_block.new.world r c.from-arguments.result.now values c.from-arguments.ensures
    (block_evaluated c.args.code.now c.args.cell c.args.running c.from-arguments.result.now r c.args.core.now.run.world c.open_block.new.world c.requires.block
    c.in-Some.ensures.reached))
    c.enter_shaped.new.core c.args.at (On c.enter_shaped.result) c.in-Some.ensures.rest c.enter_shaped.ensures
