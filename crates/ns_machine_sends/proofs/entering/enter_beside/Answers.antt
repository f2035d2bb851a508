use Rattle.ns_moves.specs.Bodies.{greatest_of}
use Rattle.ns_machine_core.specs.declared.state.Next.TheVariants.{On}
use Rattle.ns_machine_sends.proofs.EnteredKept.{kept_fit, placed_left, placed_goes, placed_taken, placed_arrives}
use Rattle.ns_machine_sends.proofs.entering.enter_beside.Goals as goal

pub place_kept-above-requires-clause-room : goal.place_kept-above-requires-clause-room
place_kept-above-requires-clause-room c =
    kept_fit c.args.code.now (c.what_is_reached_can_be_entered.ensures.arguments c.args.code.now) (c.frames_have_room.ensures.depth (greatest_of c.args.code.now.bodies))
    c.args.core.now c.args.at c.args.sent c.args.exit c.args.entered c.requires.left c.requires.goes c.requires.listed c.requires.passed c.requires.beside

pub enter_on_arguments-requires-clause-left : goal.enter_on_arguments-requires-clause-left
enter_on_arguments-requires-clause-left c =
    placed_left c.args.code.now c.args.core.now c.place_kept-above.new.core c.args.at c.place_kept-above.result c.args.sent c.place_kept-above.ensures c.requires.left

pub enter_on_arguments-requires-clause-goes : goal.enter_on_arguments-requires-clause-goes
enter_on_arguments-requires-clause-goes c =
    placed_goes c.args.code.now c.args.core.now c.place_kept-above.new.core c.args.at c.place_kept-above.result c.args.sent c.place_kept-above.ensures c.args.exit
    c.args.entered c.requires.goes

pub enter_on_arguments-requires-clause-taken : goal.enter_on_arguments-requires-clause-taken
enter_on_arguments-requires-clause-taken c =
    placed_taken c.args.code.now c.args.core.now c.place_kept-above.new.core c.args.at c.place_kept-above.result c.args.sent c.place_kept-above.ensures c.args.exit
    c.args.entered c.requires.listed c.requires.passed

pub returns : goal.returns
returns c =
    placed_arrives c.args.code.now c.args.core.now c.place_kept-above.new.core c.args.at c.place_kept-above.result c.args.sent c.place_kept-above.ensures
    c.enter_on_arguments.new.core c.args.exit c.args.entered (On c.enter_on_arguments.result) c.enter_on_arguments.ensures
