use Rattle.std.proofs.Common.{refl}
use Rattle.ns_moves.specs.declared.control.Exit.TheVariants as exit
use Rattle.ns_moves.specs.declared.control.Reached.TheVariants as reached
use Rattle.ns_moves.specs.declared.sends.Answered.TheVariants.{Comes}
use Rattle.ns_machine_frames.specs.View.{site_shown}
use Rattle.ns_machine_core.specs.declared.state.Next.TheVariants.{On}
use Rattle.ns_machine_sends.specs.laws.Looked.{comes_leads, answer_goes, answer_sends}
use Rattle.ns_machine_quick.specs.Opening.{begun_at}
use Rattle.ns_machine_quick.proofs.Opened.{method_comes}
use Rattle.ns_machine_quick.proofs.opening.begin.Goals as goal

pub enter_shaped-requires-clause-shape : goal.enter_shaped-requires-clause-shape
enter_shaped-requires-clause-shape c = rw c.open_method-entered.ensures.body c.requires.shape

pub enter_shaped-requires-clause-taken : goal.enter_shaped-requires-clause-taken
enter_shaped-requires-clause-taken c = rw c.open_method-entered.ensures.given refl

pub enter_shaped-requires-clause-goes : goal.enter_shaped-requires-clause-goes
enter_shaped-requires-clause-goes c =
    answer_goes c.args.code.now c.args.core.now c.args.at c.args.sent c.args.receiver c.open_method-entered.new.run
    (Comes (reached.Enters exit.Method c.open_method-entered.result))
    (begun_at c.args.code.now c.args.core.now c.args.at c.args.sent c.args.receiver c.args.body c.args.holder)
    (method_comes c.args.code.now c.args.core.now c.args.at c.args.sent c.args.receiver c.args.body c.args.holder c.open_method-entered.new.run
    (reached.Enters exit.Method c.open_method-entered.result) c.from-arguments.result.now c.from-arguments.ensures
    (c.open_method-entered.ensures.reached (site_shown c.args.core.now.places c.args.sent.site)))
    c.requires.goes

pub returns : goal.returns
returns c =
    answer_sends c.args.code.now c.args.core.now c.enter_shaped.new.core c.args.at c.args.sent c.args.receiver c.open_method-entered.new.run
    (Comes (reached.Enters exit.Method c.open_method-entered.result))
    (begun_at c.args.code.now c.args.core.now c.args.at c.args.sent c.args.receiver c.args.body c.args.holder) (On c.enter_shaped.result)
    (method_comes c.args.code.now c.args.core.now c.args.at c.args.sent c.args.receiver c.args.body c.args.holder c.open_method-entered.new.run
    (reached.Enters exit.Method c.open_method-entered.result) c.from-arguments.result.now c.from-arguments.ensures
    (c.open_method-entered.ensures.reached (site_shown c.args.core.now.places c.args.sent.site)))
    c.open_method-entered.ensures.rest (rw c.open_method-entered.ensures.memo c.requires.can.kept)
    (comes_leads c.args.code.now _ c.enter_shaped.new.core c.args.at c.args.sent _ (On c.enter_shaped.result) c.enter_shaped.ensures)
