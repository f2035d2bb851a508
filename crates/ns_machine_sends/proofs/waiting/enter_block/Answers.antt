use Rattle.std.proofs.Common.{sym, subst}
use Rattle.ns_machine_core.specs.declared.state.Core.{Core}
use Rattle.ns_machine_sends.specs.Going.{arguments_in, IsLeft, Leads}
use Rattle.ns_machine_sends.specs.Waiting.{IsWaiting, evaluated_with}
use Rattle.ns_machine_sends.proofs.waiting.enter_block.Goals as goal

pub evaluate_in-requires-clause-left : goal.evaluate_in-requires-clause-left
evaluate_in-requires-clause-left c =
    subst (λ (core : Core). IsLeft c.args.code.now core c.args.at c.args.sent) (sym c.in-None.ensures) c.requires.left

pub evaluate_in-requires-clause-is : goal.evaluate_in-requires-clause-is
evaluate_in-requires-clause-is c =
    subst (λ (core : Core). IsWaiting c.args.code.now core (arguments_in core c.args.at c.args.sent) c.args.block) (sym c.in-None.ensures) c.requires.is

pub returns-in-None : goal.returns-in-None
returns-in-None c =
    subst (λ (core : Core). Leads c.args.code.now core c.args.at c.args.sent.floor
    (evaluated_with c.args.code.now core c.args.sent (arguments_in core c.args.at c.args.sent) c.args.block) c.evaluate_in.new.core c.evaluate_in.result)
    c.in-None.ensures c.evaluate_in.ensures
