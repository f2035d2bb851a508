use Rattle.std.proofs.Common.{sym, subst}
use Rattle.ns_world.specs.declared.ending.Ending.{Ending}
use Rattle.ns_machine_core.specs.declared.state.Next.TheVariants as next
use Rattle.ns_machine_core.specs.Doing.{IsDone}
use Rattle.ns_code.specs.declared.instruction.Instr.TheVariants as instr
use Rattle.ns_machine_returns.proofs.HomeReturned.{can_unwind, home_returned, dead_returned}
use Rattle.ns_machine_returns.proofs.homes.return_home.Goals as goal

pub unwind-requires-clause-can : goal.unwind-requires-clause-can
unwind-requires-clause-can c =
    can_unwind c.args.code.now c.args.core.now c.args.at c.pop-value.result.1 c.running-frame.result.activation.home c.in-Some.count c.pop-value.result.0 c.requires.can
    c.pop-value.ensures.stood c.pop-value.ensures.laid (sym c.in-Some.ensures)

pub returns-in-Some : goal.returns-in-Some
returns-in-Some c place =
    home_returned c.returns_unwind.ensures.finds c.args.code.now c.args.core.now c.unwind.new.core c.args.at c.pop-value.result.1 c.running-frame.result c.in-Some.count
    c.pop-value.result.0 place c.unwind.result c.requires.can c.running-frame.ensures c.pop-value.ensures.stood (sym c.in-Some.ensures) c.unwind.ensures

pub returns-in-None : goal.returns-in-None
returns-in-None c place =
    subst (λ (ending : Ending). IsDone c.args.code.now instr.ReturnHome place c.args.core.now c.args.at (record c.args.core.now { ending = ending }) next.Ended) (sym c.ending_at-core.ensures)
    (dead_returned c.returns_unwind.ensures.finds c.args.code.now c.args.core.now c.args.at c.pop-value.result.1 c.running-frame.result
    c.pop-value.result.0 place c.requires.can c.running-frame.ensures c.pop-value.ensures.stood (sym c.in-None.ensures))
