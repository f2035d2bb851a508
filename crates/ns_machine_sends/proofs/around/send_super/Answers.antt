use Rattle.std.proofs.Common.{◌-◌, ℕ, sym, subst, arith}
use Rattle.ns_code.specs.declared.instruction.Instr.TheVariants as instr
use Rattle.ns_moves.specs.Sends.{ToSuper}
use Rattle.ns_moves.specs.Running.{code_of}
use Rattle.ns_machine_sends.specs.Sending.{sent_at, Sends}
use Rattle.ns_machine_sends.specs.Operands.{SendsOperands}
use Rattle.ns_machine_sends.specs.laws.Selves.{own_sent, can_send_own, here_fits}
use Rattle.ns_machine_sends.proofs.Selves.{super_operands, super_does}
use Rattle.ns_machine_sends.proofs.around.send_super.Goals as goal

pub step_above-requires-clause-can : goal.step_above-requires-clause-can
step_above-requires-clause-can c =
    let few = c.ranges.argc.fits in
    let same = c.from.ensures in
    can_send_own c.args.code.now c.args.core.now c.args.at c.args.sel c.from.result
    (subst (λ (n : ℕ). SendsOperands c.args.code.now c.args.core.now c.args.at c.args.sel n n) (sym c.from.ensures)
    (super_operands c.args.code.now c.args.core.now c.args.at c.args.sel c.args.argc c.requires.can))
    (omega (arith, few, same)) c.args.place c.class_of-class.result c.running_code-code_here.result.me
    (here_fits c.args.code.now c.args.core.now c.args.at (instr.SendSuper c.args.sel c.args.argc) c.running.result c.running_code-code_here.result c.requires.can
    c.running.ensures c.running_code-code_here.ensures).live
    c.class_of-class.ensures

pub returns : goal.returns
returns c =
    super_does c.operands_are_taken.ensures.taken c.args.code.now c.args.core.now c.step_above.new.core c.args.at c.args.sel c.args.argc c.args.place
    c.class_of-class.result c.running_code-code_here.result c.running.result c.step_above.result c.requires.can c.running.ensures c.running_code-code_here.ensures
    (subst (λ (n : ℕ). Sends c.args.code.now c.args.core.now c.args.at (c.args.at.top - n)
    (sent_at c.args.code.now c.args.core.now c.args.at (own_sent c.args.at n c.args.place c.class_of-class.result c.args.sel)
    (code_of c.running_code-code_here.result) ToSuper) c.step_above.new.core c.step_above.result)
    c.from.ensures c.step_above.ensures)
