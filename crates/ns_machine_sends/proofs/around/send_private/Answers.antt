use Rattle.std.proofs.Common.{◌-◌, ℕ, ap, sym, subst, arith}
use Rattle.ns_code.specs.declared.instruction.Instr.TheVariants as instr
use Rattle.ns_world.specs.declared.value.Value.{Value}
use Rattle.ns_world.specs.Lawful.{IsLiveValue}
use Rattle.ns_moves.specs.Bodies.{Place}
use Rattle.ns_moves.specs.Sends.{ToPrivate}
use Rattle.ns_moves.specs.Running.{code_of, nowhere}
use Rattle.ns_machine_sends.specs.Sending.{sent_at, Sends}
use Rattle.ns_machine_sends.specs.Operands.{SendsOperands}
use Rattle.ns_machine_sends.specs.laws.Selves.{own_sent, can_send_own, private_operands, here_fits, here_lawful, level_there, private_does}
use Rattle.ns_machine_sends.proofs.around.send_private.Goals as goal

pub step_around-requires-clause-receiver : goal.step_around-requires-clause-receiver
step_around-requires-clause-receiver c = ap (λ (p : Place). p.object) (c.enclosing-receiver.ensures nowhere)

-- the enclosing object is live
pub class_of-class-requires-clause-live : goal.class_of-class-requires-clause-live
class_of-class-requires-clause-live c =
    subst (λ (v : Value). IsLiveValue c.args.core.now.run.world.world.cells c.args.code.now v)
    (sym (ap (λ (p : Place). p.object) (c.enclosing-receiver.ensures nowhere)))
    (c.enclosing_objects_are_there.ensures.levels c.args.core.now.run.world.world c.args.code.now (code_of c.running_code-code_here.result) c.args.level
    (here_lawful c.args.code.now c.args.core.now c.args.at (instr.SendPrivate c.args.level c.args.sel c.args.argc) c.requires.can)
    (here_fits c.args.code.now c.args.core.now c.args.at (instr.SendPrivate c.args.level c.args.sel c.args.argc) c.running.result c.running_code-code_here.result
    c.requires.can c.running.ensures c.running_code-code_here.ensures)
    (level_there c.args.code.now c.args.core.now c.args.at c.args.level c.args.sel c.args.argc c.running.result c.running_code-code_here.result c.requires.can
    c.running.ensures c.running_code-code_here.ensures)).live

pub step_around-requires-clause-can : goal.step_around-requires-clause-can
step_around-requires-clause-can c =
    let few = c.ranges.argc.fits in
    let same = c.from.ensures in
    can_send_own c.args.code.now c.args.core.now c.args.at c.args.sel c.from.result
    (subst (λ (n : ℕ). SendsOperands c.args.code.now c.args.core.now c.args.at c.args.sel n n) (sym c.from.ensures)
    (private_operands c.args.code.now c.args.core.now c.args.at c.args.level c.args.sel c.args.argc c.requires.can))
    (omega (arith, few, same)) c.args.place c.class_of-class.result c.enclosing-receiver.result.object
    (subst (λ (v : Value). IsLiveValue c.args.core.now.run.world.world.cells c.args.code.now v)
    (sym (ap (λ (p : Place). p.object) (c.enclosing-receiver.ensures nowhere)))
    (c.enclosing_objects_are_there.ensures.levels c.args.core.now.run.world.world c.args.code.now (code_of c.running_code-code_here.result) c.args.level
    (here_lawful c.args.code.now c.args.core.now c.args.at (instr.SendPrivate c.args.level c.args.sel c.args.argc) c.requires.can)
    (here_fits c.args.code.now c.args.core.now c.args.at (instr.SendPrivate c.args.level c.args.sel c.args.argc) c.running.result c.running_code-code_here.result
    c.requires.can c.running.ensures c.running_code-code_here.ensures)
    (level_there c.args.code.now c.args.core.now c.args.at c.args.level c.args.sel c.args.argc c.running.result c.running_code-code_here.result c.requires.can
    c.running.ensures c.running_code-code_here.ensures)).live)
    c.class_of-class.ensures

pub returns : goal.returns
returns c =
    private_does c.operands_are_taken.ensures.taken c.args.code.now c.args.core.now c.step_around.new.core c.args.at c.args.level c.args.sel c.args.argc c.args.place
    c.class_of-class.result c.running_code-code_here.result c.running.result c.step_around.result c.requires.can c.running.ensures c.running_code-code_here.ensures
    (subst (λ (n : ℕ). Sends c.args.code.now c.args.core.now c.args.at (c.args.at.top - n)
    (sent_at c.args.code.now c.args.core.now c.args.at (own_sent c.args.at n c.args.place c.class_of-class.result c.args.sel)
    (code_of c.running_code-code_here.result) (ToPrivate c.args.level)) c.step_around.new.core c.step_around.result)
    c.from.ensures c.step_around.ensures)
