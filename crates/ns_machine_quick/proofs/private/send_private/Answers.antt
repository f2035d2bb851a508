use Rattle.std.proofs.Common.{ℕ, ap, sym, subst, arith}
use Rattle.ns_code.specs.declared.instruction.Instr.TheVariants as instr
use Rattle.ns_world.specs.declared.value.Value.{Value}
use Rattle.ns_world.specs.Lawful.{IsLiveValue}
use Rattle.ns_moves.specs.Bodies.{Place}
use Rattle.ns_moves.specs.declared.running.Running.{Running}
use Rattle.ns_moves.specs.Running.{code_of, nowhere}
use Rattle.ns_machine_sends.specs.Operands.{SendsOperands}
use Rattle.ns_machine_sends.specs.laws.Selves.{own_sent, can_send_own, private_operands, here_fits, here_lawful, level_there}
use Rattle.ns_machine_quick.specs.Opening.{IsMemberAt, AroundLeads}
use Rattle.ns_machine_quick.proofs.Privately.{private_leads}
use Rattle.ns_machine_quick.proofs.private.send_private.Goals as goal

pub send_around-requires-clause-around : goal.send_around-requires-clause-around
send_around-requires-clause-around c = c.enclosing-around.ensures nowhere

-- the enclosing object is live
pub class_of-class-requires-clause-live : goal.class_of-class-requires-clause-live
class_of-class-requires-clause-live c =
    subst (λ (v : Value). IsLiveValue c.args.core.now.run.world.world.cells c.args.code.now v)
    (sym (ap (λ (p : Place). p.object) (c.enclosing-around.ensures nowhere)))
    (c.enclosing_objects_are_there.ensures.levels c.args.core.now.run.world.world c.args.code.now (code_of c.running_code-code_here.result) c.args.level
    (here_lawful c.args.code.now c.args.core.now c.args.at (instr.SendPrivate c.args.level c.args.sel c.args.argc) c.requires.can)
    (here_fits c.args.code.now c.args.core.now c.args.at (instr.SendPrivate c.args.level c.args.sel c.args.argc) c.running.result c.running_code-code_here.result
    c.requires.can c.running.ensures c.running_code-code_here.ensures)
    (level_there c.args.code.now c.args.core.now c.args.at c.args.level c.args.sel c.args.argc c.running.result c.running_code-code_here.result c.requires.can
    c.running.ensures c.running_code-code_here.ensures)).live

pub send_around-requires-clause-can : goal.send_around-requires-clause-can
send_around-requires-clause-can c =
    let few = c.ranges.argc.fits in
    let same = c.from.ensures in
    can_send_own c.args.code.now c.args.core.now c.args.at c.args.sel c.from.result
    (subst (λ (n : ℕ). SendsOperands c.args.code.now c.args.core.now c.args.at c.args.sel n n) (sym c.from.ensures)
    (private_operands c.args.code.now c.args.core.now c.args.at c.args.level c.args.sel c.args.argc c.requires.can))
    (omega (arith, few, same)) c.args.place c.class_of-class.result c.enclosing-around.result.object
    (subst (λ (v : Value). IsLiveValue c.args.core.now.run.world.world.cells c.args.code.now v)
    (sym (ap (λ (p : Place). p.object) (c.enclosing-around.ensures nowhere)))
    (c.enclosing_objects_are_there.ensures.levels c.args.core.now.run.world.world c.args.code.now (code_of c.running_code-code_here.result) c.args.level
    (here_lawful c.args.code.now c.args.core.now c.args.at (instr.SendPrivate c.args.level c.args.sel c.args.argc) c.requires.can)
    (here_fits c.args.code.now c.args.core.now c.args.at (instr.SendPrivate c.args.level c.args.sel c.args.argc) c.running.result c.running_code-code_here.result
    c.requires.can c.running.ensures c.running_code-code_here.ensures)
    (level_there c.args.code.now c.args.core.now c.args.at c.args.level c.args.sel c.args.argc c.running.result c.running_code-code_here.result c.requires.can
    c.running.ensures c.running_code-code_here.ensures)).live)
    c.class_of-class.ensures

pub returns : goal.returns
returns c =
    private_leads c.operands_are_taken.ensures.taken c.args.code.now c.args.core.now c.send_around.new.core c.args.at c.args.level c.args.sel c.args.argc c.args.place
    c.class_of-class.result c.running_code-code_here.result c.running.result c.send_around.result c.requires.can c.running.ensures c.running_code-code_here.ensures
    (subst (λ (n : ℕ). AroundLeads c.args.code.now c.args.core.now c.args.at (own_sent c.args.at n c.args.place c.class_of-class.result c.args.sel)
    c.running_code-code_here.result c.args.level c.send_around.new.core c.send_around.result)
    c.from.ensures c.send_around.ensures)

pub send_around-requires-clause-member : goal.send_around-requires-clause-member
send_around-requires-clause-member c =
    subst (λ (body : ℕ). IsMemberAt c.args.code.now body c.args.level c.args.sel c.args.member) (sym (ap (λ (r : Running). r.body) c.running_code-code_here.ensures))
    (c.requires.member c.running.result _ c.running.ensures)
