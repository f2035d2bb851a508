use Rattle.std.proofs.Common.{None, refl, rules, w32, w64, SFits, ap, subst, to_z-of_z, ◌∙◌}
use Rattle.ns_code.specs.declared.instruction.Instr.TheVariants as instr
use Rattle.ns_machine_core.specs.laws.Straight.{plain_straight, tried_straight, tried_on}
use Rattle.ns_machine_plan.specs.declared.step.Step.{Step}
use Rattle.ns_machine_plan.specs.Packed.{unpacked}
use Rattle.ns_machine_plan.specs.Steps.{HasItsMember}
use Rattle.ns_machine_turns.proofs.performing.perform.Goals as goal

-- ---- plain steps, which lead straight on

pub returns-in-PushNil : goal.returns-in-PushNil
returns-in-PushNil c =
    rw c.in-PushNil.is
    (plain_straight c.args.code.now instr.PushNil None c.args.core.now c.push_nil.new.core c.args.at c.push_nil.result refl (c.push_nil.ensures None))

pub returns-in-PushTrue : goal.returns-in-PushTrue
returns-in-PushTrue c =
    rw c.in-PushTrue.is
    (plain_straight c.args.code.now instr.PushTrue None c.args.core.now c.push_true.new.core c.args.at c.push_true.result refl (c.push_true.ensures None))

pub returns-in-PushFalse : goal.returns-in-PushFalse
returns-in-PushFalse c =
    rw c.in-PushFalse.is
    (plain_straight c.args.code.now instr.PushFalse None c.args.core.now c.push_false.new.core c.args.at c.push_false.result refl (c.push_false.ensures None))

pub returns-in-PushShort : goal.returns-in-PushShort
returns-in-PushShort c =
    let short : SFits w32 c.in-PushShort.number = search rules in
    let fits : SFits w64 c.in-PushShort.number = search rules in
    rw c.in-PushShort.is
    (plain_straight c.args.code.now (instr.PushInt c.in-PushShort.number) None c.args.core.now c.push_int.new.core c.args.at c.push_int.result refl
    (rw (c.from.ensures, to_z-of_z short, to_z-of_z fits) at (c.push_int.ensures None)))

pub returns-in-PushLong : goal.returns-in-PushLong
returns-in-PushLong c =
    let fits : SFits w64 c.integer.result = search rules in
    rw (c.in-PushLong.is, c.integer.ensures)
    (plain_straight c.args.code.now (instr.PushInt c.integer.result) None c.args.core.now c.push_int-in-PushLong.new.core c.args.at c.push_int-in-PushLong.result refl
    (rw (to_z-of_z fits) at (c.push_int-in-PushLong.ensures None)))

pub returns-in-PushSym : goal.returns-in-PushSym
returns-in-PushSym c =
    rw c.in-PushSym.is
    (plain_straight c.args.code.now (instr.PushSym c.in-PushSym.sel) None c.args.core.now c.push_sym.new.core c.args.at c.push_sym.result refl (c.push_sym.ensures None))

pub returns-in-PushSelf : goal.returns-in-PushSelf
returns-in-PushSelf c =
    rw c.in-PushSelf.is
    (plain_straight c.args.code.now instr.PushSelf None c.args.core.now c.push_self.new.core c.args.at c.push_self.result refl (c.push_self.ensures None))

pub returns-in-PushOuter : goal.returns-in-PushOuter
returns-in-PushOuter c =
    rw c.in-PushOuter.is
    (plain_straight c.args.code.now (instr.PushOuter c.in-PushOuter.level) None c.args.core.now c.push_outer.new.core c.args.at c.push_outer.result refl (c.push_outer.ensures None))

pub returns-in-PushLocal : goal.returns-in-PushLocal
returns-in-PushLocal c =
    rw c.in-PushLocal.is
    (plain_straight c.args.code.now (instr.PushLocal c.in-PushLocal.hops c.in-PushLocal.index) None c.args.core.now c.push_local_of.new.core c.args.at c.push_local_of.result refl (c.push_local_of.ensures None))

pub returns-in-StoreLocal : goal.returns-in-StoreLocal
returns-in-StoreLocal c =
    rw c.in-StoreLocal.is
    (plain_straight c.args.code.now (instr.StoreLocal c.in-StoreLocal.hops c.in-StoreLocal.index) None c.args.core.now c.store_local_of.new.core c.args.at c.store_local_of.result refl (c.store_local_of.ensures None))

pub returns-in-PushBlock : goal.returns-in-PushBlock
returns-in-PushBlock c =
    rw (c.in-PushBlock.is, c.led_straight.ensures)
    (tried_straight c.args.code.now (instr.PushBlock c.in-PushBlock.block) None c.args.core.now c.args.at c.push_block.new.core c.push_block.result refl
    (c.push_block.ensures None))

pub returns-in-Pop : goal.returns-in-Pop
returns-in-Pop c =
    rw c.in-Pop.is
    (plain_straight c.args.code.now instr.Pop None c.args.core.now c.pop.new.core c.args.at c.pop.result refl (c.pop.ensures None))

pub returns-in-Pick : goal.returns-in-Pick
returns-in-Pick c =
    rw c.in-Pick.is
    (plain_straight c.args.code.now (instr.Pick c.in-Pick.number) None c.args.core.now c.pick.new.core c.args.at c.pick.result refl (c.pick.ensures None))

pub returns-in-StoreSlot : goal.returns-in-StoreSlot
returns-in-StoreSlot c =
    rw c.in-StoreSlot.is
    (plain_straight c.args.code.now (instr.StoreSlot c.in-StoreSlot.slot) None c.args.core.now c.store_slot.new.core c.args.at c.store_slot.result refl (c.store_slot.ensures None))

-- ---- jumps

pub returns-in-Jump : goal.returns-in-Jump
returns-in-Jump c = rw c.in-Jump.is (c.jump.ensures None)

pub returns-in-JumpFalse : goal.returns-in-JumpFalse
returns-in-JumpFalse c = rw c.in-JumpFalse.is (c.jump_false.ensures None)

pub returns-in-JumpTrue : goal.returns-in-JumpTrue
returns-in-JumpTrue c = rw c.in-JumpTrue.is (c.jump_true.ensures None)

-- ---- ends of bodies, and sends

pub returns-in-Return : goal.returns-in-Return
returns-in-Return c = rw c.in-Return.is (c.return_value.ensures None)

pub returns-in-ReturnSelf : goal.returns-in-ReturnSelf
returns-in-ReturnSelf c = rw c.in-ReturnSelf.is (c.return_self.ensures None)

pub returns-in-ReturnHome : goal.returns-in-ReturnHome
returns-in-ReturnHome c =
    rw (c.in-ReturnHome.is, c.led_on.ensures)
    (tried_on c.args.code.now instr.ReturnHome None c.args.core.now c.args.at c.return_home.new.core c.return_home.result (c.return_home.ensures None))

-- to a private member

pub send_around-requires-clause-member : goal.send_around-requires-clause-member
send_around-requires-clause-member c frame others e b there =
    subst (λ (s : Step). HasItsMember c.args.code.now b s) (ap (unpacked c.args.step.tables.now) c.in-SendPrivate.is ∙ c.private.ensures)
    (c.requires.member frame others b e there)
