use Rattle.std.proofs.Common.{None, rules, w64, SFits, to_z-of_z}
use Rattle.std.specs.Prelude.{slice_get}
use Rattle.ns_machine_turns.proofs.stepping.perform.Goals as goal

pub returns-in-PushNil : goal.returns-in-PushNil
returns-in-PushNil c = rw c.in-PushNil.is (c.push_nil.ensures None)

pub returns-in-PushTrue : goal.returns-in-PushTrue
returns-in-PushTrue c = rw c.in-PushTrue.is (c.push_true.ensures None)

pub returns-in-PushFalse : goal.returns-in-PushFalse
returns-in-PushFalse c = rw c.in-PushFalse.is (c.push_false.ensures None)

pub returns-in-PushInt : goal.returns-in-PushInt
returns-in-PushInt c =
    let fits : SFits w64 c.in-PushInt.number = search rules in rw c.in-PushInt.is (rw (to_z-of_z fits) at (c.push_int.ensures None))

pub returns-in-PushSym : goal.returns-in-PushSym
returns-in-PushSym c = rw c.in-PushSym.is (c.push_sym.ensures None)

pub returns-in-PushText : goal.returns-in-PushText
returns-in-PushText c = rw c.in-PushText.is (c.push_text.ensures None)

pub returns-in-PushSelf : goal.returns-in-PushSelf
returns-in-PushSelf c = rw c.in-PushSelf.is (c.push_self.ensures None)

pub returns-in-PushOuter : goal.returns-in-PushOuter
returns-in-PushOuter c = rw c.in-PushOuter.is (c.push_outer.ensures None)

pub returns-in-PushLocal : goal.returns-in-PushLocal
returns-in-PushLocal c = rw c.in-PushLocal.is (c.push_local.ensures None)

pub returns-in-StoreLocal : goal.returns-in-StoreLocal
returns-in-StoreLocal c = rw c.in-StoreLocal.is (c.store_local.ensures None)

pub returns-in-PushBlock : goal.returns-in-PushBlock
returns-in-PushBlock c = rw c.in-PushBlock.is (c.push_block.ensures None)

pub returns-in-MakeArray : goal.returns-in-MakeArray
returns-in-MakeArray c = rw c.in-MakeArray.is (c.make_array.ensures None)

pub returns-in-Pop : goal.returns-in-Pop
returns-in-Pop c = rw c.in-Pop.is (c.pop.ensures None)

pub returns-in-Pick : goal.returns-in-Pick
returns-in-Pick c = rw c.in-Pick.is (c.pick.ensures None)

pub returns-in-InitSuper : goal.returns-in-InitSuper
returns-in-InitSuper c = rw c.in-InitSuper.is (c.init_super.ensures (slice_get c.args.core.now.places c.in-InitSuper.place))

pub returns-in-StoreSlot : goal.returns-in-StoreSlot
returns-in-StoreSlot c = rw c.in-StoreSlot.is (c.store_slot.ensures None)

pub returns-in-Return : goal.returns-in-Return
returns-in-Return c = rw c.in-Return.is (c.return_value.ensures None)

pub returns-in-ReturnSelf : goal.returns-in-ReturnSelf
returns-in-ReturnSelf c = rw c.in-ReturnSelf.is (c.return_self.ensures None)

pub returns-in-ReturnHome : goal.returns-in-ReturnHome
returns-in-ReturnHome c = rw c.in-ReturnHome.is (c.return_home.ensures None)

pub returns-in-Jump : goal.returns-in-Jump
returns-in-Jump c = rw c.in-Jump.is (c.jump.ensures None)

pub returns-in-JumpFalse : goal.returns-in-JumpFalse
returns-in-JumpFalse c = rw c.in-JumpFalse.is (c.jump_false.ensures None)

pub returns-in-JumpTrue : goal.returns-in-JumpTrue
returns-in-JumpTrue c = rw c.in-JumpTrue.is (c.jump_true.ensures None)
