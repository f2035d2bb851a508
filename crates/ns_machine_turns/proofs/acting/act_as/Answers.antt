use Rattle.std.proofs.Common.{refl}
use Rattle.ns_machine_core.specs.declared.state.Next.TheVariants.{On}
use Rattle.ns_machine_turns.proofs.Along.{none_gone}
use Rattle.ns_machine_turns.proofs.Looped.{acts_along, loops_act}
use Rattle.ns_machine_turns.proofs.acting.act_as.Goals as goal

pub act_on-requires-clause-can : goal.act_on-requires-clause-can
act_on-requires-clause-can c =
    loops_act c.args.code.now c.requires.runs.can.grants c.args.core.now c.args.at c.args.method
    (c.topmost_methods_can_act.ensures c.args.code.now c.requires.runs.can.grants) c.requires.runs.can.ready c.requires.loops

pub returns : goal.returns
returns c =
    acts_along c.args.code.now (c.moves_go_along.ensures c.args.code.now) (c.moves_charge_one.ensures.moves c.args.code.now) c.args.plan.now c.args.own
    c.args.left c.args.core.now c.args.core.now c.act_on.new.core c.args.at c.args.at
    (none_gone c.args.code.now c.args.plan.now c.args.own c.args.left c.args.core.now (On c.args.at) c.requires.runs) refl c.requires.some c.act_on.result
    c.act_on.ensures
