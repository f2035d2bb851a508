use Rattle.std.proofs.Common.{◌-◌, ◌<◌, sym, subst, arith}
use Rattle.ns_machine_core.specs.declared.state.Next.{Next}
use Rattle.ns_machine_core.specs.Ready.{MakesMove}
use Rattle.ns_machine_turns.proofs.Along.{none_gone}
use Rattle.ns_machine_turns.proofs.turning.go_along.Goals as goal

pub returns-in-Waits : goal.returns-in-Waits
returns-in-Waits c =
    let left = c.requires.some in
    let some : c.args.core.now.run.world.world.steps - c.args.core.now.run.world.world.steps < c.args.left = omega (arith, left) in
    c.moves_go_along.ensures c.args.code.now c.args.plan.now c.args.own c.args.left c.args.core.now c.args.core.now c.take_up.new.core c.args.next
    c.args.next c.take_up.result
    (none_gone c.args.code.now c.args.plan.now c.args.own c.args.left c.args.core.now c.args.next c.requires.runs) c.requires.goes c.requires.goes some
    (subst (λ (next : Next). MakesMove c.args.code.now c.args.core.now next c.take_up.new.core c.take_up.result) (sym c.in-Waits.is) c.take_up.ensures)
