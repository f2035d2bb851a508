use Rattle.std.proofs.Common.{sym, subst}
use Rattle.ns_code.specs.declared.program.CodeProgram.{CodeProgram}
use Rattle.ns_machine_core.specs.Ready.{MakesMove}
use Rattle.ns_machine_turns.specs.Turning.{RunsBy}
use Rattle.ns_machine.specs.Machine.{IsMachine}
use Rattle.ns_machine.specs.declared.stage.Stage.{Stage}
use Rattle.ns_machine.proofs.Standing.{machine_runs, machine_ready, machine_on}
use Rattle.ns_machine.proofs.machine.Machine.advance.Goals as goal

pub step-next-requires : goal.step-next-requires
step-next-requires c =
    let m = c.self.inside in
    subst (λ (code : CodeProgram). RunsBy code m.plan m.own m.core c.in-Begun.from) (sym c.code.ensures.code)
    (machine_runs m.code m.grants m.plan m.core m.own c.in-Begun.from
    (subst (λ (s : Stage). IsMachine m.code m.grants m.plan m.core m.own s) c.in-Begun.is c.self.invariant))

pub invariant_of-self : goal.invariant_of-self
invariant_of-self c =
    let m = c.self.inside in
    let is = subst (λ (s : Stage). IsMachine m.code m.grants m.plan m.core m.own s) c.in-Begun.is c.self.invariant in
    let made = subst (λ (code : CodeProgram). MakesMove code m.core c.in-Begun.from c.step-next.new.core c.step-next.result) c.code.ensures.code c.step-next.ensures in
    machine_on m.code m.grants m.plan m.core c.step-next.new.core m.own c.in-Begun.from c.step-next.result is
    (c.moves_keep_machines_ready.ensures.moves m.code m.grants m.core c.step-next.new.core c.in-Begun.from c.step-next.result
    (machine_ready m.code m.grants m.plan m.core m.own c.in-Begun.from is) made)
    made.stays
