use Rattle.std.proofs.Common.{◌∙◌, sym, subst}
use Rattle.ns_code.specs.declared.program.CodeProgram.{CodeProgram}
use Rattle.ns_moves.specs.Starts.{started}
use Rattle.ns_moves.specs.Valid.{Valid}
use Rattle.ns_moves.specs.Living.{KeepsLive}
use Rattle.ns_machine_core.specs.Ready.{MachineIsReady}
use Rattle.ns_machine_core.specs.Shown.{shown}
use Rattle.ns_machine_core.specs.declared.state.Next.TheVariants as next
use Rattle.ns_machine_turns.specs.Turning.{RunsBy}
use Rattle.ns_machine.specs.Machine.{MachineView, IsMachine, stage_shown}
use Rattle.ns_machine.specs.Turning.{Ran}
use Rattle.ns_machine.specs.declared.stage.Stage.{Stage}
use Rattle.ns_machine.proofs.LiveEndings.{live_at}
use Rattle.ns_machine.proofs.Standing.{machine_runs, machine_ready, machine_on}
use Rattle.ns_machine.proofs.machine.Machine.run.Goals as goal

pub run_out-ending-requires : goal.run_out-ending-requires
run_out-ending-requires c =
    let m = c.self.inside in
    subst (λ (code : CodeProgram). RunsBy code m.plan m.own m.core c.in-Begun.from) (sym c.code.ensures.code)
    (machine_runs m.code m.grants m.plan m.core m.own c.in-Begun.from
    (subst (λ (s : Stage). IsMachine m.code m.grants m.plan m.core m.own s) c.in-Begun.is c.self.invariant))

pub invariant_of-self : goal.invariant_of-self
invariant_of-self c =
    let m = c.self.inside in
    let is = subst (λ (s : Stage). IsMachine m.code m.grants m.plan m.core m.own s) c.in-Begun.is c.self.invariant in
    machine_on m.code m.grants m.plan m.core c.run_out-ending.new.core m.own c.in-Begun.from next.Ended is
    (subst (λ (code : CodeProgram). MachineIsReady code m.grants m.core c.in-Begun.from
    → MachineIsReady code m.grants c.run_out-ending.new.core next.Ended) c.code.ensures.code (c.run_out-ending.ensures.ready m.grants)
    (machine_ready m.code m.grants m.plan m.core m.own c.in-Begun.from is))
    c.run_out-ending.ensures.stays

-- the run began in a valid state
begins : (c : goal.After-self-1) → Valid c.args.self.now.code c.args.self.now.grants (started c.args.self.now.code c.args.self.now.state)
begins c = subst (λ (view : MachineView). Valid view.code view.grants view.state) (c.self.view_is ∙ c.start.ensures) c.self.invariant.valid

-- and came to its end
has_ran : (c : goal.After-self-1) → Ran c.args.self.now.code (started c.args.self.now.code c.args.self.now.state) c.run_out-ending.result
    (shown c.self.inside.code c.run_out-ending.new.core next.Ended)
has_ran c =
    let m = c.self.inside in
    let last = shown m.code c.run_out-ending.new.core next.Ended in
    let moved : Ran m.code (shown m.code m.core c.in-Begun.from) c.run_out-ending.result last =
    subst (λ (code : CodeProgram). Ran code (shown code m.core c.in-Begun.from) c.run_out-ending.result (shown code c.run_out-ending.new.core next.Ended))
    c.code.ensures.code c.run_out-ending.ensures.ran in
    subst (λ (view : MachineView). Ran view.code view.state c.run_out-ending.result last) (c.self.view_is ∙ c.start.ensures)
    (subst (λ (s : Stage). Ran m.code (stage_shown m.code m.core s) c.run_out-ending.result last) (sym c.in-Begun.is) moved)

pub returns-clause-live : goal.returns-clause-live
returns-clause-live c =
    let old = c.args.self.now in
    let ran = has_ran c in
    live_at old.code old.grants c.run_out-ending.result (shown c.self.inside.code c.run_out-ending.new.core next.Ended)
    (subst (Valid old.code old.grants) ran.is (c.moves_keep_valid.ensures old.code old.grants ran.count (started old.code old.state) (begins c)))
    ran.ends

pub returns-clause-keeps_live : goal.returns-clause-keeps_live
returns-clause-keeps_live c =
    let old = c.args.self.now in
    let ran = has_ran c in
    subst (KeepsLive old.code old.state) ran.is (c.begun_runs_keep_live.ensures.runs old.code old.grants ran.count old.state (begins c))
