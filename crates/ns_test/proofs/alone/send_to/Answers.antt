use Rattle.std.proofs.Common.{◌≡◌, [], ap, ◌∙◌}
use Rattle.ns_base.specs.declared.selector.Sel.{Sel}
use Rattle.ns_machine.specs.Asking.{named}
use Rattle.ns_machine.specs.Machine.{MachineView}
use Rattle.ns_moves.specs.Starts.{begun}
use Rattle.ns_moves.specs.State.{State}
use Rattle.ns_run_code.specs.Machine.{rested}
use Rattle.ns_test.proofs.alone.send_to.Goals as goal

abbrev standing : MachineView → State → MachineView
standing machine state = record { code = machine.code; grants = machine.grants; state = state }

pub returns-clause-machine : goal.returns-clause-machine
returns-clause-machine c =
    let old = c.args.machine.now in
    let sel_is : c.in-Some.sel ≡ named old.code c.args.name.now = c.in-Some.ensures.may.1 in
    let rest = c.runs_end_at_rest.ensures.sends old.code old.grants c.args.value c.in-Some.sel [] old.state
    c.send.new.self.state c.send.result c.idle-valid.ensures.valid c.in-Some.ensures.begins c.send.ensures.ran in
    let named_rest = ap (λ (sel : Sel). rested old.code (begun c.args.value sel [] old.state)) sel_is in
    c.send.ensures.rest ∙ ap (standing old) (rest ∙ named_rest)
