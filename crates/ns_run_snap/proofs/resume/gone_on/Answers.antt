use Rattle.std.proofs.Common.{◌≡◌, ◌∙◌, ap}
use Rattle.ns_machine.specs.Machine.{MachineView}
use Rattle.ns_moves.specs.Starts.{started}
use Rattle.ns_run_code.specs.Machine.{rested, told_at}
use Rattle.ns_run_snap.proofs.resume.gone_on.Goals as goal

pub finished-requires : goal.finished-requires
finished-requires c = (c.run.result, c.run.ensures.ran.ends)

pub returns : goal.returns
returns c =
    let machine = c.args.machine in
    let new = c.run.new.self.state in
    let begun = started machine.code machine.state in
    let valid = c.opening_sends_are_valid.ensures.first machine.code machine.grants machine.state c.idle-idle.ensures.valid in
    let rest : new ≡ rested machine.code begun = c.runs_end_at_rest.ensures.valid machine.code machine.grants begun new c.run.result valid c.run.ensures.ran in
    c.in_ok-ran.ensures ∙ (ap (λ (m : MachineView). told_at m.code m.state) c.run.ensures.rest ∙ ap (told_at machine.code) rest)
