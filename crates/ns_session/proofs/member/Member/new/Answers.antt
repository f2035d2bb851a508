use Rattle.std.proofs.Common.{ap, subst, ◌∙◌}
use Rattle.ns_code.specs.Fits.{Fits}
use Rattle.ns_verify.specs.Verify.{IsSound}
use Rattle.ns_moves.specs.Starts.{started}
use Rattle.ns_machine.specs.Machine.{MachineView}
use Rattle.ns_session.specs.Member.{Application}
use Rattle.ns_session.proofs.Keeping.{kept_start}
use Rattle.ns_session.proofs.member.Member.new.Goals as goal

pub invariant_of-result : goal.invariant_of-result
invariant_of-result c =
    let application : Application = record { code = c.args.code; grants = c.args.grants; limits = c.args.limits } in
    kept_start application c.start.new.self c.ending-ending.result
    (record { sound = subst IsSound c.code-code.ensures.code c.code-code.ensures.sound; fits = subst Fits c.code-code.ensures.code c.code-code.ensures.fits; range = c.requires })
    (c.applications_start_alone.ensures application) (c.applications_stay_in_reach.ensures.start application)
    (c.start.ensures ∙ ap (λ (m : MachineView). record m { state = started m.code m.state }) c.in_ok-machine.ensures)
    c.ending-ending.ensures.ending
