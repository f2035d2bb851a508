use Rattle.std.proofs.Common.{ℕ, ap, subst, ◌∙◌}
use Rattle.ns_code.specs.Fits.{Fits}
use Rattle.ns_code.specs.declared.program.CodeProgram.{CodeProgram}
use Rattle.ns_verify.specs.Verify.{IsSound}
use Rattle.ns_machine.specs.Machine.{MachineView}
use Rattle.ns_moves.specs.Move.{moves}
use Rattle.ns_run_code.specs.Run.{granted}
use Rattle.ns_run_trace.proofs.Standing.{stands_before}
use Rattle.ns_run_trace.proofs.before.machine_before.Goals as goal

pub returns : goal.returns
returns c =
    let code = c.args.code.now in
    let machine = c.in_ok-machine.machine in
    stands_before code
    (record {
      add = c.moves_add.ensures.moves code;
      stay = c.ended_runs_stay.ensures code;
      keeps = c.moves_keep_valid.ensures code granted;
      rests = c.valid_runs_come_to_rest.ensures.rests code granted;
      keep_rest = c.valid_runs_come_to_rest.ensures.moves code granted;
      still_rests = c.valid_runs_come_to_rest.ensures.still code granted;
      below = c.left_is_below_a_power.ensures code granted;
    })
    (record {
      took = c.moves_charge_as_told.ensures.steps code;
      test = c.moves_charge_as_told.ensures.test code;
      leave_one = c.turns_add.ensures.one code;
    })
    (c.new_machines_are_valid.ensures code granted) (c.opening_sends_are_valid.ensures.first code granted)
    (subst (λ (each : CodeProgram). IsSound each) c.code-admitted.ensures.code c.code-admitted.ensures.sound)
    (subst (λ (each : CodeProgram). Fits each) c.code-admitted.ensures.code c.code-admitted.ensures.fits)
    c.args.limits c.args.arguments.now c.requires.range c.args.steps c.in_ok-count.count c.in_ok-near.near machine c.moved.result
    (record {
      used_is = c.requires.steps;
      near_is = c.in_ok-near.ensures.machine;
      stands_near = c.in_ok-near.ensures.near;
      left = c.in_ok-count.ensures;
      later_is = c.in_ok-machine.ensures.machine;
      stands_later = c.in_ok-machine.ensures.near;
      moved_is = c.moved.ensures ∙ ap (λ (n : ℕ). let own : MachineView = record machine { state = moves machine.code n machine.state } in own)
          c.saturating_sub.ensures;
    })
