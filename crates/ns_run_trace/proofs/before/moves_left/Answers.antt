use Rattle.std.proofs.Common.{◌≡◌, ℕ, ap, sym, subst, ◌∙◌, false}
use Rattle.ns_code.specs.declared.program.CodeProgram.{CodeProgram}
use Rattle.ns_machine.specs.Machine.{MachineView}
use Rattle.ns_moves.specs.Move.{move}
use Rattle.ns_moves.specs.State.{State}
use Rattle.ns_run_trace.specs.Nearing.{HasMoved}
use Rattle.ns_run_trace.proofs.Counting.{moved_one}
use Rattle.ns_run_trace.proofs.before.moves_left.Goals as goal

pub moves-preserved : goal.moves-preserved
moves-preserved c =
    let code = c.args.machine.code in
    let near = c.args.machine.state in
    let now = c.moves.machine.state in
    let next : move code now ≡ c.advance.new.self.state =
    ap (λ (each : CodeProgram). move each now) (sym c.moves.invariant.code) ∙ sym (ap (λ (m : MachineView). m.state) c.advance.ensures) in
    let one = moved_one code near now c.moves.count (c.moves_add.ensures.moves code near) c.moves.invariant.moved (sym c.is_still.ensures.still ∙ c.if-is_still.false) in
    record {
      code = ap (λ (m : MachineView). m.code) c.advance.ensures ∙ c.moves.invariant.code;
      moved = subst (λ (s : State). HasMoved code near c.in-Some.more s) next
          (subst (λ (n : ℕ). HasMoved code near n (move code now)) (sym c.in-Some.ensures.1) one);
    }
