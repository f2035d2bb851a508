-- A test that runs alone: two sends in turn after the opening, and what is told of where they lead.
use Rattle.std.proofs.Common.{◌≡◌, ℕ, List, Result, IfOk, ap, subst, ◌∙◌}
use Rattle.ns_base.specs.declared.limits.Limits.{Limits}
use Rattle.ns_code.specs.declared.program.CodeProgram.{CodeProgram}
use Rattle.ns_machine.specs.Machine.{MachineView}
use Rattle.ns_moves.specs.State.{State}
use Rattle.ns_run_code.specs.Run.{granted}
use Rattle.ns_test.specs.declared.alone.TestResult.{TestResult}
use Rattle.ns_test.specs.Alone.{line_at, part_at, run_alone, verdict_at}

-- a machine that sends a name on
abbrev sending : (CodeProgram → List ℕ → State → State) → List ℕ → MachineView → MachineView
sending on name machine =
    record { code = machine.code; grants = machine.grants; state = on machine.code name machine.state }

-- two names sent on in turn
pub sent_twice : (on : CodeProgram → List ℕ → State → State) (said new name : List ℕ) (start opening first second : MachineView)
    → said ≡ new → opening ≡ start
    → first ≡ record { code = opening.code; grants = opening.grants; state = on opening.code said opening.state }
    → second ≡ record { code = first.code; grants = first.grants; state = on first.code name first.state }
    → second ≡ record { code = start.code; grants = start.grants; state = on start.code name (on start.code new start.state) }
sent_twice on said new name start opening first second says opens once twice =
    let says_new : sending on said opening ≡ sending on new opening = ap (λ (n : List ℕ). sending on n opening) says in
    let sent : first ≡ sending on new start = once ∙ (says_new ∙ ap (sending on new) opens) in
    twice ∙ ap (sending on name) sent

-- ---- what is told

-- a machine in which a test has run alone
abbrev pub alone : CodeProgram → Limits → List ℕ → MachineView
alone code limits name = record { code = code; grants = granted; state = run_alone code limits name }

-- what is told of a test of that name by its machine
abbrev pub told_in : MachineView → List ℕ → TestResult
told_in machine name =
    record {
      verdict = verdict_at machine.state;
      line = line_at machine.code name machine.state;
      part = part_at machine.code name machine.state;
    }

-- what is told by a machine and of a name is told by the same machine and of the same name
pub told_same : {T E : Type 0} (tell : MachineView → List ℕ → T) (stands : List ℕ → MachineView) (result : Result T E)
    (machine : MachineView) (name text : List ℕ) → machine ≡ stands name → name ≡ text → IfOk result (λ told. told ≡ tell machine name)
    → IfOk result (λ told. told ≡ tell (stands text) text)
told_same tell stands result machine name text stood same told =
    let here = subst (λ (m : MachineView). IfOk result (λ told. told ≡ tell m name)) stood told in
    subst (λ (n : List ℕ). IfOk result (λ told. told ≡ tell (stands n) n)) same here
