-- A machine before the move that ends its run.
use Rattle.std.proofs.Common.{◌≡◌, ℕ, ◌-◌, ap, subst, ◌∙◌, List}
use Rattle.ns_base.specs.declared.limits.Limits.{Limits}
use Rattle.ns_base.specs.Limits.{InRange}
use Rattle.ns_code.specs.Fits.{Fits}
use Rattle.ns_code.specs.declared.program.CodeProgram.{CodeProgram}
use Rattle.ns_verify.specs.Verify.{IsSound}
use Rattle.ns_machine.specs.Machine.{MachineView}
use Rattle.ns_moves.specs.Beginning.{NewIsValid, StartKeepsValid}
use Rattle.ns_moves.specs.Move.{moves}
use Rattle.ns_moves.specs.Starts.{new_machine}
use Rattle.ns_moves.specs.State.{State, world_of}
use Rattle.ns_run_code.specs.Machine.{begins_with, rested}
use Rattle.ns_run_code.specs.Run.{granted}
use Rattle.ns_run_trace.specs.Before.{before_end}
use Rattle.ns_run_trace.specs.Nearing.{IsNear, MovesAreLeft}
use Rattle.ns_run_trace.proofs.Beginning.{begins_without_steps}
use Rattle.ns_run_trace.proofs.Ending.{Known}
use Rattle.ns_run_trace.proofs.Near.{KnownSteps, left_lead, one_near}

-- a machine of some code that stands there
abbrev pub at_state : CodeProgram → State → MachineView
at_state code state = record { code = code; grants = granted; state = state }

-- Moves of a machine near its end, of which all but one of those that are left to another one were made.
pub record MovedAsLeft (code : CodeProgram) (limits : Limits) (arguments : List (List ℕ)) (used count : ℕ) (near later moved : MachineView)
    : Type 0 where
  pub used_is : used ≡ (world_of (rested code (begins_with code limits arguments))).steps
  pub near_is : near ≡ at_state code near.state
  pub stands_near : IsNear code used (begins_with code limits arguments) near.state
  pub left : MovesAreLeft near.code near.state count
  pub later_is : later ≡ at_state code later.state
  pub stands_later : IsNear code used (begins_with code limits arguments) later.state
  pub moved_is : moved ≡ (let own : MachineView = record later { state = moves later.code (count - 1) later.state } in own)

-- They lead before the move that ends the run.
pub stands_before : (code : CodeProgram) (known : Known code granted) (steps : KnownSteps code) → NewIsValid code granted → StartKeepsValid code granted
    → IsSound code → Fits code → (limits : Limits) (arguments : List (List ℕ)) → InRange limits
    → (used count : ℕ) (near later moved : MachineView) → MovedAsLeft code limits arguments used count near later moved
    → moved ≡ at_state code (before_end code (begins_with code limits arguments))
stands_before code known steps new start sound fits limits arguments range used count near later moved is =
    let first = begins_with code limits arguments in
    let valid = start (new_machine code limits granted arguments) (new limits arguments sound fits range) in
    let near_code : near.code ≡ code = ap (λ (m : MachineView). m.code) is.near_is in
    let later_code : later.code ≡ code = ap (λ (m : MachineView). m.code) is.later_is in
    let left = subst (λ (c : CodeProgram). MovesAreLeft c near.state count) near_code is.left in
    let same : later.state ≡ near.state = one_near code granted known steps used first later.state near.state is.stands_later is.stands_near in
    let there : moves later.code (count - 1) later.state ≡ before_end code first =
    ap (λ (c : CodeProgram). moves c (count - 1) later.state) later_code
    ∙ (ap (moves code (count - 1)) same
    ∙ left_lead code granted known steps used count first near.state valid (begins_without_steps code limits arguments) is.used_is is.stands_near left) in
    is.moved_is
    ∙ (ap (λ (m : MachineView). let own : MachineView = record m { state = moves later.code (count - 1) later.state } in own) is.later_is
    ∙ ap (at_state code) there)
