-- Machines that stand on their run, and are put back to states of it.
use Rattle.std.proofs.Common.{◌≡◌, ◌∙◌, ℕ, ◌+◌, ◌-◌, ◌≤◌, List, [], Option, Some, None, refl, sym, ap, subst, inl, inr, arith}
use Rattle.std.specs.Prelude.{slice_index_or}
use Rattle.slab.specs.Slab.{Slab, get}
use Rattle.ns_code.specs.declared.program.CodeProgram.{CodeProgram}
use Rattle.ns_facets.specs.declared.row.Grants.{Grants}
use Rattle.ns_frozen.specs.Fault.{IsValid}
use Rattle.ns_frozen.specs.Freezing.{frozen_of}
use Rattle.ns_frozen.specs.Laws.{IsTold, ThawsBack, ValidFreezes}
use Rattle.ns_frozen.specs.Thawing.{thawed}
use Rattle.ns_frozen.specs.declared.frozen.Frozen.{Frozen}
use Rattle.ns_machine.specs.Machine.{MachineView}
use Rattle.ns_moves.specs.MovesOnward.{MovesGoOnward}
use Rattle.ns_moves.specs.State.{State, Unbegun, Going, Pends, Ended, Stuck, ending_of, world_of}
use Rattle.ns_moves.specs.StatedMoves.{TurnsAdd}
use Rattle.ns_moves.specs.Turn.{Turns}
use Rattle.ns_moves.specs.Valid.{Valid}
use Rattle.ns_replay.proofs.Keeping.{begin_told, going_told}
use Rattle.ns_replay.specs.At.{at, position_in}
use Rattle.ns_replay.specs.Replay.{CanBegin, IsKept, ReplayView, Replays, StandsFor, gone_to, replay_of, view_of}
use Rattle.ns_replay.specs.declared.kept.Kept.{Kept}
use Rattle.ns_session.specs.RobinLaws.{TurnsAreTurned}

-- ---- plain data

-- A state is told with what the run is granted, and with its limits.
grants_told : (code : CodeProgram) (grants : Grants) (state : State) → (frozen_of code grants state).grants ≡ grants
grants_told code grants (Unbegun arguments progress) = refl
grants_told code grants (Going phase frames progress) = refl
grants_told code grants (Pends phase pending frames progress) = refl
grants_told code grants (Ended ending phase progress) = refl
grants_told code grants (Stuck progress) = refl

limits_told : (code : CodeProgram) (grants : Grants) (state : State) → (frozen_of code grants state).limits ≡ (world_of state).limits
limits_told code grants (Unbegun arguments progress) = refl
limits_told code grants (Going phase frames progress) = refl
limits_told code grants (Pends phase pending frames progress) = refl
limits_told code grants (Ended ending phase progress) = refl
limits_told code grants (Stuck progress) = refl

module _ (code : CodeProgram) (grants : Grants) (frozen : Frozen) (stands : StandsFor code grants frozen) where
  pub valid_data : ValidFreezes code → IsValid code frozen
  valid_data freezes = subst (IsValid code) stands.told (freezes grants (thawed code frozen) stands.valid)

  own_grants : frozen.grants ≡ grants
  own_grants = ap (λ (f : Frozen). f.grants) (sym stands.told) ∙ grants_told code grants (thawed code frozen)

  own_limits : frozen.limits ≡ (world_of (thawed code frozen)).limits
  own_limits = ap (λ (f : Frozen). f.limits) (sym stands.told) ∙ limits_told code grants (thawed code frozen)

-- A machine that is put back has the grants that it had.
pub put_back_is : (machine : MachineView) (frozen : Frozen) → StandsFor machine.code machine.grants frozen
    → record machine { grants = frozen.grants; state = thawed machine.code frozen } ≡ record machine { state = thawed machine.code frozen }
put_back_is machine frozen stands =
    ap (λ (g : Grants). record machine { grants = g; state = thawed machine.code frozen }) (own_grants machine.code machine.grants frozen stands)

-- Plain data of a valid state that is told whole stands for it.
pub stands_for : (code : CodeProgram) (grants : Grants) (state : State) (frozen : Frozen) → ThawsBack code → Valid code grants state → IsTold state
    → frozen ≡ frozen_of code grants state → StandsFor code grants frozen
stands_for code grants state frozen back valid told is =
    let same : thawed code (frozen_of code grants state) ≡ state = back grants state valid told in
    subst (StandsFor code grants) (sym is)
    (record { valid = subst (Valid code grants) (sym same) valid; told = ap (frozen_of code grants) same })

-- ---- limits

turn_limits : (code : CodeProgram) → MovesGoOnward code → (steps : ℕ) (old new : State) → Turns code steps old new → (world_of new).limits ≡ (world_of old).limits
turn_limits code onward steps old new (inl turn) =
    ap (λ (s : State). (world_of s).limits) (sym turn.is) ∙ (onward turn.count old).later.limits
turn_limits code onward steps old new (inr turn) =
    ap (λ (s : State). (world_of s).limits) (sym turn.is) ∙ (onward turn.count old).later.limits

module _ (machine : MachineView) (start : Frozen) (states : Slab Kept) (asked : ℕ) (run : Replays machine start states asked) where
  here_limits : MovesGoOnward machine.code → (world_of machine.state).limits ≡ (world_of (thawed machine.code start)).limits
  here_limits onward = turn_limits machine.code onward asked (thawed machine.code start) machine.state run.here

  -- The start and each kept state have the limits of the machine.
  pub start_limits : MovesGoOnward machine.code → start.limits ≡ (world_of machine.state).limits
  start_limits onward = own_limits machine.code machine.grants start run.stands ∙ sym (here_limits onward)

  pub kept_limits : MovesGoOnward machine.code → (one : Kept) → IsKept machine.code machine.grants (thawed machine.code start) one
      → one.frozen.limits ≡ (world_of machine.state).limits
  kept_limits onward one kept =
      own_limits machine.code machine.grants one.frozen kept.stands
      ∙ (turn_limits machine.code onward one.step (thawed machine.code start) (thawed machine.code one.frozen) kept.here ∙ sym (here_limits onward))

-- ---- where machines stand

-- A machine that was put back to a kept state stands at its step.
pub stands_kept : (old new : MachineView) (start : Frozen) (states : Slab Kept) (asked : ℕ) (one : Kept) → Replays old start states asked
    → IsKept old.code old.grants (thawed old.code start) one → new ≡ record old { state = thawed old.code one.frozen } → Replays new start states one.step
stands_kept old new start states asked one run kept is =
    subst (λ (m : MachineView). Replays m start states one.step) (sym is) (record { stands = run.stands; unused = run.unused; here = kept.here; kept = run.kept })

-- One that was put back to the start, and had a turn of no step, stands at step 0.
pub stands_start : (old mid new : MachineView) (start : Frozen) (states : Slab Kept) (asked : ℕ) → Replays old start states asked
    → mid ≡ record old { state = thawed old.code start } → Turns mid.code 0 mid.state new.state → new ≡ record mid { state = new.state }
    → Replays new start states 0
stands_start old mid new start states asked run back turns is =
    let there = subst (λ (m : MachineView). Turns m.code 0 m.state new.state) back turns in
    let same : new ≡ record old { state = new.state } = is ∙ ap (λ (m : MachineView). record m { state = new.state }) back in
    subst (λ (m : MachineView). Replays m start states 0) (sym same) (record { stands = run.stands; unused = run.unused; here = there; kept = run.kept })

more_steps : (asked step : ℕ) → asked ≤ step → asked + (step - asked) ≡ step
more_steps asked step before = omega (arith, before)

-- One that had a turn of the steps up to a later one stands there.
pub stands_on : (old new : MachineView) (start : Frozen) (states : Slab Kept) (asked step : ℕ) → TurnsAdd old.code → Replays old start states asked → asked ≤ step
    → Turns old.code (step - asked) old.state new.state → new ≡ record old { state = new.state } → Replays new start states step
stands_on old new start states asked step add run before turns is =
    let all = add asked (step - asked) (thawed old.code start) old.state new.state run.here turns in
    let here = subst (λ n. Turns old.code n (thawed old.code start) new.state) (more_steps asked step before) all in
    subst (λ (m : MachineView). Replays m start states step) (sym is) (record { stands = run.stands; unused = run.unused; here = here; kept = run.kept })

-- what is shown of a machine that stands there at a step
abbrev stood_at : MachineView → Frozen → ℕ → State → ReplayView
stood_at machine start step state =
    record { code = machine.code; grants = machine.grants; start = thawed machine.code start; asked = step; state = state }

-- What is shown of it is the replay at that step.
pub shown_at : (old new : MachineView) (start : Frozen) (states : Slab Kept) (asked step : ℕ) → TurnsAreTurned old.code old.grants
    → new ≡ record old { state = new.state } → Replays new start states step → view_of new start step ≡ gone_to (view_of old start asked) step
shown_at old new start states asked step turned is run =
    let there = subst (λ (m : MachineView). Replays m start states step) is run in
    let same : new.state ≡ at old.code (thawed old.code start) step = turned step (thawed old.code start) new.state there.stands.valid there.here in
    ap (λ (m : MachineView). view_of m start step) is ∙ ap (stood_at old start step) same

-- The state in which a machine stands and goes on, as it was frozen, can be kept.
pub kept_here :
    (machine : MachineView) (start frozen : Frozen) (states : Slab Kept) (step : ℕ) → ThawsBack machine.code → Valid machine.code machine.grants machine.state
    → ending_of machine.state ≡ None → Replays machine start states step → frozen ≡ frozen_of machine.code machine.grants machine.state
    → IsKept machine.code machine.grants (thawed machine.code start) (record { step = step; frozen = frozen })
kept_here machine start frozen states step back valid goes run froze =
    let told = going_told machine.code machine.grants machine.state valid goes in
    let same : thawed machine.code frozen ≡ machine.state = ap (thawed machine.code) froze ∙ back machine.grants machine.state valid told in
    record {
      stands = stands_for machine.code machine.grants machine.state frozen back valid told froze;
      here = subst (λ (s : State). Turns machine.code step (thawed machine.code start) s) (sym same) run.here;
    }

-- ---- a new replay

-- What was frozen of a run that can be replayed stands for it.
same_start : (machine : MachineView) (start : Frozen) → ThawsBack machine.code → Valid machine.code machine.grants machine.state → CanBegin machine.state
    → start ≡ frozen_of machine.code machine.grants machine.state → thawed machine.code start ≡ machine.state
same_start machine start back valid begins is =
    ap (thawed machine.code) is ∙ back machine.grants machine.state valid (begin_told machine.code machine.grants machine.state valid begins)

none_kept : (states : Slab Kept) (key : ℕ) (kept : Kept) → states.slots ≡ [] → get states key ≡ Some kept → ⊥
none_kept states key kept empty is =
    let none : None ≡ Some kept = sym (ap (λ (slots : List (Option Kept)). slice_index_or slots key None) empty) ∙ is in absurd (cc (none))

-- A machine whose start was frozen, and which then had a turn of no step, stands at step 0.
pub stands_new : (old new : MachineView) (start : Frozen) (states : Slab Kept) → ThawsBack old.code → Valid old.code old.grants old.state → CanBegin old.state
    → start ≡ frozen_of old.code old.grants old.state → states.slots ≡ [] → Turns old.code 0 old.state new.state → new ≡ record old { state = new.state }
    → Replays new start states 0
stands_new old new start states back valid begins froze empty turns is =
    let same = same_start old start back valid begins froze in
    subst (λ (m : MachineView). Replays m start states 0) (sym is)
    (record {
      stands = stands_for old.code old.grants old.state start back valid (begin_told old.code old.grants old.state valid begins) froze;
      unused = subst (λ (s : State). position_in s ≡ 0) (sym same) begins.unused;
      here = subst (λ (s : State). Turns old.code 0 s new.state) (sym same) turns;
      kept = λ key kept there. absurd (none_kept states key kept empty there);
    })

-- What is shown of it is the replay of its run.
pub shown_new : (old new : MachineView) (start : Frozen) → ThawsBack old.code → TurnsAreTurned old.code old.grants → Valid old.code old.grants old.state → CanBegin old.state
    → start ≡ frozen_of old.code old.grants old.state → Turns old.code 0 old.state new.state → new ≡ record old { state = new.state }
    → view_of new start 0 ≡ replay_of old
shown_new old new start back turned valid begins froze turns is =
    let same = same_start old start back valid begins froze in
    let here : new.state ≡ at old.code old.state 0 = turned 0 old.state new.state valid turns in
    ap (λ (m : MachineView). view_of m start 0) is
    ∙ (ap (λ (s : State). record { code = old.code; grants = old.grants; start = s; asked = 0; state = new.state }) same
    ∙ ap (λ (s : State). record { code = old.code; grants = old.grants; start = old.state; asked = 0; state = s }) here)
