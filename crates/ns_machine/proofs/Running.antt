-- A turn of one step more than the limit ends the run.
use Rattle.std.proofs.Common.{◌≡◌, ℕ, zero, suc, ◌+◌, ◌≤◌, ◌⊎◌, inl, inr, refl, ap, subst, ◌∙◌, arith, Bool, true, false, ◌||◌, nat_lt, if◌then◌else◌, min}
use Rattle.std.proofs.lemmas.Bool.{ltb-true}
use Rattle.ns_code.specs.declared.program.CodeProgram.{CodeProgram}
use Rattle.ns_facets.specs.declared.row.Grants.{Grants}
use Rattle.ns_moves.specs.Control.{Progress}
use Rattle.ns_moves.specs.State.{State, world_of}
use Rattle.ns_moves.specs.StatedMoves.{StaysStill}
use Rattle.ns_moves.specs.MovesOnward.{MovesGoOnward}
use Rattle.ns_moves.specs.Move.{move, moves}
use Rattle.ns_moves.specs.Turn.{is_still, ends_with_steps, charges, one_if, charged_in, Turned, Turns}
use Rattle.ns_moves.specs.laws.Still.{limited_still, none_charged}
use Rattle.ns_base.specs.declared.limits.Limits.{Limits}
use Rattle.ns_machine_frames.specs.declared.frame.Pending.{Pending}
use Rattle.ns_machine_frames.specs.declared.registers.Registers.{Registers}
use Rattle.ns_machine_frames.specs.declared.frame.Pending.TheVariants as pending
use Rattle.ns_machine_core.specs.declared.state.Core.{Core}
use Rattle.ns_machine_core.specs.declared.state.Next.{Next}
use Rattle.ns_machine_core.specs.declared.state.Next.TheVariants as next
use Rattle.ns_machine_frames.specs.View.{state_shown}
use Rattle.ns_machine_core.specs.Shown.{phase_shown, shown, progress_in}
use Rattle.ns_machine_core.specs.Ready.{MachineIsReady}
use Rattle.ns_machine_core.specs.Standing.{KeepsRooms}
use Rattle.ns_machine_core.specs.laws.Kept.{ready_lawful, shown_progress}
use Rattle.ns_machine.specs.Turning.{Ran}

-- ---- steps that are charged

-- a move that charges takes a step, or finds none left
charge_is : (still less ends : Bool) → (if still then false else (less || ends)) ≡ true → (still ≡ false) × ((less ≡ true) ⊎ (ends ≡ true))
charge_is true less ends is = absurd (cc)
charge_is false true ends is = (refl, inl refl)
charge_is false false ends is = (refl, inr is)

-- the steps of a state, and one more where no step was left
abbrev taken_at : State → ℕ
taken_at s = (world_of s).steps + one_if (ends_with_steps s) 0

spent_more : (code : CodeProgram) → MovesGoOnward code → ((s : State) → StaysStill code s) → (count : ℕ) (s : State)
    → charged_in code count (move code s) + (world_of (move code s)).steps ≤ taken_at (moves code count (move code s))
    → charged_in code (suc count) s + (world_of s).steps ≤ taken_at (moves code count (move code s))
spent_more code onward stay count s rest = by_charge (charges code s) refl
  where
    later : (world_of s).steps ≤ (world_of (move code s)).steps
    later = (onward 1 s).later.steps

    taken : (nat_lt (world_of s).steps (world_of (move code s)).steps ≡ true) ⊎ (ends_with_steps (move code s) ≡ true)
        → suc (charged_in code count (move code s)) + (world_of s).steps ≤ taken_at (moves code count (move code s))
    taken (inl less) = let more = ltb-true (world_of s).steps (world_of (move code s)).steps less in omega (arith, more, rest)
    taken (inr ends) =
        let still = limited_still (move code s) ends in
        let same : moves code count (move code s) ≡ move code s = stay (move code s) count still in
        let none = none_charged code count (move code s) still in
        let one : taken_at (moves code count (move code s)) ≡ (world_of (move code s)).steps + 1 =
        ap taken_at same ∙ ap (λ b. (world_of (move code s)).steps + one_if b 0) ends in
        omega (arith, none, one, later)

    by_charge : (b : Bool) → charges code s ≡ b
        → one_if b (charged_in code count (move code s)) + (world_of s).steps ≤ taken_at (moves code count (move code s))
    by_charge false is = omega (arith, rest, later)
    by_charge true is =
        taken (charge_is (is_still s) (nat_lt (world_of s).steps (world_of (move code s)).steps) (ends_with_steps (move code s)) is).1

-- what moves have charged was taken, but for the step that none was left for
spent : (code : CodeProgram) → MovesGoOnward code → ((s : State) → StaysStill code s) → (count : ℕ) (s : State)
    → charged_in code count s + (world_of s).steps ≤ taken_at (moves code count s)
spent code onward stay zero s = omega arith
spent code onward stay (suc count) s = spent_more code onward stay count s (spent code onward stay count (move code s))

-- a turn after which the run goes on has taken all of its steps
all_taken : (code : CodeProgram) → MovesGoOnward code → ((s : State) → StaysStill code s) → (steps : ℕ) (old new : State) →
    Turned code steps old new
    → steps + (world_of old).steps ≤ (world_of new).steps
all_taken code onward stay steps old new turned =
    let all = spent code onward stay turned.count old in
    let some : steps + (world_of old).steps ≤ (world_of new).steps + one_if (ends_with_steps new) 0 =
    subst (λ (n : ℕ). n + (world_of old).steps ≤ (world_of new).steps + one_if (ends_with_steps new) 0) turned.charged
    (subst (λ (t : State). charged_in code turned.count old + (world_of old).steps ≤ (world_of t).steps + one_if (ends_with_steps t) 0) turned.is all) in
    goes (ends_with_steps new) refl some
  where
    goes : (b : Bool) → ends_with_steps new ≡ b → steps + (world_of old).steps ≤ (world_of new).steps + one_if b 0 → steps + (world_of old).steps ≤ (world_of new).steps
    goes false is some = omega (arith, some)
    goes true is some =
        let still = limited_still new is in
        let moved = (charge_is (is_still new) (nat_lt (world_of new).steps (world_of (move code new)).steps) (ends_with_steps (move code new)) turned.next).0 in
        absurd (cc)

-- ---- machines

-- what a run can't have: it is ready, goes on, and took a step more than the limit
pub must_end : (code : CodeProgram) (grants : Grants) → MovesGoOnward code → ((s : State) → StaysStill code s) →
    (old new : Core) (from n : Next) (steps : ℕ)
    → MachineIsReady code grants old from → MachineIsReady code grants new n → KeepsRooms old new → steps ≡ min (old.run.world.world.limits.steps + 1) 18446744073709551615
    → Turns code steps (shown code old from) (shown code new n) → is_still (shown code new n) ≡ false → ⊥
must_end code grants onward stay old new from n steps before after stays is (inl turned) going =
    let taken = all_taken code onward stay steps (shown code old from) (shown code new n) turned in
    let here : (world_of (shown code new n)).steps ≡ new.run.world.world.steps = ap (λ (p : Progress). p.world.steps) (shown_progress code new n) in
    let lawful = ready_lawful code grants new n after.valid in
    let most : new.run.world.world.steps ≤ new.run.world.world.limits.steps = lawful.within.steps in
    let range : new.run.world.world.limits.steps ≤ 1000000000000 = lawful.within.limits.0.1 in
    let limit : new.run.world.world.limits.steps ≡ old.run.world.world.limits.steps = ap (λ (l : Limits). l.steps) stays.world.limits in
    omega (arith, taken, here, most, range, limit, is)
must_end code grants onward stay old new from n steps before after stays is (inr turned) going = let still = turned.still in absurd (cc)

waits_go : (code : CodeProgram) (core : Core) (p : Pending) (at : Registers)
    → is_still (state_shown code core.places (phase_shown core.phase) p core.arguments.items core.stack at (progress_in core)) ≡ false
waits_go code core pending.Nothing at = refl
waits_go code core (pending.Sending receiver sel site floor) at = refl
waits_go code core (pending.Performing receiver sel array site floor) at = refl
waits_go code core (pending.Evaluating block site floor first) at = refl
waits_go code core (pending.EvaluatingKept block site floor) at = refl

-- the moves of a turn that has led to an end
pub has_ran : (code : CodeProgram) (steps : ℕ) (old : State) (core : Core) → Turns code steps old (shown code core next.Ended)
    → Ran code old core.ending (shown code core next.Ended)
has_ran code steps old core (inl turned) = record { count = turned.count; is = turned.is; ends = refl }
has_ran code steps old core (inr turned) = record { count = turned.count; is = turned.is; ends = refl }

-- a run that goes on is not still
pub goes_on : (code : CodeProgram) (core : Core) (n : Next)
    → ((at : Registers) × n ≡ next.On at) ⊎ ((at : Registers) × n ≡ next.Waits at) → is_still (shown code core n) ≡ false
goes_on code core n (inl on) = ap (λ (k : Next). is_still (shown code core k)) on.1
goes_on code core n (inr waits) = ap (λ (k : Next). is_still (shown code core k)) waits.1 ∙ waits_go code core core.waiting waits.0
