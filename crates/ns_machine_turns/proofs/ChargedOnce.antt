-- How many steps moves charge.
use Rattle.std.proofs.Common.{◌≡◌, ◌+◌, ◌≤◌, inl, inr, ap, subst, arith, Bool, true, false}
use Rattle.ns_code.specs.declared.program.CodeProgram.{CodeProgram}
use Rattle.ns_facets.specs.declared.row.Grants.{Grants}
use Rattle.ns_moves.specs.State.{State, progress_of, world_of}
use Rattle.ns_moves.specs.Control.{Progress}
use Rattle.ns_moves.specs.Move.{move}
use Rattle.ns_moves.specs.Turn.{is_still}
use Rattle.ns_moves.specs.Charging.{will_charge}
use Rattle.ns_moves.specs.Charges.{MoveTook, TakesAsTold}
use Rattle.ns_moves.specs.Standing.{MovesKeepValid}
use Rattle.ns_moves.specs.Valid.{Valid}
use Rattle.ns_moves.specs.laws.Still.{can_move}
use Rattle.ns_machine_plan.specs.declared.plan.Plan.{Plan}
use Rattle.ns_machine_core.specs.declared.own.OwnSends.{OwnSends}
use Rattle.ns_machine_core.specs.declared.state.Core.{Core}
use Rattle.ns_machine_core.specs.declared.state.Next.{Next}
use Rattle.ns_machine_core.specs.Passing.{MovesTwice}
use Rattle.ns_machine_core.specs.Ready.{MakesMove}
use Rattle.ns_machine_core.specs.Shown.{shown}
use Rattle.ns_machine_turns.specs.Turning.{ChargesAtMost, RunsBy}
use Rattle.ns_machine_turns.proofs.Turned.{counted}

module _ (code : CodeProgram) (took : TakesAsTold code) (keeps : (grants : Grants) → MovesKeepValid code grants) where
  -- a move of a state that is reached charges one step at most,
  state_charges : (grants : Grants) (now : State) → Valid code grants now → is_still now ≡ false
      → (world_of (move code now)).steps ≤ (world_of now).steps + 1
  state_charges grants now valid goes = by_told (will_charge code now) (took now goes (can_move code grants (keeps grants) now valid))
    where
      by_told : (b : Bool) → MoveTook b (progress_of now) (move code now) → (world_of (move code now)).steps ≤ (world_of now).steps + 1
      by_told true (inl one) = omega (arith, one)
      by_told true (inr none) = let same = ap (λ (p : Progress). p.world.steps) none.same in omega (arith, same)
      by_told false none = let same = none.steps in omega (arith, same)

  -- and none where it is told to be free.
  state_free : (grants : Grants) (now : State) → Valid code grants now → is_still now ≡ false → will_charge code now ≡ false
      → (world_of (move code now)).steps ≡ (world_of now).steps
  state_free grants now valid goes free =
      (subst (λ (b : Bool). MoveTook b (progress_of now) (move code now)) free (took now goes (can_move code grants (keeps grants) now valid))).steps

  module _ (plan : Plan) (sends : OwnSends) (old new : Core) (from next : Next) (runs : RunsBy code plan sends old from)
      (goes : is_still (shown code old from) ≡ false) where
    first_charges : (world_of (move code (shown code old from))).steps ≤ (world_of (shown code old from)).steps + 1
    first_charges = state_charges runs.can.grants (shown code old from) runs.can.ready.valid goes

    -- So it is with a move of the machine,
    pub move_charges : MakesMove code old from new next → ChargesAtMost 1 old new
    move_charges moved =
        let one = first_charges in
        let is = ap (λ (s : State). (world_of s).steps) moved.state in
        let a = counted code old from in
        let b = counted code new next in
        omega (arith, one, is, a, b)

    -- and with two that are made as one.
    pub passing_charges : MovesTwice code old from new next → ChargesAtMost 1 old new
    passing_charges passed =
        let between = move code (shown code old from) in
        let valid : Valid code runs.can.grants between = keeps runs.can.grants 1 (shown code old from) runs.can.ready.valid in
        let one = first_charges in
        let none = state_free runs.can.grants between valid passed.goes passed.free in
        let is = ap (λ (s : State). (world_of s).steps) passed.state in
        let a = counted code old from in
        let b = counted code new next in
        omega (arith, one, none, is, a, b)
