-- Two moves that are made as one, with a step left before them.
use Rattle.std.proofs.Common.{◌≡◌, ℕ, ◌-◌, ◌<◌, ◌≤◌, ap, sym, subst, arith, false}
use Rattle.ns_code.specs.declared.program.CodeProgram.{CodeProgram}
use Rattle.ns_facets.specs.declared.row.Grants.{Grants}
use Rattle.ns_moves.specs.Falling.{run_left, MovesLower}
use Rattle.ns_moves.specs.Charging.{will_charge}
use Rattle.ns_moves.specs.Move.{move}
use Rattle.ns_moves.specs.State.{State, world_of}
use Rattle.ns_moves.specs.Turn.{is_still}
use Rattle.ns_moves.specs.Valid.{Valid}
use Rattle.ns_machine_plan.specs.declared.plan.Plan.{Plan}
use Rattle.ns_machine_core.specs.declared.own.OwnSends.{OwnSends}
use Rattle.ns_machine_core.specs.declared.state.Core.{Core}
use Rattle.ns_machine_core.specs.declared.state.Next.{Next}
use Rattle.ns_machine_core.specs.Own.{AreOwn}
use Rattle.ns_machine_core.specs.Passing.{MovesTwice, PassingKeepsReady}
use Rattle.ns_machine_core.specs.Shown.{shown}
use Rattle.ns_machine_core.specs.laws.Kept.{stays_on}
use Rattle.ns_machine_turns.specs.Prepared.{IsPrepared}
use Rattle.ns_machine_turns.specs.Turning.{steps_left, IsUnderWay, RunsBy, IsTurning, GoesAlong, HasGone}
use Rattle.ns_machine_turns.proofs.Turned.{Known, moves_on, counted, left_is, since_begun, not_both}

-- what is known of two moves
pub record KnownPassing (code : CodeProgram) : Type 0 where
  pub known : Known code
  pub keeps : (grants : Grants) → PassingKeepsReady code grants
  pub lower : (grants : Grants) → MovesLower code grants

module _ (code : CodeProgram) (all : KnownPassing code) (plan : Plan) (sends : OwnSends) (left : ℕ) (old now new : Core) (from here next : Next)
    (goes : is_still (shown code old from) ≡ false) (on : is_still (shown code now here) ≡ false)
    (few : now.run.world.world.steps - old.run.world.world.steps < left) (passed : MovesTwice code now here new next) where
  -- the state between them
  abbrev between : State
  between = move code (shown code now here)

  runs_past : RunsBy code plan sends now here → RunsBy code plan sends new next
  runs_past runs = record {
    prepared = subst (IsPrepared code plan) (sym passed.stays.places) runs.prepared;
    own = subst (λ places. AreOwn code places sends) (sym passed.stays.places) runs.own;
    can = record { grants = runs.can.grants; ready = all.keeps runs.can.grants now new here next runs.can.ready passed };
  }

  module _ (grants : Grants) (valid : Valid code grants (shown code now here)) where
    valid_between : Valid code grants between
    valid_between = all.known.keeps grants 1 (shown code now here) valid

    falls_past : run_left code (shown code new next) < run_left code (shown code now here)
    falls_past =
        let first = all.lower grants (shown code now here) valid on in
        let second = subst (λ (s : State). run_left code s < run_left code between) (sym passed.state)
        (all.lower grants between valid_between passed.goes) in
        omega (arith, first, second)

    under_past : (steps : ℕ) (first : State) → 1 ≤ steps_left steps first (shown code now here) → IsUnderWay code steps first (shown code now here)
        → IsUnderWay code steps first (shown code new next)
    under_past steps first some under =
        subst (IsUnderWay code steps first) (sym passed.state)
        (moves_on code all.known steps grants first between valid_between passed.goes (λ told. not_both (will_charge code between) told passed.free)
        (moves_on code all.known steps grants first (shown code now here) valid on (λ told. some) under))

  -- with the steps that were left
  some_left : (steps : ℕ) (first : Core) (began : Next) → left ≤ steps_left steps (shown code first began) (shown code old from)
      → IsTurning code steps first began old from → 1 ≤ steps_left steps (shown code first began) (shown code now here)
  some_left steps first began e turning =
      let since = since_begun code steps first old began from goes turning.under in
      let a = left_is code steps first old began from in
      let b = left_is code steps first now began here in
      omega (arith, e, since, a, b, few)

  onward_past : now.run.world.world.steps ≤ new.run.world.world.steps
  onward_past =
      let more = (all.known.onward 2 (shown code now here)).later.steps in
      let is = ap (λ (s : State). (world_of s).steps) passed.state in
      let a = counted code now here in
      let b = counted code new next in
      omega (arith, more, is, a, b)

  pub gone_past : GoesAlong code plan sends left old from now here → HasGone code plan sends left old from new next
  gone_past along = record {
    along = record {
      runs = runs_past along.runs;
      turning = λ steps first began e turning.
          let here_turning = along.turning steps first began e turning in
          record {
            ready = λ grants ready. all.keeps grants now new here next (here_turning.ready grants ready) passed;
            stays = stays_on first now new here_turning.stays passed.stays;
            under = under_past along.runs.can.grants along.runs.can.ready.valid steps (shown code first began) (some_left steps first began e turning)
                here_turning.under;
          };
      onward = let a = along.onward in let b = onward_past in omega (arith, a, b);
      lower = let a = along.lower in let b = falls_past along.runs.can.grants along.runs.can.ready.valid in omega (arith, a, b);
    };
    falls = let a = along.lower in let b = falls_past along.runs.can.grants along.runs.can.ready.valid in omega (arith, a, b);
  }
