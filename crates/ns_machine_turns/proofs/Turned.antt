-- A turn, move by move of a machine.
use Rattle.std.proofs.Common.{◌≡◌, ◌⊎◌, inl, inr, ℕ, suc, ◌-◌, ◌<◌, ◌≤◌, refl, ap, sym, ◌∙◌, subst, arith, Bool, true, false}
use Rattle.ns_code.specs.declared.program.CodeProgram.{CodeProgram}
use Rattle.ns_facets.specs.declared.row.Grants.{Grants}
use Rattle.ns_moves.specs.State.{State, progress_of, world_of}
use Rattle.ns_moves.specs.Move.{move}
use Rattle.ns_moves.specs.Turn.{is_still, Turns}
use Rattle.ns_moves.specs.Charging.{will_charge}
use Rattle.ns_moves.specs.Charges.{CanMove, MoveTook, TakesAsTold, ChargesAsTold}
use Rattle.ns_moves.specs.MovesOnward.{MovesGoOnward}
use Rattle.ns_moves.specs.Standing.{MovesKeepValid}
use Rattle.ns_moves.specs.Valid.{Valid}
use Rattle.ns_moves.specs.laws.Still.{can_move, limited_still}
use Rattle.ns_moves.specs.Control.{Progress}
use Rattle.ns_machine_plan.specs.declared.plan.Plan.{Plan}
use Rattle.ns_machine_core.specs.declared.own.OwnSends.{OwnSends}
use Rattle.ns_machine_core.specs.declared.state.Core.{Core}
use Rattle.ns_machine_core.specs.declared.state.Next.{Next}
use Rattle.ns_machine_core.specs.Own.{AreOwn}
use Rattle.ns_machine_core.specs.Shown.{shown}
use Rattle.ns_machine_core.specs.Ready.{MakesMove, MovesKeepReady}
use Rattle.ns_machine_core.specs.Turning.{EndsTheWhole, TurnsBegin, FreeMovesGoOn, ChargedMovesGoOn, TurnsEnd, TurnsRest}
use Rattle.ns_machine_core.specs.laws.Kept.{shown_progress, stays_on}
use Rattle.ns_machine_turns.specs.Prepared.{IsPrepared, IsPreparedToRun}
use Rattle.ns_machine_turns.specs.Turning.{steps_left, EndsTheTurn, IsUnderWay, RunsBy, IsTurning}

-- ---- states

-- what is known of turns and moves
pub record Known (code : CodeProgram) : Type 0 where
  pub begin : TurnsBegin code
  pub free : FreeMovesGoOn code
  pub charged : ChargedMovesGoOn code
  pub last : TurnsEnd code
  pub rest : TurnsRest code
  pub took : TakesAsTold code
  pub test : ChargesAsTold code
  pub keeps : (grants : Grants) → MovesKeepValid code grants
  pub onward : MovesGoOnward code

module _ (code : CodeProgram) (known : Known code) (steps : ℕ) where
  pub begins : (first : State) → IsUnderWay code steps first first
  begins first =
      let all : steps ≡ steps_left steps first first = omega arith in
      inr (record { since = omega arith; within = subst (λ n. EndsTheWhole code steps first n first) all (known.begin steps first) })

  module _ (grants : Grants) (first now : State) (valid : Valid code grants now) (goes : is_still now ≡ false) where
    can : CanMove code now
    can = can_move code grants (known.keeps grants) now valid

    within_on : (b : Bool) → will_charge code now ≡ b → MoveTook b (progress_of now) (move code now) → (b ≡ true → 1 ≤ steps_left steps first now)
        → EndsTheTurn code steps first now → IsUnderWay code steps first (move code now)
    within_on true told (inl one) some on =
        let since = on.since in
        let left = some refl in
        let e : steps_left steps first now ≡ suc (steps_left steps first (move code now)) = omega (arith, one, since, left) in
        inr (record {
          since = omega (arith, one, since);
          within = known.charged steps (steps_left steps first (move code now)) first now
              (subst (λ n. EndsTheWhole code steps first n now) e on.within) (known.test now can ∙ told);
        })
    within_on true told (inr none) some on =
        let left = some refl in
        let e : steps_left steps first now ≡ suc (steps_left steps first now - 1) = omega (arith, left) in
        let still = limited_still (move code now) none.ended in
        inl (record {
          still = still;
          turns = known.rest steps (steps_left steps first now - 1) first (move code now)
              (known.charged steps (steps_left steps first now - 1) first now (subst (λ n. EndsTheWhole code steps first n now) e on.within)
              (known.test now can ∙ told)) still;
        })
    within_on false told took some on =
        let since = on.since in
        let same = took.steps in
        let e : steps_left steps first now ≡ steps_left steps first (move code now) = ap (λ n. steps - (n - (world_of first).steps)) (sym same) in
        inr (record {
          since = omega (arith, same, since);
          within = subst (λ n. EndsTheWhole code steps first n (move code now)) e
              (known.free steps (steps_left steps first now) first now on.within (known.test now can ∙ told));
        })

    pub moves_on : (will_charge code now ≡ true → 1 ≤ steps_left steps first now) → IsUnderWay code steps first now
        → IsUnderWay code steps first (move code now)
    moves_on some (inl over) = absurd (still_goes (is_still now) over.still goes)
      where
        still_goes : (b : Bool) → b ≡ true → b ≡ false → ⊥
        still_goes true e f = absurd (cc)
        still_goes false e f = absurd (cc)
    moves_on some (inr on) = within_on (will_charge code now) refl (known.took now goes can) some on

    pub ends_here : will_charge code now ≡ true → steps_left steps first now ≡ 0 → IsUnderWay code steps first now → Turns code steps first now
    ends_here told none (inl over) = over.turns
    ends_here told none (inr on) = known.last steps first now (subst (λ n. EndsTheWhole code steps first n now) none on.within) (known.test now can ∙ told)

  pub rests_here : (first now : State) → is_still now ≡ true → IsUnderWay code steps first now → Turns code steps first now
  rests_here first now still (inl over) = over.turns
  rests_here first now still (inr on) = known.rest steps (steps_left steps first now) first now on.within still

-- ---- the machine

pub runs_on : (code : CodeProgram) (plan : Plan) (sends : OwnSends) (old new : Core) (from next : Next) →
    ((grants : Grants) → MovesKeepReady code grants)
    → RunsBy code plan sends old from → MakesMove code old from new next → RunsBy code plan sends new next
runs_on code plan sends old new from next keeps runs moved = record {
  prepared = subst (IsPrepared code plan) (sym moved.stays.places) runs.prepared;
  own = subst (λ places. AreOwn code places sends) (sym moved.stays.places) runs.own;
  can = record { grants = runs.can.grants; ready = keeps runs.can.grants old new from next runs.can.ready moved };
}

pub turning_begins : (code : CodeProgram) → Known code → (steps : ℕ) (core : Core) (next : Next) → IsTurning code steps core next core next
turning_begins code known steps core next = record {
  ready = λ grants ready. ready;
  stays = record { world = record { limits = refl; room = (refl, refl) }; values = refl; frames = refl; places = refl; arguments = refl };
  under = begins code known steps (shown code core next);
}

pub turning_on : (code : CodeProgram) → Known code → ((grants : Grants) → MovesKeepReady code grants) → (steps : ℕ) (first old new : Core)
    (began from next : Next) → IsPreparedToRun code old from → is_still (shown code old from) ≡ false
    → (will_charge code (shown code old from) ≡ true → 1 ≤ steps_left steps (shown code first began) (shown code old from))
    → IsTurning code steps first began old from → MakesMove code old from new next → IsTurning code steps first began new next
turning_on code known keeps steps first old new began from next can goes some turning moved = record {
  ready = λ grants ready. keeps grants old new from next (turning.ready grants ready) moved;
  stays = stays_on first old new turning.stays moved.stays;
  under = subst (IsUnderWay code steps (shown code first began)) (sym moved.state)
      (moves_on code known steps can.grants (shown code first began) (shown code old from) can.ready.valid goes some turning.under);
}

-- ---- steps that are left

-- a run that is still doesn't go on
pub not_both : {A : Type 0} (b : Bool) → b ≡ true → b ≡ false → A
not_both {A = A} true e f = absurd (cc)
not_both {A = A} false e f = absurd (cc)

-- the steps of what a machine shows are those that its world counts
pub counted : (code : CodeProgram) (core : Core) (next : Next) → (world_of (shown code core next)).steps ≡ core.run.world.world.steps
counted code core next = ap (λ (p : Progress). p.world.steps) (shown_progress code core next)

module _ (code : CodeProgram) (steps : ℕ) (first now : Core) (from next : Next) where
  pub since_begun : is_still (shown code now next) ≡ false → IsUnderWay code steps (shown code first from) (shown code now next)
      → first.run.world.world.steps ≤ now.run.world.world.steps
  since_begun goes (inl over) = not_both (is_still (shown code now next)) over.still goes
  since_begun goes (inr on) =
      let since = on.since in let a = counted code first from in let b = counted code now next in omega (arith, since, a, b)

  pub left_is : steps_left steps (shown code first from) (shown code now next) ≡ steps - (now.run.world.world.steps - first.run.world.world.steps)
  left_is =
      ap (λ n. steps - (n - (world_of (shown code first from)).steps)) (counted code now next)
      ∙ ap (λ n. steps - (now.run.world.world.steps - n)) (counted code first from)

  pub some_left : now.run.world.world.steps - first.run.world.world.steps < steps → 1 ≤ steps_left steps (shown code first from) (shown code now next)
  some_left few = let e = left_is in omega (arith, e, few)

  pub none_left : steps ≤ now.run.world.world.steps - first.run.world.world.steps → steps_left steps (shown code first from) (shown code now next) ≡ 0
  none_left all = let e = left_is in omega (arith, e, all)

-- what is spent stays so
pub spent_on : (code : CodeProgram) → Known code → (steps : ℕ) (first : State) (old new : Core) (from next : Next) →
    MakesMove code old from new next
    → is_still (shown code old from) ≡ false
    → (is_still (shown code old from) ≡ true) ⊎ (steps_left steps first (shown code old from) ≡ 0)
    → (is_still (shown code new next) ≡ true) ⊎ (steps_left steps first (shown code new next) ≡ 0)
spent_on code known steps first old new from next moved goes (inl still) = not_both (is_still (shown code old from)) still goes
spent_on code known steps first old new from next moved goes (inr none) =
    let on = (known.onward 1 (shown code old from)).later.steps in
    let is = ap (λ s. (world_of s).steps) moved.state in
    inr (omega (arith, none, on, is))

pub spent_goes : (steps : ℕ) (first now : State) → is_still now ≡ false → (is_still now ≡ true) ⊎ (steps_left steps first now ≡ 0) →
    steps_left steps first now ≡ 0
spent_goes steps first now goes (inl still) = not_both (is_still now) still goes
spent_goes steps first now goes (inr none) = none
