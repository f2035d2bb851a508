-- Moves of a machine one after another, with steps left.
use Rattle.std.proofs.Common.{◌≡◌, ℕ, ◌-◌, ◌<◌, ◌≤◌, List, [], ◌∷◌, refl, ap, sym, subst, arith, true, false}
use Rattle.std.proofs.lemmas.Bool.{eqb-true}
use Rattle.ns_code.specs.declared.program.CodeProgram.{CodeProgram}
use Rattle.ns_facets.specs.declared.row.Grants.{Grants}
use Rattle.ns_moves.specs.Falling.{run_left, MovesLower}
use Rattle.ns_moves.specs.State.{State, world_of}
use Rattle.ns_moves.specs.Turn.{is_still}
use Rattle.ns_machine_plan.specs.declared.plan.Plan.{Plan}
use Rattle.ns_machine_frames.specs.declared.frame.Frame.{Frame}
use Rattle.ns_machine_frames.specs.declared.frame.Frame.TheVariants.{Running, Looping}
use Rattle.ns_machine_frames.specs.declared.frame.Pending.{Pending}
use Rattle.ns_machine_frames.specs.declared.frame.Pending.TheVariants as pending
use Rattle.ns_machine_frames.specs.declared.registers.Registers.{Registers}
use Rattle.ns_machine_frames.specs.View.{state_shown}
use Rattle.ns_machine_core.specs.declared.own.OwnSends.{OwnSends}
use Rattle.ns_machine_core.specs.declared.state.Core.{Core}
use Rattle.ns_machine_core.specs.declared.state.Next.{Next}
use Rattle.ns_machine_core.specs.declared.state.Next.TheVariants.{On, Waits, Ended}
use Rattle.ns_machine_core.specs.Shown.{phase_shown, progress_in, shown}
use Rattle.ns_machine_core.specs.Ready.{MakesMove, MovesKeepReady}
use Rattle.ns_machine_core.specs.Straight.{TopRunsBody}
use Rattle.ns_machine_turns.specs.Turning.{steps_left, ChargesAtMost, RunsBy, IsTurning, GoesAlong, HasGone, HasGoneOnce, MovesGoAlong, MovesChargeOne}
use Rattle.ns_machine_turns.specs.declared.way.Way.{Way}
use Rattle.ns_machine_turns.specs.declared.way.Way.TheVariants as way
use Rattle.ns_machine_turns.specs.Ways.{HasLed, is_on_top, way_of}
use Rattle.ns_machine_turns.proofs.Turned.{Known, runs_on, turning_on, counted, left_is, since_begun}

-- what is known of moves of a machine
pub record KnownMoves (code : CodeProgram) : Type 0 where
  pub known : Known code
  pub keeps : (grants : Grants) → MovesKeepReady code grants
  pub lower : (grants : Grants) → MovesLower code grants

-- a move takes no step back
pub since_on : (code : CodeProgram) → Known code → (old new : Core) (from next : Next) → MakesMove code old from new next
    → old.run.world.world.steps ≤ new.run.world.world.steps
since_on code known old new from next moved =
    let on = (known.onward 1 (shown code old from)).later.steps in
    let is = ap (λ (s : State). (world_of s).steps) moved.state in
    let a = counted code old from in
    let b = counted code new next in
    omega (arith, on, is, a, b)

pub none_gone : (code : CodeProgram) (plan : Plan) (sends : OwnSends) (left : ℕ) (old : Core) (from : Next) →
    RunsBy code plan sends old from
    → GoesAlong code plan sends left old from old from
none_gone code plan sends left old from runs =
    record { runs = runs; turning = λ steps first began e turning. turning; onward = omega arith; lower = omega arith }

module _ (code : CodeProgram) (all : KnownMoves code) (plan : Plan) (sends : OwnSends) (left : ℕ) (old : Core) (from : Next) where
  module _ (goes : is_still (shown code old from) ≡ false) (now new : Core) (here next : Next) (on : is_still (shown code now here) ≡ false)
      (few : now.run.world.world.steps - old.run.world.world.steps < left) (moved : MakesMove code now here new next) where
    some_left : (steps : ℕ) (first : Core) (began : Next) → left ≤ steps_left steps (shown code first began) (shown code old from)
        → IsTurning code steps first began old from → 1 ≤ steps_left steps (shown code first began) (shown code now here)
    some_left steps first began e turning =
        let since = since_begun code steps first old began from goes turning.under in
        let a = left_is code steps first old began from in
        let b = left_is code steps first now began here in
        omega (arith, e, since, a, b, few)

    falls_on : GoesAlong code plan sends left old from now here → run_left code (shown code new next) < run_left code (shown code old from)
    falls_on along =
        let a = subst (λ (s : State). run_left code s < run_left code (shown code now here)) (sym moved.state)
        (all.lower along.runs.can.grants (shown code now here) along.runs.can.ready.valid on) in
        let b = along.lower in
        omega (arith, a, b)

    pub gone_on : GoesAlong code plan sends left old from now here → HasGone code plan sends left old from new next
    gone_on along = record {
      along = record {
        runs = runs_on code plan sends now new here next all.keeps along.runs moved;
        turning = λ steps first began e turning.
            turning_on code all.known all.keeps steps first now new began here next along.runs.can on
            (λ told. some_left steps first began e turning) (along.turning steps first began e turning) moved;
        onward = let a = along.onward in let b = since_on code all.known now new here next moved in omega (arith, a, b);
        lower = let a = falls_on along in omega (arith, a);
      };
      falls = falls_on along;
    }

-- Moves that led on with no more steps than were left then, of those with which others had led there, have led on from where those began.
module _ (code : CodeProgram) (plan : Plan) (sends : OwnSends) (left some : ℕ) (old now new : Core) (from here next : Next)
    (few : some ≤ left - (now.run.world.world.steps - old.run.world.world.steps)) where
  left_there : GoesAlong code plan sends left old from now here → is_still (shown code old from) ≡ false → (steps : ℕ) (first : Core) (began : Next)
      → left ≤ steps_left steps (shown code first began) (shown code old from) → IsTurning code steps first began old from
      → some ≤ steps_left steps (shown code first began) (shown code now here)
  left_there along goes steps first began e turning =
      let since = since_begun code steps first old began from goes turning.under in
      let a = left_is code steps first old began from in
      let b = left_is code steps first now began here in
      let on = along.onward in
      omega (arith, e, since, a, b, on, few)

  pub gone_far : GoesAlong code plan sends left old from now here → is_still (shown code old from) ≡ false
      → HasGone code plan sends some now here new next → HasGone code plan sends left old from new next
  gone_far along goes gone = record {
    along = record {
      runs = gone.along.runs;
      turning = λ steps first began e turning.
          gone.along.turning steps first began (left_there along goes steps first began e turning) (along.turning steps first began e turning);
      onward = let a = along.onward in let b = gone.along.onward in omega (arith, a, b);
      lower = let a = along.lower in let b = gone.along.lower in omega (arith, a, b);
    };
    falls = let a = along.lower in let b = gone.falls in omega (arith, a, b);
  }

-- A move from where a run stands, with a step left, leads on and charges one step at most.
pub once_gone : (code : CodeProgram) → MovesGoAlong code → MovesChargeOne code → (plan : Plan) (sends : OwnSends) (left : ℕ) (old new : Core)
    (from next : Next) → RunsBy code plan sends old from → is_still (shown code old from) ≡ false → 1 ≤ left → MakesMove code old from new next
    → HasGoneOnce code plan sends left old from new next
once_gone code law one plan sends left old new from next runs goes some moved = (
  law plan sends left old old new from from next (none_gone code plan sends left old from runs) goes goes (omega (arith, some)) moved,
  one plan sends old new from next runs goes moved,
)

-- With so many steps left, a move of a body that runs leads on,
pub body_gone : (code : CodeProgram) → MovesGoAlong code →
    (plan : Plan) (sends : OwnSends) (left some : ℕ) (old now new : Core) (at here : Registers) (next : Next)
    → 1 ≤ some → some ≤ left - (now.run.world.world.steps - old.run.world.world.steps) → GoesAlong code plan sends left old (On at) now (On here)
    → MakesMove code now (On here) new next → HasGone code plan sends left old (On at) new next
body_gone code law plan sends left some old now new at here next one e along moved =
    law plan sends left old now new (On at) (On here) next along refl refl (omega (arith, one, e)) moved

-- and leaves less to be done.
pub body_falls : (code : CodeProgram) → MovesGoAlong code →
    (plan : Plan) (sends : OwnSends) (now new : Core) (here : Registers) (next : Next)
    → RunsBy code plan sends now (On here) → MakesMove code now (On here) new next → run_left code (shown code new next) < run_left code (shown code now (On here))
body_falls code law plan sends now new here next runs moved =
    (body_gone code law plan sends 1 1 now now new here here next (omega arith) (omega arith) (none_gone code plan sends 1 now (On here) runs) moved).falls

-- A run in which something waits goes on.
pub waits_goes : (code : CodeProgram) (core : Core) (at : Registers) → is_still (shown code core (Waits at)) ≡ false
waits_goes code core at = by_pending core.waiting
  where
    by_pending : (p : Pending) → is_still (state_shown code core.places (phase_shown core.phase) p core.arguments.items core.stack at (progress_in core)) ≡ false
    by_pending pending.Nothing = refl
    by_pending (pending.Sending receiver sel site floor) = refl
    by_pending (pending.Performing receiver sel array site floor) = refl
    by_pending (pending.Evaluating block site floor first) = refl
    by_pending (pending.EvaluatingKept block site floor) = refl

-- Where moves have led that charged no more than two of the steps that were left, so many but two are left.
pub way_led : (code : CodeProgram) (plan : Plan) (sends : OwnSends) (left rest : ℕ) (old now new : Core) (from next : Next)
    → rest ≤ left - (now.run.world.world.steps - old.run.world.world.steps) → old.run.world.world.steps ≤ now.run.world.world.steps
    → ChargesAtMost 2 now new → HasGone code plan sends left old from new next → HasLed code plan sends left old from new (way_of next rest)
way_led code plan sends left rest old now new from (On at) some on few gone = record { gone = gone; few = omega (arith, some, on, few) }
way_led code plan sends left rest old now new from (Waits at) some on few gone = record { gone = gone; few = tt }
way_led code plan sends left rest old now new from Ended some on few gone = record { gone = gone; few = tt }

-- So many are left where moves have led that charged no more than two, from a machine where others had led.
pub turned_led : (code : CodeProgram) (plan : Plan) (sends : OwnSends) (left rest : ℕ) (old now mid new : Core) (from here next : Next) (to : Way)
    → GoesAlong code plan sends left old from now here → is_still (shown code old from) ≡ false → mid ≡ now
    → rest ≤ left - (now.run.world.world.steps - old.run.world.world.steps) → ChargesAtMost 2 mid new → HasGone code plan sends rest mid here new next
    → way_of next rest ≡ to → HasLed code plan sends left old from new to
turned_led code plan sends left rest old now mid new from here next to along goes same some few gone is =
    subst (λ (way : Way). HasLed code plan sends left old from new way) is
    (way_led code plan sends left rest old now new from next some along.onward (subst (λ (core : Core). ChargesAtMost 2 core new) same few)
    (gone_far code plan sends left rest old now new from here next some along goes
    (subst (λ (core : Core). HasGone code plan sends rest core here new next) same gone)))

-- Where the topmost frame is told to be one of that body, it is.
pub on_top : (body : ℕ) (frames : List Frame) → is_on_top body frames ≡ true → TopRunsBody body frames
on_top body [] is = absurd (cc)
on_top body (Running frame ∷ frames) is = eqb-true frame.activation.body body is
on_top body (Looping frame ∷ frames) is = absurd (cc)

-- Where they have led on, less is left to be done.
pub turned_falls : (code : CodeProgram) (now mid new : Core) (here next : Next) (rest sure : ℕ) (to : Registers) → mid ≡ now → way_of next rest ≡ way.On to sure
    → run_left code (shown code new next) < run_left code (shown code mid here) → run_left code (shown code new (On to)) < run_left code (shown code now here)
turned_falls code now mid new here next rest sure to same is falls =
    subst (λ (n : Next). run_left code (shown code new n) < run_left code (shown code now here)) (on next is)
    (subst (λ (core : Core). run_left code (shown code new next) < run_left code (shown code core here)) same falls)
  where
    on : (n : Next) → way_of n rest ≡ way.On to sure → n ≡ On to
    on (On at) e = let one : at ≡ to = cc in ap On one
    on (Waits at) e = absurd (cc)
    on Ended e = absurd (cc)
