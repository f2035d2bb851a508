-- A move of a valid state leaves valid frames, and what waits is valid.
use Rattle.std.proofs.Common.{◌≡◌, zero, suc, ◌≤◌, List, [], ◌∷◌, length, refl, Option, Some, None, slice_get}
use Rattle.std.specs.Prelude.{IsSome}
use Rattle.ns_base.specs.declared.selector.Sel.{Sel}
use Rattle.ns_code.specs.declared.program.CodeProgram.{CodeProgram}
use Rattle.ns_code.specs.declared.body.BodyCode.{BodyCode}
use Rattle.ns_world.specs.declared.value.Value.{Value}
use Rattle.ns_world.specs.declared.value.Value.TheVariants.{Ref}
use Rattle.ns_world.specs.Lawful.{IsLiveValue}
use Rattle.ns_kdata.specs.Arguments.{shape_of_value, items_of}
use Rattle.ns_world.specs.declared.kernel_parts.KMethod.{KMethod}
use Rattle.ns_kcode.specs.declared.state.KState.{KState}
use Rattle.ns_kcode.specs.Next.{next}
use Rattle.ns_moves.specs.declared.site.Site.{Site}
use Rattle.ns_moves.specs.Control.{Progress, Activation}
use Rattle.ns_moves.specs.Blocks.{block_body_in, evaluated, method_next}
use Rattle.ns_moves.specs.Sends.{sent_from}
use Rattle.ns_moves.specs.Lawful.{FitsSelector}
use Rattle.ns_moves.specs.Fitting.{home_in, FitsSite}
use Rattle.ns_moves.specs.Actions.{Evaluates, Continues}
use Rattle.ns_moves.specs.Spending.{action_steps}
use Rattle.ns_facets.specs.declared.row.Grants.{Grants}
use Rattle.ns_moves.specs.State.{Leaving, Frame, Running, Looping, Sending, Performing, Evaluating, Phase, State, Unbegun, Going, Pends, Ended, Stuck}
use Rattle.ns_moves.specs.Steps.{PlacedInstr}
use Rattle.ns_moves.specs.Arrivals.{arrived}
use Rattle.ns_moves.specs.Move.{move}
use Rattle.ns_moves.specs.ValidFrames.{Nothing, SendValue, awaited_below, RunningIsValid, FramesAreValid}
use Rattle.ns_moves.specs.Valid.{GoesOn, Valid}
use Rattle.ns_moves.specs.Standing.{FramesStand}
use Rattle.ns_moves.proofs.FramesKnown.{Known}
use Rattle.ns_moves.proofs.FramesLast.{method_of}
use Rattle.ns_moves.proofs.FramesStanding.{no_next}
use Rattle.ns_moves.proofs.FramesReturn.{EndsWell}
use Rattle.ns_moves.proofs.FramesArrive.{sent_stands, evaluated_stands, waited_stands, few_acted}
use Rattle.ns_moves.proofs.FramesHomes.{block_home, home_more}
use Rattle.ns_moves.specs.WorldAsks.{FindsAsked}
use Rattle.ns_moves.specs.WorldStays.{WorldFits}
use Rattle.ns_moves.specs.Standing.{MovesKeepFrames, ValidFindsAsked, MovesKeepValid}
use Rattle.ns_moves.proofs.WorldMoves.{move_fits}
use Rattle.ns_moves.proofs.FramesOpening.{ends_well}
use Rattle.ns_moves.proofs.InstrFrame.{next_step, executed_stands}
use Rattle.ns_moves.proofs.InstrAsked.{step_asked}

module _ (known : Known) (code : CodeProgram) (grants : Grants) where
  -- ---- frames that go on

  body_there : (a : Activation) → IsSome (slice_get code.bodies a.body) → {A : Type 0} → ((b : BodyCode) → slice_get code.bodies a.body ≡ Some b → A) → A
  body_there a some goes = there (slice_get code.bodies a.body) refl some goes
    where
      there : {A : Type 0} (o : Option BodyCode) → slice_get code.bodies a.body ≡ o → IsSome o → ((b : BodyCode) → slice_get code.bodies a.body ≡ Some b → A) → A
      there (Some b) e some goes = goes b e
      there None e some goes = absurd (cc)

  running_stands : (phase : Phase) (leaving : Leaving) (a : Activation) (ls : List Value) (step : PlacedInstr) (rest : List PlacedInstr) (stack : List Value) (frames : List Frame)
      (p : Progress) → GoesOn code grants phase (Running leaving a ls (step ∷ rest) stack ∷ frames) p → EndsWell code phase p
      → RunningIsValid code p Nothing leaving a ls (step ∷ rest) stack
      → FramesAreValid code p (awaited_below code (Running leaving a ls (step ∷ rest) stack)) frames
      → FramesStand code (move code (Going phase (Running leaving a ls (step ∷ rest) stack ∷ frames) p))
  running_stands phase leaving a ls step rest stack frames p on ends valid below =
      body_there a valid.fits.there
      (λ b there.
      next_step known code on.world.sound phase leaving a ls step rest stack frames p on.world.lawful ends b there valid below
      (executed_stands known code on.world.sound phase leaving a ls step rest stack frames p on.world.lawful ends b there valid below))

  looping_stands : (phase : Phase) (method : KMethod) (state : KState) (site : Site) (frames : List Frame) (p : Progress)
      → GoesOn code grants phase (Looping method state site ∷ frames) p → EndsWell code phase p
      → FramesAreValid code p Nothing (Looping method state site ∷ frames) → FramesStand code (move code (Going phase (Looping method state site ∷ frames) p))
  looping_stands phase method state site frames p on ends (own, below) =
      let lawful = on.world.lawful in
      let action = Continues method state site in
      waited_stands known code on.world.sound phase frames p lawful ends (action_steps (next method state)) method site (method_next method state site p) below
      own.named (known.actions.next method state site code p lawful own.live)
      (known.actions.hands_on code action p lawful (method_of code p.world.cells Nothing method state site own)) (few_acted (next method state) state site p)
      (known.actions.leads code action p) (known.actions.spends code action p)

  -- ---- what waits

  waiting_sends : (phase : Phase) (receiver : Value) (sel : Sel) (vs : List Value) (site : Site) (frames : List Frame) (p : Progress)
      → GoesOn code grants phase frames p → EndsWell code phase p → FramesAreValid code p SendValue frames → IsLiveValue p.world.cells code receiver
      → FitsSelector p.world.cells code sel vs → FitsSite code site → FramesStand code (arrived code phase (sent_from code receiver sel vs site p) frames)
  waiting_sends phase receiver sel vs site frames p on ends valid live fits named =
      let lawful = on.world.lawful in
      sent_stands known code on.world.sound phase frames p lawful ends 1 (FitsSelector p.world.cells code sel vs) site (sent_from code receiver sel vs site p) valid
      named fits (known.sends.from_lawful code receiver sel vs site p lawful live fits)
      (known.sends.from_fits code receiver sel vs site p lawful live fits) (known.sends.from_at code receiver sel vs site p)
      (known.sends.from_later code receiver sel vs site p) (known.sends.from_spends code receiver sel vs site p)

  -- ---- each move

  pub move_stands : (s : State) → Valid code grants s → ((phase : Phase) (frames : List Frame) (p : Progress) → GoesOn code grants phase frames p → EndsWell code phase p)
      → FramesStand code (move code s)
  move_stands (Unbegun arguments p) valid ends = tt
  move_stands (Ended ending phase p) valid ends = tt
  move_stands (Stuck p) valid ends = absurd valid
  move_stands (Going phase [] p) (on, some, valid) ends = absurd (cc)
  move_stands (Going phase (Running leaving a ls [] stack ∷ frames) p) (on, some, (own, below)) ends =
      body_there a own.fits.there (λ b there. absurd (no_next code a.body b there (own.stands b there).0))
  move_stands (Going phase (Running leaving a ls (step ∷ rest) stack ∷ frames) p) (on, some, (own, below)) ends =
      running_stands phase leaving a ls step rest stack frames p on (ends phase (Running leaving a ls (step ∷ rest) stack ∷ frames) p on) own below
  move_stands (Going phase (Looping method state site ∷ frames) p) (on, some, valid) ends =
      looping_stands phase method state site frames p on (ends phase (Looping method state site ∷ frames) p on) valid
  move_stands (Pends phase (Sending receiver sel arguments site) frames p) (on, (none, send, fits, named), valid) ends =
      waiting_sends phase receiver sel arguments site frames p on (ends phase frames p on) valid send.live fits named
  move_stands (Pends phase (Performing receiver sel array site) frames p) (on, (live, is, fits, named), valid) ends =
      waiting_sends phase receiver sel (items_of p.world.cells (Ref array)) site frames p on (ends phase frames p on) valid live fits named
  move_stands (Pends phase (Evaluating block arguments site) frames p) (on, (is, few, live, named), valid) ends =
      let lawful = on.world.lawful in
      let action = Evaluates block arguments site in
      let shape = shape_of_value p.world.cells block in
      evaluated_stands known code on.world.sound phase frames p lawful (ends phase frames p on) 1 (block_body_in shape) (home_in shape) (length arguments ≤ 255) site
      (evaluated code block arguments site p) valid named
      (λ q more. home_more code p.begun q.begun (block_body_in shape) (home_in shape) more (block_home code p.begun p.world.cells block on.world.homes is))
      (known.sends.evaluated_lawful code block arguments site p lawful live) (known.actions.hands_on code action p lawful live)
      (known.sends.evaluated_at code block arguments site p) (known.sends.evaluated_body code block arguments site p)
      (known.actions.leads code action p) (known.actions.spends code action p)

  -- what the next instruction asks of the world is there
  pub finds_asked : (s : State) → Valid code grants s → FindsAsked code s
  finds_asked (Unbegun arguments p) valid = tt
  finds_asked (Ended ending phase p) valid = tt
  finds_asked (Stuck p) valid = tt
  finds_asked (Going phase [] p) valid = tt
  finds_asked (Going phase (Looping method state site ∷ frames) p) valid = tt
  finds_asked (Going phase (Running leaving a ls [] stack ∷ frames) p) valid = tt
  finds_asked (Going phase (Running leaving a ls (step ∷ rest) stack ∷ frames) p) (on, some, (own, below)) =
      body_there a own.fits.there
      (λ b there.
      step_asked known code on.world.sound phase leaving a ls step rest stack frames p on.world.lawful
      (ends_well known code grants phase (Running leaving a ls (step ∷ rest) stack ∷ frames) p on) b there own below)
  finds_asked (Pends phase pending frames p) valid = tt

  pub move_keeps_frames : (s : State) → Valid code grants s → FramesStand code (move code s)
  move_keeps_frames s valid = move_stands s valid (λ phase frames p on. ends_well known code grants phase frames p on)

pub frames_stand : (known : Known) (code : CodeProgram) → MovesKeepFrames code
frames_stand known code grants = move_keeps_frames known code grants

pub asked_there : (known : Known) (code : CodeProgram) → ValidFindsAsked code
asked_there known code grants = finds_asked known code grants

-- both halves of the invariant are all of it
pub both_halves : (code : CodeProgram) (grants : Grants) (s : State) → WorldFits code grants s → FramesStand code s → Valid code grants s
both_halves code grants (Unbegun arguments p) world frames = world
both_halves code grants (Going phase frames p) world stand = (world, stand.0, stand.1)
both_halves code grants (Pends phase pending frames p) world stand = (world, stand.0, stand.1)
both_halves code grants (Ended ending phase p) world frames = world
both_halves code grants (Stuck p) world frames = frames

-- so each move keeps it
pub valid_stays : (code : CodeProgram) (grants : Grants) → MovesKeepFrames code → ValidFindsAsked code → MovesKeepValid code grants
valid_stays code grants frames asks zero s valid = valid
valid_stays code grants frames asks (suc count) s valid =
    valid_stays code grants frames asks count (move code s)
    (both_halves code grants (move code s) (move_fits code grants s valid (asks grants s valid)) (frames grants s valid))
