-- Where an audit answers Yes, no state of any run sends a denied selector from the module.
use Rattle.std.specs.Prelude.{option_map}
use Rattle.std.proofs.Common.{◌≡◌, ℕ, List, [], ◌∷◌, refl, sym, ap, ◌∙◌, subst, Option, Some, None, Bool, true, false, cond}
use Rattle.ns_base.specs.declared.selector.Sel.{Sel}
use Rattle.ns_code.specs.declared.program.CodeProgram.{CodeProgram}
use Rattle.ns_facets.specs.declared.board.Board.{Board}
use Rattle.ns_facets.specs.declared.row.Grants.{Grants}
use Rattle.ns_moves.specs.Control.{After, Gives, Halts}
use Rattle.ns_moves.specs.Start.{start_made}
use Rattle.ns_moves.specs.State.{Running, Looping, Sending, Performing, Evaluating, State, Unbegun, Going, Pends, Ended, Stuck, swapped, is_idle}
use Rattle.ns_moves.specs.Steps.{PlacedInstr, steps_from}
use Rattle.ns_moves.specs.Move.{move}
use Rattle.ns_moves.specs.Starts.{new_machine, started, begun, unbegun}
use Rattle.std.proofs.lemmas.Option.{same_Some}
use Rattle.ns_world.specs.declared.value.Value.{Value}
use Rattle.ns_moves.specs.Beginning.{NewIsValid, StartKeepsValid, HostKeepsValid}
use Rattle.ns_moves.specs.WorldStays.{SwapsKeepValid}
use Rattle.ns_moves.specs.Standing.{MovesKeepValid}
use Rattle.ns_moves.specs.Valid.{Valid}
use Rattle.ns_moves.specs.ValidFrames.{next_number}
use Rattle.ns_audit.specs.declared.answer.Audit.TheVariants.{Yes}
use Rattle.ns_audit.specs.Audit.{audited, is_denied, sent_by}
use Rattle.ns_audit.specs.NextSend.{BodySend, next_send, send_of_steps, send_of}
use Rattle.ns_audit.specs.Stated.{Act, Starts, Moves, Begins, Swaps, ActsLead, is_body_in, YesIsKept}
use Rattle.ns_audit.proofs.Harmless.{StepsPass, steps_pass}
use Rattle.ns_audit.proofs.Quiet.{Quiet, StepIsHarmless, move_quiet}

-- What the laws of the machine say of valid states.
pub record Keeps (code : CodeProgram) : Type 0 where
  pub new : (grants : Grants) → NewIsValid code grants
  pub start : (grants : Grants) → StartKeepsValid code grants
  pub host : (grants : Grants) → HostKeepsValid code grants
  pub swap : (grants : Grants) → SwapsKeepValid code grants
  pub move : (grants : Grants) → MovesKeepValid code grants

module _ (code : CodeProgram) (top : ℕ) (denied : List Sel) (passed : audited code top denied ≡ Yes) where
  abbrev Still : State → Type 0
  Still state = Quiet code (is_body_in code top) state

  -- ---- valid states

  -- what is left of a body of the module passes
  rest_passes : (body count : ℕ) (rest : List PlacedInstr) → rest ≡ steps_from code body count → is_body_in code top body ≡ true →
      StepsPass code denied rest
  rest_passes body count rest is inside = subst (StepsPass code denied) (sym is) (steps_pass code denied top body count passed inside)

  step_harmless : (grants : Grants) (state : State) → Valid code grants state → StepIsHarmless code (is_body_in code top) state
  step_harmless grants (Going phase (Running leaving a ls (step ∷ rest) stack ∷ frames) progress) valid =
      λ sel sends inside. ((rest_passes a.body (next_number code a.body (step ∷ rest)) (step ∷ rest) valid.2.0.inside inside).0 sel sends).1
  step_harmless grants (Going phase [] progress) valid = tt
  step_harmless grants (Going phase (Running leaving a ls [] stack ∷ frames) progress) valid = tt
  step_harmless grants (Going phase (Looping method state site ∷ frames) progress) valid = tt
  step_harmless grants (Pends phase (Sending receiver sel arguments site) frames progress) valid = valid.1.0
  step_harmless grants (Pends phase (Performing receiver sel array site) frames progress) valid = tt
  step_harmless grants (Pends phase (Evaluating block arguments site) frames progress) valid = tt
  step_harmless grants (Unbegun arguments progress) valid = tt
  step_harmless grants (Ended ending phase progress) valid = tt
  step_harmless grants (Stuck progress) valid = tt

  -- ---- what happens to a machine

  made_quiet : (after : After) → Still (unbegun after)
  made_quiet (Gives array progress) = tt
  made_quiet (Halts ending progress) = tt

  started_quiet : (state : State) → Still state → Still (started code state)
  started_quiet (Unbegun arguments progress) quiet = tt
  started_quiet (Going phase frames progress) quiet = quiet
  started_quiet (Pends phase pending frames progress) quiet = quiet
  started_quiet (Ended ending phase progress) quiet = quiet
  started_quiet (Stuck progress) quiet = quiet

  begun_quiet : (receiver : Value) (sel : Sel) (arguments : List Value) (state : State) → Still state →
      Still (begun receiver sel arguments state)
  begun_quiet receiver sel arguments state quiet = tested (is_idle state) _ state tt quiet
    where
      tested : (b : Bool) (first second : State) → Still first → Still second → Still (cond b first second)
      tested true first second one other = one
      tested false first second one other = other

  swapped_quiet : (board : Board) (state : State) → Still state → Still (swapped board state)
  swapped_quiet board (Unbegun arguments progress) quiet = tt
  swapped_quiet board (Going phase frames progress) quiet = tt
  swapped_quiet board (Pends phase pending frames progress) quiet = quiet
  swapped_quiet board (Ended ending phase progress) quiet = tt
  swapped_quiet board (Stuck progress) quiet = tt

  module _ (grants : Grants) (keeps : Keeps code) where
    all_quiet : (acts : List Act) (old new : State) → Valid code grants old → Still old → ActsLead code acts old new →
        Valid code grants new × Still new
    all_quiet [] old new valid quiet leads = (subst (Valid code grants) (sym leads) valid, subst (λ (s : State). Still s) (sym leads) quiet)
    all_quiet (Starts ∷ acts) old new valid quiet leads =
        all_quiet acts (started code old) new (keeps.start grants old valid) (started_quiet old quiet) leads.1
    all_quiet (Moves ∷ acts) old new valid quiet leads =
        all_quiet acts (move code old) new (keeps.move grants 1 old valid) (move_quiet code (is_body_in code top) old quiet (step_harmless grants old valid)) leads.1
    all_quiet (Begins receiver sel arguments ∷ acts) old new valid quiet leads =
        all_quiet acts (begun receiver sel arguments old) new (keeps.host grants receiver sel arguments old valid leads.0) (begun_quiet receiver sel arguments old quiet) leads.1
    all_quiet (Swaps board ∷ acts) old new valid quiet leads =
        all_quiet acts (swapped board old) new (keeps.swap grants board old valid) (swapped_quiet board old quiet) leads.1

  -- ---- what is sent

  not_denied : (body : ℕ) (step : PlacedInstr) (rest : List PlacedInstr) (one : BodySend) →
      (is_body_in code top body ≡ true → StepsPass code denied (step ∷ rest)) →
      send_of_steps body (step ∷ rest) ≡ Some one → is_body_in code top one.body ≡ true → is_denied denied one.sel ≡ false
  not_denied body step rest one passes is inside = there (sent_by step.0) refl is
    where
      there : (o : Option Sel) → sent_by step.0 ≡ o → option_map (send_of body) o ≡ Some one → is_denied denied one.sel ≡ false
      there None e is = absurd (cc)
      there (Some sel) e is =
          let same : send_of body sel ≡ one = same_Some _ _ is in
          sym (ap (λ (s : BodySend). is_denied denied s.sel) same)
          ∙ ((passes (ap (λ (s : BodySend). is_body_in code top s.body) same ∙ inside)).0 sel e).0

  performs_none : (body : ℕ) (sel : Sel) (one : BodySend) → is_body_in code top body ≡ false → Some (send_of body sel) ≡ Some one →
      is_body_in code top one.body ≡ true → is_denied denied one.sel ≡ false
  performs_none body sel one quiet is inside =
      let same : send_of body sel ≡ one = same_Some _ _ is in
      let here : is_body_in code top body ≡ true = ap (λ (s : BodySend). is_body_in code top s.body) same ∙ inside in
      absurd (cc)

  state_sends : (grants : Grants) (state : State) (one : BodySend) → Valid code grants state → Still state → next_send state ≡ Some one →
      is_body_in code top one.body ≡ true →
      is_denied denied one.sel ≡ false
  state_sends grants (Unbegun arguments progress) one valid quiet is inside = absurd (cc)
  state_sends grants (Going phase [] progress) one valid quiet is inside = absurd (cc)
  state_sends grants (Going phase (Running leaving a ls [] stack ∷ frames) progress) one valid quiet is inside = absurd (cc)
  state_sends grants (Going phase (Running leaving a ls (step ∷ rest) stack ∷ frames) progress) one valid quiet is inside =
      not_denied a.body step rest one (rest_passes a.body (next_number code a.body (step ∷ rest)) (step ∷ rest) valid.2.0.inside) is inside
  state_sends grants (Going phase (Looping method state site ∷ frames) progress) one valid quiet is inside = absurd (cc)
  state_sends grants (Pends phase (Sending receiver sel arguments site) frames progress) one valid quiet is inside = absurd (cc)
  state_sends grants (Pends phase (Performing receiver sel array site) [] progress) one valid quiet is inside = absurd (cc)
  state_sends grants (Pends phase (Performing receiver sel array site) (Running leaving a ls rest stack ∷ frames) progress) one valid quiet is inside =
      performs_none a.body sel one quiet is inside
  state_sends grants (Pends phase (Performing receiver sel array site) (Looping method state named ∷ frames) progress) one valid quiet is inside =
      absurd (cc)
  state_sends grants (Pends phase (Evaluating block arguments site) frames progress) one valid quiet is inside = absurd (cc)
  state_sends grants (Ended ending phase progress) one valid quiet is inside = absurd (cc)
  state_sends grants (Stuck progress) one valid quiet is inside = absurd (cc)

-- So it is with each state of a run.
pub yes_kept : (code : CodeProgram) → Keeps code → YesIsKept code
yes_kept code keeps top denied sound fits passed state one run is inside =
    let both = all_quiet code top denied passed run.grants keeps run.acts (new_machine code run.limits run.grants run.arguments) state
    (keeps.new run.grants run.limits run.arguments sound fits run.range)
    (made_quiet code top denied passed (start_made code run.grants run.arguments run.limits)) run.leads in
    state_sends code top denied passed run.grants state one both.0 both.1 is inside
