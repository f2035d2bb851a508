-- The cells in reach are a set that holds cells in reach alone, and so moves stay in it.
use Rattle.std.proofs.Common.{◌≡◌, ℕ, List, [], ◌∷◌, ◌++◌, Option, Some, None, false}
use Rattle.ns_world.specs.declared.value.Value.{Value}
use Rattle.ns_world.specs.declared.ending.Ending.{Ending}
use Rattle.ns_world.specs.declared.ending.Ending.TheVariants.{Done, Error, Limit}
use Rattle.ns_world.specs.Heap.{Heap}
use Rattle.ns_world.specs.Reach.{IsInReach, IsRoot, IsHeld, held, referred, all_referred}
use Rattle.ns_moves.specs.Control.{Progress, Activation, Exit, FromMethod, FromBody, FromClause}
use Rattle.ns_moves.specs.State.{Leaving, Loud, Silent, Frame, Running, Looping, Pending, Sending, Performing, Evaluating, Phase, Start, First, Second, Hosted, State, Unbegun, Going, Pends, Ended, Stuck, progress_of}
use Rattle.ns_moves.specs.Turn.{is_still}
use Rattle.ns_machine_reach.specs.Within.{MaybeIn, Kept, ActivationIn, ExitIn, LeavingIn, FrameIn, FramesIn, PendingIn, PhaseIn, EndingIn, StateIn}
use Rattle.ns_machine_reach.specs.Reached.{activation_roots, exit_roots, leaving_roots, last_roots, frame_roots, frames_roots, pending_roots, phase_roots, ending_roots, roots_of}
use Rattle.ns_machine_reach.proofs.Reading.{Closed}
use Rattle.ns_machine_reach.specs.laws.Holding.{AllHave, has_each, left_have, right_have, both_have, in_from, from_in, all_in_from, from_all_in, from_cell}

module _ (Has : ℕ → Type 0) where
  -- ---- states and their roots

  exit_from : (exit : Exit) → AllHave Has (exit_roots exit) → ExitIn Has exit
  exit_from FromMethod all = tt
  exit_from FromBody all = tt
  exit_from (FromClause object holder class) all = (all.0, all.1.0)

  from_exit : (exit : Exit) → ExitIn Has exit → AllHave Has (exit_roots exit)
  from_exit FromMethod x = tt
  from_exit FromBody x = tt
  from_exit (FromClause object holder class) x = (x.0, (x.1, tt))

  leaving_from : (leaving : Leaving) → AllHave Has (leaving_roots leaving) → LeavingIn Has leaving
  leaving_from (Loud exit) all = exit_from exit all
  leaving_from Silent all = tt

  from_leaving : (leaving : Leaving) → LeavingIn Has leaving → AllHave Has (leaving_roots leaving)
  from_leaving (Loud exit) x = from_exit exit x
  from_leaving Silent x = tt

  activation_from : (activation : Activation) → AllHave Has (activation_roots activation) → ActivationIn Has activation
  activation_from activation all =
      let rest = right_have Has (referred activation.self) (activation.holder ∷ referred activation.env) all in
      (in_from Has activation.self (left_have Has (referred activation.self) (activation.holder ∷ referred activation.env) all), rest.0, in_from Has activation.env rest.1)

  from_activation : (activation : Activation) → ActivationIn Has activation → AllHave Has (activation_roots activation)
  from_activation activation a = both_have Has (referred activation.self) (activation.holder ∷ referred activation.env) (from_in Has activation.self a.0) (a.1, from_in Has activation.env a.2)

  last_from : (last : Option Value) → AllHave Has (last_roots last) → MaybeIn Has last
  last_from None all = tt
  last_from (Some value) all = in_from Has value all

  from_last : (last : Option Value) → MaybeIn Has last → AllHave Has (last_roots last)
  from_last None i = tt
  from_last (Some value) i = from_in Has value i

  frame_from : (frame : Frame) → AllHave Has (frame_roots frame) → FrameIn Has frame
  frame_from (Running leaving activation locals rest stack) all =
      let inner = right_have Has (leaving_roots leaving) (activation_roots activation ++ (all_referred locals ++ all_referred stack)) all in
      let values = right_have Has (activation_roots activation) (all_referred locals ++ all_referred stack) inner in (
        leaving_from leaving (left_have Has (leaving_roots leaving) (activation_roots activation ++ (all_referred locals ++ all_referred stack)) all),
        activation_from activation (left_have Has (activation_roots activation) (all_referred locals ++ all_referred stack) inner),
        all_in_from Has locals (left_have Has (all_referred locals) (all_referred stack) values),
        all_in_from Has stack (right_have Has (all_referred locals) (all_referred stack) values),
      )
  frame_from (Looping method state site) all =
      let two = right_have Has (referred state.receiver) (referred state.first ++ (referred state.second ++ last_roots state.last)) all in
      let three = right_have Has (referred state.first) (referred state.second ++ last_roots state.last) two in (
        in_from Has state.receiver (left_have Has (referred state.receiver) (referred state.first ++ (referred state.second ++ last_roots state.last)) all),
        in_from Has state.first (left_have Has (referred state.first) (referred state.second ++ last_roots state.last) two),
        in_from Has state.second (left_have Has (referred state.second) (last_roots state.last) three),
        last_from state.last (right_have Has (referred state.second) (last_roots state.last) three),
      )

  from_frame : (frame : Frame) → FrameIn Has frame → AllHave Has (frame_roots frame)
  from_frame (Running leaving activation locals rest stack) f =
      both_have Has (leaving_roots leaving) (activation_roots activation ++ (all_referred locals ++ all_referred stack)) (from_leaving leaving f.0)
      (both_have Has (activation_roots activation) (all_referred locals ++ all_referred stack) (from_activation activation f.1)
      (both_have Has (all_referred locals) (all_referred stack) (from_all_in Has locals f.2) (from_all_in Has stack f.3)))
  from_frame (Looping method state site) f =
      both_have Has (referred state.receiver) (referred state.first ++ (referred state.second ++ last_roots state.last)) (from_in Has state.receiver f.0)
      (both_have Has (referred state.first) (referred state.second ++ last_roots state.last) (from_in Has state.first f.1)
      (both_have Has (referred state.second) (last_roots state.last) (from_in Has state.second f.2) (from_last state.last f.3)))

  frames_from : (frames : List Frame) → AllHave Has (frames_roots frames) → FramesIn Has frames
  frames_from [] all = tt
  frames_from (frame ∷ frames) all = (frame_from frame (left_have Has (frame_roots frame) (frames_roots frames) all), frames_from frames (right_have Has (frame_roots frame) (frames_roots frames) all))

  from_frames : (frames : List Frame) → FramesIn Has frames → AllHave Has (frames_roots frames)
  from_frames [] all = tt
  from_frames (frame ∷ frames) all = both_have Has (frame_roots frame) (frames_roots frames) (from_frame frame all.0) (from_frames frames all.1)

  pending_from : (pending : Pending) → AllHave Has (pending_roots pending) → PendingIn Has pending
  pending_from (Sending receiver sel arguments site) all = (in_from Has receiver (left_have Has (referred receiver) (all_referred arguments) all), all_in_from Has arguments (right_have Has (referred receiver) (all_referred arguments) all))
  pending_from (Performing receiver sel array site) all = (in_from Has receiver (left_have Has (referred receiver) (array ∷ []) all), (right_have Has (referred receiver) (array ∷ []) all).0)
  pending_from (Evaluating block arguments site) all = (in_from Has block (left_have Has (referred block) (all_referred arguments) all), all_in_from Has arguments (right_have Has (referred block) (all_referred arguments) all))

  from_pending : (pending : Pending) → PendingIn Has pending → AllHave Has (pending_roots pending)
  from_pending (Sending receiver sel arguments site) p = both_have Has (referred receiver) (all_referred arguments) (from_in Has receiver p.0) (from_all_in Has arguments p.1)
  from_pending (Performing receiver sel array site) p = both_have Has (referred receiver) (array ∷ []) (from_in Has receiver p.0) (p.1, tt)
  from_pending (Evaluating block arguments site) p = both_have Has (referred block) (all_referred arguments) (from_in Has block p.0) (from_all_in Has arguments p.1)

  phase_from : (phase : Phase) → AllHave Has (phase_roots phase) → PhaseIn Has phase
  phase_from Start all = tt
  phase_from (First arguments) all = (all.0, all.1.0)
  phase_from Second all = tt
  phase_from Hosted all = tt

  from_phase : (phase : Phase) → PhaseIn Has phase → AllHave Has (phase_roots phase)
  from_phase Start p = tt
  from_phase (First arguments) p = (p.0, (p.1, tt))
  from_phase Second p = tt
  from_phase Hosted p = tt

  from_ending : (ending : Ending) → EndingIn Has ending → AllHave Has (ending_roots ending)
  from_ending (Done value) i = from_in Has value i
  from_ending (Error error) i = tt
  from_ending (Limit limit) i = tt

  -- what a state in the set names
  pub from_state : (first : Progress) (state : State) → StateIn Has first state → AllHave Has (roots_of state)
  from_state first (Unbegun arguments now) s = tt
  from_state first (Going phase frames now) s = both_have Has (phase_roots phase) (frames_roots frames) (from_phase phase s.0) (from_frames frames s.1)
  from_state first (Pends phase pending frames now) s =
      both_have Has (phase_roots phase) (pending_roots pending ++ frames_roots frames) (from_phase phase s.0) (both_have Has (pending_roots pending) (frames_roots frames) (from_pending pending s.1) (from_frames frames s.2))
  from_state first (Ended ending phase now) s = from_ending ending s.0
  from_state first (Stuck now) s = tt

  pub state_from : (first : Progress) (state : State) → is_still state ≡ false → AllHave Has (roots_of state) → Kept Has first (progress_of state) → StateIn Has first state
  state_from first (Going phase frames now) goes all kept = (phase_from phase (left_have Has (phase_roots phase) (frames_roots frames) all), frames_from frames (right_have Has (phase_roots phase) (frames_roots frames) all), kept)
  state_from first (Pends phase pending frames now) goes all kept =
      let rest = right_have Has (phase_roots phase) (pending_roots pending ++ frames_roots frames) all in
      (phase_from phase (left_have Has (phase_roots phase) (pending_roots pending ++ frames_roots frames) all), pending_from pending (left_have Has (pending_roots pending) (frames_roots frames) rest), frames_from frames (right_have Has (pending_roots pending) (frames_roots frames) rest), kept)
  state_from first (Unbegun arguments now) goes all kept = absurd (cc (goes))
  state_from first (Ended ending phase now) goes all kept = absurd (cc (goes))
  state_from first (Stuck now) goes all kept = absurd (cc (goes))

  -- what a state in the set has done
  pub kept_of : (first : Progress) (state : State) → StateIn Has first state → Kept Has first (progress_of state)
  kept_of first (Unbegun arguments now) s = s
  kept_of first (Going phase frames now) s = s.2
  kept_of first (Pends phase pending frames now) s = s.3
  kept_of first (Ended ending phase now) s = s.1
  kept_of first (Stuck now) s = s

  -- what is reached from the set is in it
  pub reached_in : (heap : Heap) (roots : List ℕ) (number : ℕ) → Closed Has heap → AllHave Has roots → IsInReach heap roots number → Has number
  reached_in heap roots n closed all (IsRoot number among some) = has_each Has roots number all among
  reached_in heap roots n closed all (IsHeld from number cell before is among some) =
      has_each Has (held heap cell) number (from_cell Has heap cell (closed from cell (reached_in heap roots from closed all before) is)) among
