-- The send that the next move of a run begins, with the body whose code it is.
use Rattle.std.specs.Prelude.{ℕ, List, [], ◌∷◌, Option, Some, None, option_map}
use Rattle.ns_base.specs.declared.selector.Sel.{Sel}
use Rattle.ns_moves.specs.State.{Frame, Running, Looping, Pending, Sending, Performing, Evaluating, State, Unbegun, Going, Pends, Ended, Stuck}
use Rattle.ns_moves.specs.Steps.{PlacedInstr}
use Rattle.ns_audit.specs.Audit.{sent_by}

-- a send of a body
pub record BodySend : Type 0 where
  pub body : ℕ
  pub sel : Sel

abbrev pub send_of : ℕ → Sel → BodySend
send_of body sel = record { body = body; sel = sel }

-- that of a body with these steps left
abbrev pub send_of_steps : ℕ → List PlacedInstr → Option BodySend
send_of_steps body [] = None
send_of_steps body (step ∷ rest) = option_map (send_of body) (sent_by step.0)

-- that of the topmost frame; a method of the kernel that evaluates blocks sends nothing
abbrev pub send_on_top : List Frame → Option BodySend
send_on_top [] = None
send_on_top (Running leaving activation locals rest stack ∷ frames) = send_of_steps activation.body rest
send_on_top (Looping method state site ∷ frames) = None

-- a send of `perform:with:` is one of the body that sent that; with no frame below it was a host that did
abbrev pub performed_send : Sel → List Frame → Option BodySend
performed_send sel [] = None
performed_send sel (Running leaving activation locals rest stack ∷ frames) = Some (send_of activation.body sel)
performed_send sel (Looping method state site ∷ frames) = None

-- what waits; the sends that open a run and those of a host have no body
abbrev pub waiting_send : Pending → List Frame → Option BodySend
waiting_send (Sending receiver sel arguments site) frames = None
waiting_send (Performing receiver sel array site) frames = performed_send sel frames
waiting_send (Evaluating block arguments site) frames = None

-- the send that the next move begins, if it begins one of a body
abbrev pub next_send : State → Option BodySend
next_send (Unbegun arguments progress) = None
next_send (Going phase frames progress) = send_on_top frames
next_send (Pends phase pending frames progress) = waiting_send pending frames
next_send (Ended ending phase progress) = None
next_send (Stuck progress) = None
