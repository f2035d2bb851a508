-- The state of a run that frames and values stand for, by the code and by the places of its sites, which have numbers.
use Rattle.std.specs.Prelude.{ℕ, List, [], ◌∷◌, drop, slice_get}
use Rattle.ns_base.specs.declared.place.Place.{Place as SourcePlace}
use Rattle.ns_code.specs.declared.program.CodeProgram.{CodeProgram}
use Rattle.ns_world.specs.declared.value.Value.{Value}
use Rattle.ns_world.specs.Heap.{cell_number}
use Rattle.ns_moves.specs.declared.site.Site.{Site}
use Rattle.ns_moves.specs.Control.{Progress, Activation, FromMethod, FromBody, FromClause}
use Rattle.ns_moves.specs.Steps.{steps_from}
use Rattle.ns_moves.specs.State as state
use Rattle.ns_moves.specs.State.{Loud, Silent, Sending, Performing, Evaluating, Phase, State, Going, Pends}
use Rattle.ns_machine_frames.specs.declared.registers.Registers.{Registers}
use Rattle.ns_machine_frames.specs.declared.stack.Stack.{Stack}
use Rattle.ns_machine_frames.specs.declared.frame.KeptSite.{KeptSite}
use Rattle.ns_machine_frames.specs.declared.frame.Leaving.{Leaving}
use Rattle.ns_machine_frames.specs.declared.frame.Leaving.TheVariants.{Method, Body, Clause, Part}
use Rattle.ns_machine_frames.specs.declared.frame.Activation.{Activation as KeptActivation}
use Rattle.ns_machine_frames.specs.declared.frame.Pending.{Pending}
use Rattle.ns_machine_frames.specs.declared.frame.Pending.TheVariants as pending
use Rattle.ns_machine_frames.specs.Standing.{Stood, Runs, Loops}
use Rattle.ns_machine_frames.specs.Stack.{in_use, stood, with_top}

-- the site that a kept one stands for
abbrev pub site_shown : List SourcePlace → KeptSite → Site
site_shown places site = record { place = slice_get places site.place; class = site.class; sel = site.sel }

-- the end that a kept one stands for; a clause's object and holder are the frame's own
abbrev pub leaving_shown : Leaving → KeptActivation → state.Leaving
leaving_shown Method activation = Loud FromMethod
leaving_shown Body activation = Loud FromBody
leaving_shown (Clause class) activation = Loud (FromClause (cell_number activation.me) activation.holder class)
leaving_shown Part activation = Silent

-- the activation that a kept one stands for
abbrev pub activation_shown : List SourcePlace → KeptActivation → Activation
activation_shown places activation = record {
  self = activation.me;
  holder = activation.holder;
  body = activation.body;
  home = activation.home;
  env = activation.env;
  site = site_shown places activation.site;
}

-- the frame that one stands for
abbrev pub frame_shown : CodeProgram → List SourcePlace → Stood → state.Frame
frame_shown code places (Runs frame locals stack) =
    state.Running (leaving_shown frame.leaving frame.activation) (activation_shown places frame.activation) locals
    (steps_from code frame.activation.body frame.next) stack
frame_shown code places (Loops frame) = state.Looping frame.method frame.state (site_shown places frame.site)

-- all of them
abbrev pub frames_shown : CodeProgram → List SourcePlace → List Stood → List state.Frame
frames_shown code places [] = []
frames_shown code places (one ∷ stood) = frame_shown code places one ∷ frames_shown code places stood

-- the frames below a place in the values
abbrev pub frames_below : CodeProgram → List SourcePlace → Stack → Registers → ℕ → List state.Frame
frames_below code places stack at floor = frames_shown code places (stood stack (with_top floor at))

-- the state of a run that has begun and hasn't ended, by what waits and by the arguments that are kept for it
abbrev pub state_shown : CodeProgram → List SourcePlace → Phase → Pending → List Value → Stack → Registers → Progress → State
state_shown code places phase pending.Nothing kept stack at progress = Going phase (frames_shown code places (stood stack at)) progress
state_shown code places phase (pending.Sending receiver sel site floor) kept stack at progress =
    Pends phase (Sending receiver sel kept (site_shown places site)) (frames_below code places stack at floor) progress
state_shown code places phase (pending.Performing receiver sel array site floor) kept stack at progress =
    Pends phase (Performing receiver sel array (site_shown places site)) (frames_below code places stack at floor) progress
state_shown code places phase (pending.Evaluating block site floor first) kept stack at progress =
    Pends phase (Evaluating block (drop first (in_use stack at)) (site_shown places site)) (frames_below code places stack at floor) progress
state_shown code places phase (pending.EvaluatingKept block site floor) kept stack at progress =
    Pends phase (Evaluating block kept (site_shown places site)) (frames_below code places stack at floor) progress
