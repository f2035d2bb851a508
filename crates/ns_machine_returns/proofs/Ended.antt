-- The end of the body that runs.
use Rattle.std.proofs.Common.{◌≡◌, List, [], ◌∷◌, take, ap, sym, ◌∙◌, subst, true}
use Rattle.ns_code.specs.declared.program.CodeProgram.{CodeProgram}
use Rattle.ns_world.specs.declared.value.Value.{Value}
use Rattle.ns_world.specs.Lawful.{IsLawful, IsLiveValue}
use Rattle.ns_world.specs.World.{World, WorldView, left}
use Rattle.ns_moves.specs.Control.{Progress, in_world, frame_left}
use Rattle.ns_moves.specs.State.{Going}
use Rattle.ns_moves.specs.Returns.{delivered, returned}
use Rattle.ns_machine_frames.specs.declared.frame.Frame.{Frame}
use Rattle.ns_machine_frames.specs.declared.frame.Frame.TheVariants.{Running, Looping}
use Rattle.ns_machine_frames.specs.declared.frame.Leaving.{Leaving}
use Rattle.ns_machine_frames.specs.declared.frame.Leaving.TheVariants as leaving
use Rattle.ns_machine_frames.specs.declared.frame.RunningFrame.{RunningFrame}
use Rattle.ns_machine_frames.specs.declared.registers.Registers.{Registers}
use Rattle.ns_machine_frames.specs.declared.stack.Stack.{Stack}
use Rattle.ns_machine_frames.specs.Standing.{Stood, standing, at_next, below}
use Rattle.ns_machine_frames.specs.Stack.{stood}
use Rattle.ns_machine_frames.specs.View.{leaving_shown, activation_shown, frames_shown}
use Rattle.ns_machine_core.specs.declared.state.Core.{Core}
use Rattle.ns_machine_core.specs.declared.state.Next.{Next}
use Rattle.ns_machine_core.specs.declared.state.Next.TheVariants as next
use Rattle.ns_machine_core.specs.Shown.{phase_shown, progress_in}
use Rattle.ns_machine_core.specs.Standing.{KeepsRightIn}
use Rattle.ns_machine_core.specs.Framed.{HasRoomOnTop, answers, AnswersHaveRoom}
use Rattle.ns_machine_core.specs.laws.Kept.{stays_on}
use Rattle.ns_machine_returns.specs.Handing.{IsHanded}
use Rattle.ns_machine_returns.specs.Ending.{CanEnd, IsEnded, FrameIsAnswered}
use Rattle.ns_machine_returns.proofs.Left.{over, IsLeft, left_standing, left_stays}

-- ---- what the topmost frame is sure of

pub room_below : (code : CodeProgram) (core : Core) (at : Registers) (frame : RunningFrame) (value : Value) →
    CanEnd code core at frame value
    → answers frame.leaving ≡ true → HasRoomOnTop code (below (stood core.stack at))
room_below code core at frame value can gives = by_frames core.stack.frames.items can.top can.framed.rooms
  where
    by_frames : (frames : List Frame) → frames ≡ Running frame ∷ below core.stack.frames.items
        → AnswersHaveRoom code (standing (at_next at.next frames) (take at.top core.stack.values.items))
        → HasRoomOnTop code (below (standing (at_next at.next frames) (take at.top core.stack.values.items)))
    by_frames [] e rooms = absurd (cc)
    by_frames (Looping one ∷ frames) e rooms = absurd (cc)
    by_frames (Running one ∷ frames) e rooms =
        let same : one ≡ frame = cc in
        rooms.0 (ap (λ (f : RunningFrame). answers f.leaving) same ∙ gives)

pub method_room : (code : CodeProgram) (core : Core) (at : Registers) (frame : RunningFrame) (value : Value) →
    CanEnd code core at frame value
    → frame.leaving ≡ leaving.Method → HasRoomOnTop code (below (stood core.stack at))
method_room code core at frame value can is = room_below code core at frame value can (ap answers is)

pub body_room : (code : CodeProgram) (core : Core) (at : Registers) (frame : RunningFrame) (value : Value) → CanEnd code core at frame value
    → frame.leaving ≡ leaving.Body → HasRoomOnTop code (below (stood core.stack at))
body_room code core at frame value can is = room_below code core at frame value can (ap answers is)

-- ---- a frame that was given back

-- the world without it
pub given_back : (core : Core) (world : WorldView) →
    ((rest : Progress) → in_world rest world.world ≡ frame_left (in_world rest core.run.world.world))
    → world.world ≡ left core.run.world.world
given_back core world ended = ap (λ (p : Progress). p.world) (ended (progress_in core))

pub still_lawful : ((world : World) (code : CodeProgram) → IsLawful world code → IsLawful (left world) code)
    → (code : CodeProgram) (core : Core) (world : WorldView) → IsLawful core.run.world.world code
    → ((rest : Progress) → in_world rest world.world ≡ frame_left (in_world rest core.run.world.world)) → IsLawful world.world code
still_lawful law code core world lawful ended =
    subst (λ (w : World). IsLawful w code) (sym (given_back core world ended)) (law core.run.world.world code lawful)

pub still_live : (code : CodeProgram) (core : Core) (world : WorldView) (value : Value) → IsLiveValue core.run.world.world.cells code value
    → ((rest : Progress) → in_world rest world.world ≡ frame_left (in_world rest core.run.world.world)) → IsLiveValue world.world.cells code value
still_live code core world value live ended =
    subst (λ (w : World). IsLiveValue w.cells code value) (sym (given_back core world ended)) live

pub answered : (code : CodeProgram) (core new : Core) (at here : Registers) (world : WorldView) (stack : Stack) (value : Value) (n : Next)
    → KeepsRightIn code core core → IsLeft core at world stack here
    → ((rest : Progress) → in_world rest world.world ≡ frame_left (in_world rest core.run.world.world))
    → IsHanded code (over core world stack) here value new n → FrameIsAnswered code core at value new n
answered code core new at here world stack value n kept is ended handed = record {
  state = handed.state
      ∙ (ap (λ (s : List Stood). delivered code (phase_shown core.phase) value (frames_shown code core.places s) (progress_in (over core world stack))) is.stood
      ∙ ap (delivered code (phase_shown core.phase) value (frames_shown code core.places (below (stood core.stack at)))) (ended (progress_in core)));
  stand = handed.stand;
  stays = stays_on core (over core world stack) new (left_stays core at here world stack is) handed.stays;
  kept = rw handed.run kept;
}

pub method_ended : (code : CodeProgram) (old new : Core) (at : Registers) (frame : RunningFrame) (value : Value) (n : Next) →
    frame.leaving ≡ leaving.Method
    → FrameIsAnswered code old at value new n → IsEnded code old at frame value new n
method_ended code old new at frame value n is answered = record {
  state = answered.state
      ∙ ap (λ (l : Leaving). returned code (phase_shown old.phase) (leaving_shown l frame.activation) (activation_shown old.places frame.activation) value
      (frames_shown code old.places (below (stood old.stack at))) (progress_in old)) (sym is);
  stand = answered.stand;
  stays = answered.stays;
  kept = answered.kept;
}

pub body_ended_so : (code : CodeProgram) (old new : Core) (at : Registers) (frame : RunningFrame) (value : Value) (n : Next) →
    frame.leaving ≡ leaving.Body
    → FrameIsAnswered code old at value new n → IsEnded code old at frame value new n
body_ended_so code old new at frame value n is answered = record {
  state = answered.state
      ∙ ap (λ (l : Leaving). returned code (phase_shown old.phase) (leaving_shown l frame.activation) (activation_shown old.places frame.activation) value
      (frames_shown code old.places (below (stood old.stack at))) (progress_in old)) (sym is);
  stand = answered.stand;
  stays = answered.stays;
  kept = answered.kept;
}

-- a superclass part
pub part_over : (code : CodeProgram) (core : Core) (at here : Registers) (world : WorldView) (stack : Stack) (frame : RunningFrame) (value : Value)
    → CanEnd code core at frame value → frame.leaving ≡ leaving.Part → IsLeft core at world stack here
    → ((rest : Progress) → in_world rest world.world ≡ frame_left (in_world rest core.run.world.world))
    → IsEnded code core at frame value (over core world stack) (next.On here)
part_over code core at here world stack frame value can is left ended = record {
  state = ap (λ (s : List Stood). Going (phase_shown core.phase) (frames_shown code core.places s) (progress_in (over core world stack))) left.stood
      ∙ (ap (Going (phase_shown core.phase) (frames_shown code core.places (below (stood core.stack at)))) (ended (progress_in core))
      ∙ ap (λ (l : Leaving). returned code (phase_shown core.phase) (leaving_shown l frame.activation) (activation_shown core.places frame.activation) value
      (frames_shown code core.places (below (stood core.stack at))) (progress_in core)) (sym is));
  stand = left_standing code core at here world stack can.stands.frames left;
  stays = left_stays core at here world stack left;
  kept = can.kept;
}
