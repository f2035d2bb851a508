-- What the frames of a valid state are sure of below them.
use Rattle.std.proofs.Common.{◌≡◌, ℕ, zero, suc, ◌+◌, ◌<◌, List, [], ◌∷◌, length, get_or, refl, ap, sym, subst, ◌∙◌, arith, Option, Some, None, Bool, true, false, slice_get, if◌then◌else◌, ◌==◌}
use Rattle.std.specs.Prelude.{IsSome, IsTrue}
use Rattle.std.specs.Option.{option_map_or}
use Rattle.std.proofs.lemmas.Option.{get_or_from_slice_get, slice_get-get_or}
use Rattle.ns_base.specs.declared.place.Place.{Place as SourcePlace}
use Rattle.ns_code.specs.declared.program.CodeProgram.{CodeProgram}
use Rattle.ns_code.specs.declared.body.BodyCode.{BodyCode}
use Rattle.ns_code.specs.declared.instruction.Instr.{Instr}
use Rattle.ns_code.specs.declared.instruction.Instr.TheVariants as i
use Rattle.ns_code.specs.Soundness.{block_kind}
use Rattle.ns_code.specs.Table.{leaves, goes_on}
use Rattle.ns_facets.specs.declared.row.Grants.{Grants}
use Rattle.ns_world.specs.declared.value.Value.{Value}
use Rattle.ns_verify.specs.Heights.{heights}
use Rattle.ns_verify.specs.Verify.{IsSound}
use Rattle.ns_verify.specs.Places.{height_before, HeightsAgree}
use Rattle.ns_moves.specs.Control.{Progress}
use Rattle.ns_moves.specs.State as state
use Rattle.ns_moves.specs.State.{Phase, Going, Pending, Pends}
use Rattle.ns_moves.specs.Steps.{PlacedInstr, steps_from}
use Rattle.ns_moves.specs.ValidFrames.{Awaited, Nothing, SendValue, BlockValue, PartEnd, is_send, WaitsBehind, FrameIsValid, FramesAreValid, awaited_below, awaited_for, next_number}
use Rattle.ns_moves.specs.Fitting.{kind_of}
use Rattle.ns_moves.specs.Valid.{Valid}
use Rattle.ns_machine_frames.specs.declared.frame.Activation.{Activation}
use Rattle.ns_machine_frames.specs.declared.frame.Leaving.{Leaving}
use Rattle.ns_machine_frames.specs.declared.frame.Leaving.TheVariants.{Method, Body, Clause, Part}
use Rattle.ns_machine_frames.specs.declared.frame.Frame.{Frame}
use Rattle.ns_machine_frames.specs.declared.frame.Frame.TheVariants.{Running, Looping}
use Rattle.ns_machine_frames.specs.declared.frame.RunningFrame.{RunningFrame}
use Rattle.ns_machine_frames.specs.Standing.{Stood, Runs, Loops, standing, at_next}
use Rattle.ns_machine_frames.specs.View.{leaving_shown, activation_shown, frame_shown, frames_shown}
use Rattle.ns_machine_frames.specs.laws.Counts.{many_shown}
use Rattle.ns_moves.specs.Bodies.{height_in}
use Rattle.ns_machine_core.specs.Framed.{HasRoomOnTop, answers, AnswersHaveRoom, AreFramed}

-- ---- sends that wait

-- a send goes on, and leaves one value
send_goes : (instr : Instr) → IsTrue (is_send instr) → (goes_on instr ≡ true) × (leaves instr ≡ 1)
send_goes (i.Send sel argc) is = (refl, refl)
send_goes (i.SendInner sel argc) is = (refl, refl)
send_goes (i.SendPrivate level sel argc) is = (refl, refl)
send_goes (i.SendSuper sel argc) is = (refl, refl)
send_goes _ is = absurd (cc)

-- what is known of the heights of sound code
pub record HeightsKnown (code : CodeProgram) : Type 0 where
  pub heights : (body : BodyCode) (at : ℕ) (instr : Instr) → slice_get body.instrs at ≡ Some instr → slice_get (heights body) at ≡ Some (height_before body at)
  pub agree : (number at : ℕ) (body : BodyCode) (instr : Instr) → IsSound code → slice_get code.bodies number ≡ Some body
      → slice_get body.instrs at ≡ Some instr → HeightsAgree body at instr

module _ (code : CodeProgram) (known : HeightsKnown code) (sound : IsSound code) where
  -- a body that waits behind a send has room for its value
  behind_send : (body : ℕ) (b : BodyCode) (number count : ℕ) → slice_get code.bodies body ≡ Some b → WaitsBehind b number count is_send → count < b.height
  behind_send body b zero count there waits = absurd waits
  behind_send body b (suc number) count there waits = by_instr (slice_get b.instrs number) refl waits.0
    where
      by_instr : (o : Option Instr) → slice_get b.instrs number ≡ o → IsSome o → count < b.height
      by_instr None e some = absurd (cc)
      by_instr (Some instr) e some =
          let waited = waits.1 instr e in
          let sent = send_goes instr waited.0 in
          let own = known.agree body number b instr sound there e in
          let height = get_or_from_slice_get (heights b) number (height_before b number) 0 (known.heights b number instr e) in
          let later : slice_get b.instrs (number + 1) ≡ Some (get_or b.instrs (number + 1) i.Pop) = slice_get-get_or b.instrs (number + 1) i.Pop (own.next_there sent.0) in
          let within = (known.agree body (number + 1) b (get_or b.instrs (number + 1) i.Pop) sound there later).within in
          let after = own.next sent.0 in
          let one = sent.1 in
          let is = waited.1 in
          omega (arith, height, within, after, one, is)

  -- the body is there
  there_is : {A : Type 0} (o : Option A) → IsSome o → (a : A) × (o ≡ Some a)
  there_is {A = A} None some = absurd (cc)
  there_is {A = A} (Some a) some = (a, refl)

  height_is : (body : ℕ) (b : BodyCode) → slice_get code.bodies body ≡ Some b → b.height ≡ height_in code body
  height_is body b there = sym (ap (λ o. option_map_or (λ (b : BodyCode). b.height) o 0) there)

  -- ---- frames

  module _ (places : List SourcePlace) (p : Progress) where
    on_top : (frame : RunningFrame) (locals stack : List Value) → IsSome (slice_get code.bodies frame.activation.body)
        → ((b : BodyCode) → slice_get code.bodies frame.activation.body ≡ Some b
        → WaitsBehind b (next_number code frame.activation.body (steps_from code frame.activation.body frame.next)) (length stack) is_send)
        → length stack < height_in code frame.activation.body
    on_top frame locals stack some waits =
        let b = there_is (slice_get code.bodies frame.activation.body) some in
        let few = behind_send frame.activation.body b.0 (next_number code frame.activation.body (steps_from code frame.activation.body frame.next)) (length stack) b.1 (waits b.0 b.1) in
        let same = height_is frame.activation.body b.0 b.1 in
        omega (arith, few, same)

    room_for_send : (stood : List Stood) → FramesAreValid code p SendValue (frames_shown code places stood) → HasRoomOnTop code stood
    room_for_send [] valid = tt
    room_for_send (Loops frame ∷ stood) valid = tt
    room_for_send (Runs frame locals stack ∷ stood) valid = on_top frame locals stack valid.0.fits.there valid.0.stands

    room_for_block : (stood : List Stood) → FramesAreValid code p BlockValue (frames_shown code places stood) → HasRoomOnTop code stood
    room_for_block [] valid = tt
    room_for_block (Loops frame ∷ stood) valid = tt
    room_for_block (Runs frame locals stack ∷ stood) valid = on_top frame locals stack valid.0.fits.there valid.0.stands

    room_for : (b : Bool) (stood : List Stood) → FramesAreValid code p (if b then BlockValue else SendValue) (frames_shown code places stood)
        → HasRoomOnTop code stood
    room_for true stood valid = room_for_block stood valid
    room_for false stood valid = room_for_send stood valid

    room_below : (leaving : Leaving) (activation : Activation) (locals stack : List Value) (rest : List PlacedInstr) (stood : List Stood) → answers leaving ≡ true
        → FramesAreValid code p (awaited_below code (state.Running (leaving_shown leaving activation) (activation_shown places activation) locals rest stack))
        (frames_shown code places stood) → HasRoomOnTop code stood
    room_below Method activation locals stack rest stood e valid = room_for (kind_of code activation.body == block_kind) stood valid
    room_below Body activation locals stack rest stood e valid = room_for (kind_of code activation.body == block_kind) stood valid
    room_below (Clause class) activation locals stack rest stood e valid = room_for (kind_of code activation.body == block_kind) stood valid
    room_below Part activation locals stack rest stood e valid = absurd (cc)

    -- a frame and those below it, whatever the topmost awaits
    apart : (awaited : Awaited) (frame : state.Frame) (frames : List state.Frame) → FramesAreValid code p awaited (frame ∷ frames)
        → FrameIsValid code p awaited frame × FramesAreValid code p (awaited_below code frame) frames
    apart Nothing frame frames valid = valid
    apart SendValue frame frames valid = valid
    apart BlockValue frame frames valid = valid
    apart PartEnd frame frames valid = valid

    pub rooms : (awaited : Awaited) (stood : List Stood) → FramesAreValid code p awaited (frames_shown code places stood) → AnswersHaveRoom code stood
    rooms awaited [] valid = tt
    rooms awaited (Loops frame ∷ stood) valid =
        let all = apart awaited (frame_shown code places (Loops frame)) (frames_shown code places stood) valid in
        (room_for_send stood all.1, rooms SendValue stood all.1)
    rooms awaited (Runs frame locals stack ∷ stood) valid =
        let all = apart awaited (frame_shown code places (Runs frame locals stack)) (frames_shown code places stood) valid in (
          λ e. room_below frame.leaving frame.activation locals stack (steps_from code frame.activation.body frame.next) stood e all.1,
          rooms (awaited_below code (frame_shown code places (Runs frame locals stack))) stood all.1,
        )

pub valid_framed : (code : CodeProgram) → HeightsKnown code →
    (grants : Grants) (places : List SourcePlace) (phase : Phase) (stood : List Stood) (p : Progress)
    → Valid code grants (Going phase (frames_shown code places stood) p) → AreFramed code stood p
valid_framed code known grants places phase stood p valid = record {
  depth = valid.0.depth ∙ many_shown code places stood;
  rooms = rooms code known valid.0.world.sound places p Nothing stood valid.2;
}

-- where a send waits, its answer has room
pub waiting_room : (code : CodeProgram) → HeightsKnown code →
    (grants : Grants) (places : List SourcePlace) (phase : Phase) (pending : Pending) (stood : List Stood) (p : Progress)
    → awaited_for pending ≡ SendValue → Valid code grants (Pends phase pending (frames_shown code places stood) p) → HasRoomOnTop code stood
waiting_room code known grants places phase pending stood p e valid =
    room_for_send code known valid.0.world.sound places p stood
    (subst (λ (awaited : Awaited). FramesAreValid code p awaited (frames_shown code places stood)) e valid.2)

-- the next instruction of the topmost has no part in this
pub framed_behind : (code : CodeProgram) (next other : ℕ) (frames : List Frame) (values : List Value) (p : Progress)
    → AreFramed code (standing (at_next next frames) values) p → AreFramed code (standing (at_next other frames) values) p
framed_behind code next other [] values p framed = framed
framed_behind code next other (Running frame ∷ frames) values p framed = record { depth = framed.depth; rooms = framed.rooms }
framed_behind code next other (Looping frame ∷ frames) values p framed = framed
