-- Values that come to what stands on top.
use Rattle.std.proofs.Common.{◌≡◌, ℕ, ◌<◌, List, [], ◌∷◌, length, take, drop, reverse, refl, ap, sym, ◌∙◌, subst, arith, Ok, Err}
use Rattle.ns_base.specs.declared.place.Place.{Place as SourcePlace}
use Rattle.ns_code.specs.declared.program.CodeProgram.{CodeProgram}
use Rattle.ns_world.specs.declared.value.Value.{Value}
use Rattle.ns_world.specs.declared.ending.Fault.{Fault}
use Rattle.ns_moves.specs.Site.{fault_ending}
use Rattle.ns_moves.specs.State.{Phase, Going}
use Rattle.ns_moves.specs.Returns as returns
use Rattle.ns_machine_frames.specs.declared.frame.Frame.{Frame}
use Rattle.ns_machine_frames.specs.declared.frame.Frame.TheVariants.{Running, Looping}
use Rattle.ns_machine_frames.specs.declared.frame.KeptSite.{KeptSite}
use Rattle.ns_machine_frames.specs.declared.registers.Registers.{Registers}
use Rattle.ns_machine_frames.specs.declared.stack.Stack.{Stack}
use Rattle.ns_machine_frames.specs.Row.{FrameRow}
use Rattle.ns_machine_frames.specs.Standing.{Stood, standing, at_next, AreLaid}
use Rattle.ns_machine_frames.specs.Stack.{stood, IsLaid, KeepsRoom}
use Rattle.ns_machine_frames.specs.Leaving.{delivered, with_answer, HasPlace}
use Rattle.ns_machine_frames.specs.Stated.{ValueIsDelivered}
use Rattle.ns_machine_frames.specs.Room.{FramesFitWithin}
use Rattle.ns_machine_frames.specs.View.{site_shown, frames_shown}
use Rattle.ns_machine_frames.specs.laws.Room.{within_more, within_answer}
use Rattle.ns_machine_core.specs.declared.state.Core.{Core}
use Rattle.ns_machine_core.specs.declared.state.Next.{Next}
use Rattle.ns_machine_core.specs.declared.state.Next.TheVariants as next
use Rattle.ns_machine_core.specs.Shown.{phase_shown, progress_in}
use Rattle.ns_moves.specs.Bodies.{height_in, greatest_of}
use Rattle.ns_machine_core.specs.Framed.{HasRoomOnTop}
use Rattle.ns_machine_core.specs.Doing.{IsSettled}
use Rattle.ns_machine_core.specs.laws.Pushed.{stack_stays, ended_stays, operands_count}
use Rattle.ns_machine_returns.specs.Handing.{CanTake, IsHanded}

-- ---- a fault

pub ended : (code : CodeProgram) (core : Core) (at : Registers) (site : KeptSite) (fault : Fault)
    → IsSettled code core at site (Err fault) (record core { ending = fault_ending fault (site_shown core.places site) }) next.Ended
ended code core at site fault =
    record { state = refl; stand = tt; run = refl; stays = ended_stays core (fault_ending fault (site_shown core.places site)) }

pub given : (code : CodeProgram) (old new : Core) (at : Registers) (site : KeptSite) (value : Value) (n : Next) →
    IsHanded code old at value new n
    → IsSettled code old at site (Ok value) new n
given code old new at site value n is = record { state = is.state; stand = is.stand; run = is.run; stays = is.stays }

-- ---- whether a frame is left

pub none_left : (frames : List Frame) → length frames ≡ 0 → frames ≡ []
none_left [] e = refl
none_left (frame ∷ frames) e = absurd (omega (arith, e))

pub some_left : (frames : List Frame) (n : ℕ) → n ≡ length frames → 0 < n → 0 < length frames
some_left frames n e low = omega (arith, e, low)

-- ---- what stands within what is filled

-- a body on top with room for a value has a place for it
pub has_place : (code : CodeProgram) (core : Core) (at : Registers) → CanTake code core at →
    HasPlace core.stack.frames.items at.top (length core.stack.values.items)
has_place code core at can = by_frames core.stack.frames.items can.stands.frames.laid.frames can.stands.frames.within can.room
  where
    by_frames : (frames : List Frame) → AreLaid frames at.top → FramesFitWithin (height_in code) (greatest_of code.bodies) (length core.stack.values.items) frames
        → HasRoomOnTop code (standing (at_next at.next frames) (take at.top core.stack.values.items)) → HasPlace frames at.top (length core.stack.values.items)
    by_frames [] laid within room = tt
    by_frames (Looping frame ∷ frames) laid within room = tt
    by_frames (Running frame ∷ frames) laid within room =
        let count = operands_count frame.operands at.top core.stack.values.items can.stands.frames.laid.filled in
        let few : length (reverse (drop frame.operands (take at.top core.stack.values.items))) < height_in code frame.activation.body = room in
        let low = laid.2 in
        let reach = within.0 in
        omega (arith, count, few, low, reach)

-- ---- a value that was delivered

-- some frame stands
stood_some : (next : ℕ) (frames : List Frame) (values : List Value) → 0 < length frames
    → (one : Stood) × (others : List Stood) × (standing (at_next next frames) values ≡ one ∷ others)
stood_some next [] values some = absurd (omega (arith, some))
stood_some next (Running frame ∷ frames) values some = (_, _, refl)
stood_some next (Looping frame ∷ frames) values some = (_, _, refl)

pub handed : ((code : CodeProgram) (places : List SourcePlace) (phase : Phase) → ValueIsDelivered code places phase)
    → (code : CodeProgram) (core : Core) (at to : Registers) (stack : Stack) (value : Value) → CanTake code core at → 0 < length core.stack.frames.items
    → stood stack to ≡ delivered value (stood core.stack at) → IsLaid stack to
    → stack.frames ≡ record core.stack.frames { items = with_answer value core.stack.frames.items } → KeepsRoom core.stack stack
    → IsHanded code core at value (record core { stack = stack }) (next.On to)
handed is_delivered code core at to stack value can some is laid frames room = record {
  state =
      let top = stood_some at.next core.stack.frames.items (take at.top core.stack.values.items) some in
      ap (λ (s : List Stood). Going (phase_shown core.phase) (frames_shown code core.places s) (progress_in core)) (is ∙ ap (delivered value) top.2)
      ∙ (sym (is_delivered code core.places (phase_shown core.phase) value top.0 top.1 (progress_in core))
      ∙ ap (λ (s : List Stood). returns.delivered code (phase_shown core.phase) value (frames_shown code core.places s) (progress_in core)) (sym top.2));
  stand = record {
    laid = laid;
    within = subst (λ (row : FrameRow). FramesFitWithin (height_in code) (greatest_of code.bodies) (length stack.values.items) row.items) (sym frames)
        (within_more (height_in code) (greatest_of code.bodies) (length core.stack.values.items) (length stack.values.items) (with_answer value core.stack.frames.items)
        room.filled
        (within_answer (height_in code) (greatest_of code.bodies) (length core.stack.values.items) value core.stack.frames.items can.stands.frames.within));
  };
  run = refl;
  stays = stack_stays core stack room.values room.frames;
}
