-- What a method of the kernel that is topmost is sure of.
use Rattle.std.proofs.Common.{◌≡◌, ℕ, suc, ◌+◌, ◌≤◌, List, [], ◌∷◌, length, take, ap, sym, ◌∙◌, subst, arith}
use Rattle.ns_base.specs.declared.place.Place.{Place as SourcePlace}
use Rattle.ns_code.specs.declared.program.CodeProgram.{CodeProgram}
use Rattle.ns_facets.specs.declared.row.Grants.{Grants}
use Rattle.ns_moves.specs.Control.{Progress}
use Rattle.ns_moves.specs.Lawful.{LiveState}
use Rattle.ns_moves.specs.State.{Phase, Going}
use Rattle.ns_moves.specs.Valid.{Valid}
use Rattle.ns_machine_frames.specs.declared.frame.Frame.{Frame}
use Rattle.ns_machine_frames.specs.declared.frame.Frame.TheVariants.{Running, Looping}
use Rattle.ns_machine_frames.specs.declared.frame.LoopingFrame.{LoopingFrame}
use Rattle.ns_machine_frames.specs.declared.registers.Registers.{Registers}
use Rattle.ns_machine_frames.specs.Standing.{Stood, Loops, standing, at_next, below}
use Rattle.ns_machine_frames.specs.Stack.{stood}
use Rattle.ns_machine_frames.specs.Room.{FramesFitWithin, bound, DepthGivesRoom}
use Rattle.ns_machine_frames.specs.View.{frames_shown}
use Rattle.ns_machine_frames.specs.laws.Counts.{many_stand}
use Rattle.ns_machine_core.specs.declared.state.Core.{Core}
use Rattle.ns_machine_core.specs.declared.state.Next.TheVariants as next
use Rattle.ns_machine_core.specs.Shown.{phase_shown, progress_in}
use Rattle.ns_moves.specs.Bodies.{height_in, greatest_of}
use Rattle.ns_machine_core.specs.Framed.{HasRoomOnTop, AreFramed}
use Rattle.ns_machine_core.specs.Ready.{MachineIsReady}
use Rattle.ns_machine_returns.specs.Acting.{IsActing, IsLooping, CanAct}

pub acting_loops : (code : CodeProgram) (core : Core) (at : Registers) → CanAct code core at → IsLooping core.stack.frames.items
acting_loops code core at can = by_frames core.stack.frames.items can.acting
  where
    by_frames : (frames : List Frame) → IsActing core.run.world.world.cells code frames → IsLooping frames
    by_frames [] acting = acting
    by_frames (Running frame ∷ frames) acting = acting
    by_frames (Looping frame ∷ frames) acting = tt

-- What it is sure of, by its frame.
pub record Sure (code : CodeProgram) (core : Core) (at : Registers) (looping : LoopingFrame) : Type 0 where
  pub live : LiveState core.run.world.world.cells code looping.state
  pub depth : core.run.world.world.depth ≡ suc (length (below core.stack.frames.items))
  pub room : HasRoomOnTop code (below (stood core.stack at))
  pub reach : looping.floor ≤ greatest_of code.bodies + bound (greatest_of code.bodies) (below core.stack.frames.items)
  pub stood_is : stood core.stack at ≡ Loops looping ∷ below (stood core.stack at)

pub sure : (code : CodeProgram) (core : Core) (at : Registers) (looping : LoopingFrame) → CanAct code core at
    → core.stack.frames.items ≡ Looping looping ∷ below core.stack.frames.items → Sure code core at looping
sure code core at looping can top =
    let live = subst (IsActing core.run.world.world.cells code) top can.acting in
    let framed = subst (λ (frames : List Frame). AreFramed code (standing (at_next at.next frames) (take at.top core.stack.values.items)) (progress_in core)) top can.framed in
    let within = subst (FramesFitWithin (height_in code) (greatest_of code.bodies) (length core.stack.values.items)) top can.stands.frames.within in
    let stood_is = ap (λ (frames : List Frame). standing (at_next at.next frames) (take at.top core.stack.values.items)) top in
    record {
      live = live;
      depth = framed.depth ∙ ap suc (many_stand (below core.stack.frames.items) (take looping.floor (take at.top core.stack.values.items)));
      room = subst (λ (s : List Stood). HasRoomOnTop code (below s)) (sym stood_is) framed.rooms.0;
      reach = within.1;
      stood_is = stood_is ∙ ap (λ (s : List Stood). Loops looping ∷ below s) (sym stood_is);
    }

-- there is room for an argument
pub argument_fits : ((greatest : ℕ) → DepthGivesRoom greatest) →
    (code : CodeProgram) (core : Core) (at : Registers) (looping : LoopingFrame) → CanAct code core at
    → core.stack.frames.items ≡ Looping looping ∷ below core.stack.frames.items → looping.floor + 1 ≤ core.stack.values.room
argument_fits law code core at looping can top =
    let known = sure code core at looping can top in
    let depth = known.depth in
    let reach = known.reach in
    let limit = can.lawful.within.depth in
    let room = can.stands.rooms.values in
    let all = law (greatest_of code.bodies) core.run.world.world.limits.depth (bound (greatest_of code.bodies) (below core.stack.frames.items)) (greatest_of code.bodies)
    (below core.stack.frames.items) (omega (arith, depth, limit)) (omega arith) (omega arith) in
    omega (arith, reach, room, all)

-- ---- at every moment

pub ready_acts : ((code : CodeProgram) (grants : Grants) (places : List SourcePlace) (phase : Phase) (s : List Stood) (p : Progress)
    → Valid code grants (Going phase (frames_shown code places s) p) → AreFramed code s p)
    → (code : CodeProgram) (grants : Grants) (core : Core) (at : Registers) (looping : LoopingFrame) → MachineIsReady code grants core (next.On at)
    → core.stack.frames.items ≡ Looping looping ∷ below core.stack.frames.items → CanAct code core at
ready_acts law code grants core at looping ready top = record {
  stands = record { rooms = ready.rooms; frames = ready.stand };
  framed = law code grants core.places (phase_shown core.phase) (stood core.stack at) (progress_in core) ready.valid;
  acting = subst (IsActing core.run.world.world.cells code) (sym top)
      (subst (λ (frames : List Frame). Valid code grants (Going (phase_shown core.phase)
      (frames_shown code core.places (standing (at_next at.next frames) (take at.top core.stack.values.items))) (progress_in core))) top ready.valid).2.0.live;
  lawful = ready.valid.0.world.lawful;
  kept = ready.kept;
}
