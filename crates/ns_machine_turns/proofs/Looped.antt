-- The method of the kernel whose frame is topmost.
use Rattle.std.proofs.Common.{◌≡◌, ◌<◌, ◌≤◌, ℕ, List, [], ◌∷◌, length, refl, ap, subst, sym, ◌∙◌, arith}
use Rattle.ns_code.specs.declared.program.CodeProgram.{CodeProgram}
use Rattle.ns_facets.specs.declared.row.Grants.{Grants}
use Rattle.ns_world.specs.declared.kernel_parts.KMethod.{KMethod}
use Rattle.ns_world.specs.declared.value.Value.{Value}
use Rattle.ns_world.specs.declared.value.Value.TheVariants.{Ref}
use Rattle.ns_machine_frames.specs.declared.frame.Frame.{Frame}
use Rattle.ns_machine_frames.specs.declared.frame.Frame.TheVariants.{Running, Looping}
use Rattle.ns_machine_frames.specs.declared.frame.LoopingFrame.{LoopingFrame}
use Rattle.ns_machine_frames.specs.declared.frame.Pending.TheVariants.{Evaluating}
use Rattle.ns_machine_frames.specs.declared.registers.Registers.{Registers}
use Rattle.ns_machine_frames.specs.Standing.{below}
use Rattle.ns_machine_plan.specs.declared.plan.Plan.{Plan}
use Rattle.ns_machine_core.specs.declared.own.OwnSends.{OwnSends}
use Rattle.ns_machine_core.specs.declared.state.Core.{Core}
use Rattle.ns_machine_core.specs.declared.state.Next.{Next}
use Rattle.ns_machine_core.specs.declared.state.Next.TheVariants.{On, Waits}
use Rattle.ns_machine_core.specs.Ready.{MachineIsReady, MakesMove}
use Rattle.ns_machine_returns.specs.Acting.{CanAct, IsLooping, IsTopmost, ReadyCanAct, awaiting}
use Rattle.ns_machine_sends.specs.declared.sent.Sent.{Sent}
use Rattle.ns_machine_sends.specs.Waiting.{BlockWaits, with_block}
use Rattle.ns_machine_turns.specs.declared.acting.Acted.{Acted}
use Rattle.ns_machine_turns.specs.declared.acting.Acted.TheVariants.{Evaluates, Goes}
use Rattle.ns_machine_turns.specs.Looping.{ActsTo, BlockStands, ComesToWait, HasActed, LoopsBy, sent_by}
use Rattle.ns_machine_turns.specs.Turning.{ChargesAtMost, GoesAlong, HasGone, HasGoneOnce, MovesChargeOne, MovesGoAlong}

-- It is the method of that frame,
pub loops_by : (frames others : List Frame) (frame : LoopingFrame) (method : KMethod) → frames ≡ Looping frame ∷ others → frame.method ≡ method → LoopsBy method frames
loops_by frames others frame method top is = subst (LoopsBy method) (sym top) is

-- and so some method's.
pub by_loops : (frames : List Frame) (method : KMethod) → LoopsBy method frames → IsLooping frames
by_loops [] method loops = absurd loops
by_loops (Running frame ∷ frames) method loops = absurd loops
by_loops (Looping frame ∷ frames) method loops = tt

-- The frame with that method is the frame.
pub looping_by : (frames others : List Frame) (frame : LoopingFrame) (method : KMethod) → frames ≡ Looping frame ∷ others → LoopsBy method frames
    → frames ≡ Looping (record frame { method = method }) ∷ others
looping_by frames others frame method top loops = on (subst (LoopsBy method) top loops)
  where
    on : frame.method ≡ method → frames ≡ Looping (record frame { method = method }) ∷ others
    on is = subst (λ (m : KMethod). frames ≡ Looping (record frame { method = m }) ∷ others) is top

-- At every moment at which it is topmost it can act.
pub loops_act : (code : CodeProgram) (grants : Grants) (core : Core) (at : Registers) (method : KMethod) → ReadyCanAct code grants
    → MachineIsReady code grants core (On at) → LoopsBy method core.stack.frames.items → CanAct code core at
loops_act code grants core at method can ready loops = by_frames core.stack.frames.items refl loops
  where
    by_frames : (frames : List Frame) → core.stack.frames.items ≡ frames → LoopsBy method frames → CanAct code core at
    by_frames [] e loops = absurd loops
    by_frames (Running frame ∷ frames) e loops = absurd loops
    by_frames (Looping frame ∷ frames) e loops =
        can core at frame ready (e ∙ ap (λ (all : List Frame). Looping frame ∷ below all) (sym e))

-- ---- what its next action comes to

module _ (code : CodeProgram) (law : MovesGoAlong code) (one : MovesChargeOne code) (plan : Plan) (sends : OwnSends) (left : ℕ) (first core new : Core)
    (began from : Registers) (along : GoesAlong code plan sends left first (On began) core (On from))
    (free : core.run.world.world.steps ≡ first.run.world.world.steps) (some : 1 ≤ left) where
  -- A move from where others have led that charged nothing leads on, and charges one step at most.
  once_more : (after : Core) (next : Next) → MakesMove code core (On from) after next → HasGoneOnce code plan sends left first (On began) after next
  once_more after next moved = (
    law plan sends left first core after (On began) (On from) next along refl refl (omega (arith, some, free)) moved,
    let few = one plan sends core after (On from) next along.runs refl moved in omega (arith, few, free),
  )

  -- So does that action.
  pub acts_along : (to : Acted) → ActsTo code left core from new to → HasActed code plan sends left first began new to
  acts_along (Evaluates next top base cell) waits =
      let above : Registers = record { next = next; top = top; base = base } in
      let once : HasGoneOnce code plan sends left first (On began) (awaiting waits.looping (Ref cell) new) (Waits above) =
      once_more (awaiting waits.looping (Ref cell) new) (Waits above) waits.moves in
      let few = once.1 in
      let two = waits.some in
      record { looping = waits.looping; along = once.0.along; few = omega (arith, few, two); one = few; top = waits.top; place = waits.place }
  acts_along (Goes next) moved = once_more new next moved

-- ---- where it waits for a block

-- A frame with the site and the floor of that method is a method's,
pub topmost_loops : (looping : LoopingFrame) (frames : List Frame) → IsTopmost looping frames → IsLooping frames
topmost_loops looping [] is = absurd is
topmost_loops looping (Running frame ∷ frames) is = absurd is
topmost_loops looping (Looping frame ∷ frames) is = tt

-- which evaluates as that one does.
pub topmost_sends : (looping frame : LoopingFrame) (frames others : List Frame) → frames ≡ Looping frame ∷ others → IsTopmost looping frames
    → sent_by looping ≡ sent_by frame
topmost_sends looping frame frames others top is = on (subst (IsTopmost looping) top is)
  where
    on : IsTopmost looping (Looping frame ∷ others) → sent_by looping ≡ sent_by frame
    on same = rw (sym same.0, sym same.1) refl

module _ (code : CodeProgram) (core : Core) (at : Registers) (looping frame : LoopingFrame) (cell : ℕ) (stands : BlockStands code core at looping cell)
    (same : sent_by looping ≡ sent_by frame) where
  -- Its evaluation waits on the values of the frame that is there, with a place for its value,
  pub frame_waits : BlockWaits code stands.grants (with_block (sent_by frame) (Ref cell) core) at (sent_by frame) (Ref cell)
  frame_waits = subst (λ (s : Sent). BlockWaits code stands.grants (with_block s (Ref cell) core) at s (Ref cell)) same stands.waits

  pub frame_place : frame.floor < length core.stack.values.items
  frame_place = subst (λ (s : Sent). s.floor < length core.stack.values.items) same stands.place

  -- and a move from there is one from where the method waits.
  pub frame_moves : (new : Core) (next : Next) → MakesMove code (with_block (sent_by frame) (Ref cell) core) (Waits at) new next
      → MakesMove code (awaiting looping (Ref cell) core) (Waits at) new next
  frame_moves new next is = subst (λ (s : Sent). MakesMove code (with_block s (Ref cell) core) (Waits at) new next) (sym same) is

-- What waits for it waits for that one.
pub topmost_awaits : (looping frame : LoopingFrame) (frames others : List Frame) (block : Value) (core : Core) → frames ≡ Looping frame ∷ others
    → IsTopmost looping frames → awaiting looping block core ≡ awaiting frame block core
topmost_awaits looping frame frames others block core top is =
    ap (λ (s : Sent). record core { waiting = Evaluating block s.site s.floor s.first }) (topmost_sends looping frame frames others top is)

-- It waits for a block where the run has gone on to there.
pub block_stands : (code : CodeProgram) (plan : Plan) (sends : OwnSends) (left : ℕ) (old : Core) (from : Next) (core : Core)
    (at : Registers) (looping : LoopingFrame) (block : Value) (cell : ℕ) → block ≡ Ref cell → GoesAlong code plan sends left old from (awaiting looping block core) (Waits at) → IsTopmost looping core.stack.frames.items
    → looping.floor < length core.stack.values.items → BlockStands code core at looping cell
block_stands code plan sends left old from core at looping block cell is along top place =
    let here = subst (λ (v : Value). GoesAlong code plan sends left old from (awaiting looping v core) (Waits at)) is along in
    record { grants = here.runs.can.grants; top = top; waits = record { is = refl; ready = here.runs.can.ready }; place = place }

-- Where it has come to wait, and its block was evaluated, two moves have led on, and charge two steps at most.
module _ (code : CodeProgram) (law : MovesGoAlong code) (one : MovesChargeOne code) (plan : Plan) (sends : OwnSends) (left : ℕ) (old mid new : Core)
    (from at : Registers) (cell : ℕ) (next : Next) (waits : ComesToWait code plan sends left old from mid at cell)
    (moved : MakesMove code (awaiting waits.looping (Ref cell) mid) (Waits at) new next) where
  pub evaluated_gone : HasGone code plan sends left old (On from) new next
  evaluated_gone = law plan sends left old (awaiting waits.looping (Ref cell) mid) new (On from) (Waits at) next waits.along refl refl waits.few moved

  pub evaluated_few : ChargesAtMost 2 old new
  evaluated_few =
      let first = waits.one in
      let second = one plan sends (awaiting waits.looping (Ref cell) mid) new (Waits at) next waits.along.runs refl moved in
      omega (arith, first, second)
