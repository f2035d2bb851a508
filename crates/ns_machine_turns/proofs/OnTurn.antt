-- A turn of `to:do:`: the two frames on top, the state to which the block returns, and what the method does next.
use Rattle.std.proofs.Common.{◌≡◌, ℕ, suc, ◌+◌, ◌≤◌, List, [], ◌∷◌, length, take, refl, ap, ◌∙◌, subst, arith, Option, true, false}
use Rattle.std.specs.Prelude.{◌<◌}
use Rattle.ns_base.specs.declared.place.Place.{Place as SourcePlace}
use Rattle.ns_code.specs.declared.instruction.Instr.TheVariants as instr
use Rattle.ns_code.specs.declared.program.CodeProgram.{CodeProgram}
use Rattle.ns_facets.specs.declared.row.Grants.{Grants}
use Rattle.ns_world.specs.laws.Chains.{both_of}
use Rattle.ns_world.specs.declared.kernel_parts.KMethod.{KMethod}
use Rattle.ns_world.specs.declared.kernel_parts.KMethod.TheVariants as method
use Rattle.ns_world.specs.declared.value.Value.{Value}
use Rattle.ns_kcode.specs.declared.state.KState.{KState}
use Rattle.ns_kcode.specs.declared.state.KAction.{KAction}
use Rattle.ns_kcode.specs.declared.state.KAction.TheVariants as action
use Rattle.ns_kcode.specs.Next.{to_do_next}
use Rattle.ns_moves.specs.declared.site.Site.{Site}
use Rattle.ns_moves.specs.Blocks.{acted, method_next, taken}
use Rattle.ns_moves.specs.Control.{Progress, frame_left}
use Rattle.ns_moves.specs.Instructions.{executed}
use Rattle.ns_moves.specs.Lawful.{LiveState}
use Rattle.ns_moves.specs.Move.{move}
use Rattle.ns_moves.specs.Returns.{returned}
use Rattle.ns_moves.specs.State as state
use Rattle.ns_moves.specs.State.{State, Going}
use Rattle.ns_moves.specs.Steps.{steps_from}
use Rattle.ns_moves.specs.Valid.{Valid}
use Rattle.ns_moves.specs.ValidFrames.{awaited_below, LoopingIsValid}
use Rattle.ns_moves.specs.laws.Frames.{first_valid}
use Rattle.ns_machine_frames.specs.declared.frame.Frame.{Frame}
use Rattle.ns_machine_frames.specs.declared.frame.Frame.TheVariants.{Running, Looping}
use Rattle.ns_machine_frames.specs.declared.frame.Leaving.{Leaving}
use Rattle.ns_machine_frames.specs.declared.frame.Leaving.TheVariants.{Method, Body, Clause, Part}
use Rattle.ns_machine_frames.specs.declared.frame.LoopingFrame.{LoopingFrame}
use Rattle.ns_machine_frames.specs.declared.frame.RunningFrame.{RunningFrame}
use Rattle.ns_machine_frames.specs.declared.registers.Registers.{Registers}
use Rattle.ns_machine_frames.specs.Leaving.{answered}
use Rattle.ns_machine_frames.specs.Stack.{in_use, stood}
use Rattle.ns_machine_frames.specs.Standing.{Stood, Runs, Loops, standing, at_next}
use Rattle.ns_machine_frames.specs.View.{site_shown, leaving_shown, activation_shown, frames_shown}
use Rattle.ns_machine_plan.specs.declared.packed.Packed.{Packed}
use Rattle.ns_machine_plan.specs.declared.packed.Packed.TheVariants as packed
use Rattle.ns_machine_core.specs.declared.state.Core.{Core}
use Rattle.ns_machine_core.specs.declared.state.Next.TheVariants.{On}
use Rattle.ns_machine_core.specs.Doing.{done, Finds}
use Rattle.ns_machine_core.specs.Moving.{IsNextStep}
use Rattle.ns_machine_core.specs.Shown.{phase_shown, progress_in, shown}
use Rattle.ns_machine_turns.specs.Repeating.{ends_body, repeats, is_return, is_turn}
use Rattle.ns_machine_turns.proofs.Fetched.{locals_at, operands_at}

-- ---- the step

pub returning : (step : Packed) → is_return step ≡ true → step ≡ packed.Return
returning packed.PushNil e = absurd (cc)
returning packed.PushTrue e = absurd (cc)
returning packed.PushFalse e = absurd (cc)
returning (packed.PushShort number) e = absurd (cc)
returning (packed.PushLong at) e = absurd (cc)
returning (packed.PushSym sel) e = absurd (cc)
returning (packed.PushText text) e = absurd (cc)
returning packed.PushSelf e = absurd (cc)
returning (packed.PushOuter level) e = absurd (cc)
returning (packed.PushLocal hops index) e = absurd (cc)
returning (packed.StoreLocal hops index) e = absurd (cc)
returning (packed.PushBlock block) e = absurd (cc)
returning (packed.MakeArray count) e = absurd (cc)
returning packed.Pop e = absurd (cc)
returning (packed.Pick number) e = absurd (cc)
returning (packed.Send at) e = absurd (cc)
returning (packed.SendInteger row at) e = absurd (cc)
returning (packed.SendBoolean named at) e = absurd (cc)
returning (packed.SendArray row at) e = absurd (cc)
returning (packed.SendPrivate at) e = absurd (cc)
returning (packed.SendSuper at) e = absurd (cc)
returning (packed.InitSuper argc place) e = absurd (cc)
returning (packed.StoreSlot slot) e = absurd (cc)
returning packed.Return e = refl
returning packed.ReturnSelf e = absurd (cc)
returning packed.ReturnHome e = absurd (cc)
returning (packed.Jump target) e = absurd (cc)
returning (packed.JumpFalse target) e = absurd (cc)
returning (packed.JumpTrue target) e = absurd (cc)

-- ---- the two frames on top

-- The topmost frame is one of a block, and the one below it is of `to:do:`.
pub record HasTurn (frames : List Frame) : Type 0 where
  pub running : RunningFrame
  pub looping : LoopingFrame
  pub others : List Frame
  pub top : frames ≡ Running running ∷ Looping looping ∷ others
  pub body : running.leaving ≡ Body
  pub repeats : looping.method ≡ method.ToDo

is_body : (leaving : Leaving) → ends_body leaving ≡ true → leaving ≡ Body
is_body Method e = absurd (cc)
is_body Body e = refl
is_body (Clause class) e = absurd (cc)
is_body Part e = absurd (cc)

names_it : (named : KMethod) → repeats named ≡ true → named ≡ method.ToDo
names_it method.And e = absurd (cc)
names_it method.Or e = absurd (cc)
names_it method.IfTrue e = absurd (cc)
names_it method.IfFalse e = absurd (cc)
names_it method.IfTrueIfFalse e = absurd (cc)
names_it method.IfFalseIfTrue e = absurd (cc)
names_it method.WhileTrue e = absurd (cc)
names_it method.WhileFalse e = absurd (cc)
names_it method.ToDo e = refl
names_it method.TimesRepeat e = absurd (cc)
names_it method.Do e = absurd (cc)

pub turn_of : (frames : List Frame) → is_turn frames ≡ true → HasTurn frames
turn_of [] e = absurd (cc)
turn_of (Looping frame ∷ frames) e = absurd (cc)
turn_of (Running frame ∷ []) e = absurd (cc)
turn_of (Running frame ∷ Running other ∷ frames) e = let two = both_of (ends_body frame.leaving) false e in absurd (cc (two.1))
turn_of (Running frame ∷ Looping other ∷ frames) e =
    let two = both_of (ends_body frame.leaving) (repeats other.method) e in
    record { running = frame; looping = other; others = frames; top = refl; body = is_body frame.leaving two.0; repeats = names_it other.method two.1 }

-- ---- what `to:do:` does next, whatever its block has answered

acts_the_same : (value : Value) (act : KAction) (before : KState) (site : Site) (progress : Progress)
    → acted act before site progress ≡ acted act (answered value before) site progress
acts_the_same value (action.Evaluate block argument turn count) before site progress = refl
acts_the_same value (action.EvaluateItem block item count) before site progress = refl
acts_the_same value (action.Answer one) before site progress = refl
acts_the_same value (action.Fail kind) before site progress = refl

pub asks_nothing : (value : Value) (named : KMethod) (before : KState) (site : Site) (progress : Progress) → named ≡ method.ToDo
    → method_next named before site progress ≡ method_next named (answered value before) site progress
asks_nothing value named before site progress is =
    rw is (acts_the_same value (to_do_next before.receiver before.first before.second before.count) before site progress)

-- ---- the state of the run

-- there is a value to return
pub record HasValue (operands : List Value) : Type 0 where
  pub value : Value
  pub others : List Value
  pub is : operands ≡ value ∷ others

some_value : (operands : List Value) → 1 ≤ length operands → HasValue operands
some_value [] some = absurd (omega (arith, some))
some_value (value ∷ operands) some = record { value = value; others = operands; is = refl }

module _ (code : CodeProgram) (core : Core) (at : Registers) (turn : HasTurn core.stack.frames.items) where
  -- what stands below both frames, and where both stand
  abbrev pub others_stand : List Stood
  others_stand = standing turn.others (take turn.looping.floor (take turn.running.floor (in_use core.stack at)))

  pub both_stand : (next : ℕ) → stood core.stack (record at { next = next })
      ≡ Runs (record turn.running { next = next }) (locals_at core at turn.running) (operands_at core at turn.running) ∷ Loops turn.looping ∷ others_stand
  both_stand next = ap (λ (frames : List Frame). standing (at_next next frames) (in_use core.stack at)) turn.top

  pub some_frames : 0 < length core.stack.frames.items
  some_frames = let many : length core.stack.frames.items ≡ suc (suc (length turn.others)) = ap (λ (frames : List Frame). length frames) turn.top in omega (arith, many)

  pub value_of : (place : Option SourcePlace) → IsNextStep code core at (instr.Return, place) → HasValue (operands_at core at turn.running)
  value_of place step =
      let finds = subst (λ (s : List Stood). Finds code core.places instr.Return s (progress_in core)) (both_stand (at.next + 1)) step.finds in
      some_value (operands_at core at turn.running) finds.enough

  -- the state to which the block returns
  abbrev pub returned_state : Value → State
  returned_state value =
      Going (phase_shown core.phase) (state.Looping turn.looping.method (taken turn.looping.state value) (site_shown core.places turn.looping.site)
      ∷ frames_shown code core.places others_stand) (frame_left (progress_in core))

  pub block_returns : (place : Option SourcePlace) (value : Value) (operands : List Value) → IsNextStep code core at (instr.Return, place)
      → operands_at core at turn.running ≡ value ∷ operands → move code (shown code core (On at)) ≡ returned_state value
  block_returns place value operands step is =
      step.moves
      ∙ (ap (λ (s : List Stood). done code core.places (phase_shown core.phase) instr.Return place s (progress_in core)) (both_stand (at.next + 1))
      ∙ (ap (λ (stack : List Value). executed code (phase_shown core.phase) instr.Return place (leaving_shown turn.running.leaving turn.running.activation)
      (activation_shown core.places turn.running.activation) (locals_at core at turn.running) (steps_from code turn.running.activation.body (at.next + 1)) stack
      (frames_shown code core.places (Loops turn.looping ∷ others_stand)) (progress_in core)) is
      ∙ ap (λ (l : Leaving). returned code (phase_shown core.phase) (leaving_shown l turn.running.activation)
      (activation_shown core.places turn.running.activation) value (frames_shown code core.places (Loops turn.looping ∷ others_stand)) (progress_in core)) turn.body))

  module _ (grants : Grants) (valid : Valid code grants (shown code core (On at))) where
    valid_both : Valid code grants (Going (phase_shown core.phase) (frames_shown code core.places
        (Runs (record turn.running { next = at.next }) (locals_at core at turn.running) (operands_at core at turn.running) ∷ Loops turn.looping ∷ others_stand))
        (progress_in core))
    valid_both =
        subst (λ (s : List Stood). Valid code grants (Going (phase_shown core.phase) (frames_shown code core.places s) (progress_in core)))
        (both_stand at.next) valid

    -- Two frames are charged,
    pub some_depth : 0 < core.run.world.world.depth
    some_depth =
        let depth : core.run.world.world.depth ≡ suc (suc (length (frames_shown code core.places others_stand))) = valid_both.0.depth in
        omega (arith, depth)

    -- and the values of the method are live.
    pub live_loop : LiveState core.run.world.world.cells code turn.looping.state
    live_loop =
        let block : state.Frame = state.Running (leaving_shown turn.running.leaving turn.running.activation) (activation_shown core.places turn.running.activation)
        (locals_at core at turn.running) (steps_from code turn.running.activation.body at.next) (operands_at core at turn.running) in
        let loop : state.Frame = state.Looping turn.looping.method turn.looping.state (site_shown core.places turn.looping.site) in
        let valid : LoopingIsValid core.run.world.world.cells code (awaited_below code block) turn.looping.method turn.looping.state
        (site_shown core.places turn.looping.site) =
        first_valid code (progress_in core) (awaited_below code block) loop (frames_shown code core.places others_stand) valid_both.2.1 in
        valid.live
