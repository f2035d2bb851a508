-- Plain instructions lead straight on.
use Rattle.std.proofs.Common.{◌≡◌, ℕ, zero, suc, List, [], ◌∷◌, ap, sym, ◌∙◌, refl, subst, arith, Option, Bool, true, false, take, drop}
use Rattle.std.specs.Prelude.{reverse, ◌+◌, ◌-◌, nat_le, Some, None, if◌then◌else◌}
use Rattle.ns_base.specs.declared.place.Place.{Place as SourcePlace}
use Rattle.ns_code.specs.declared.program.CodeProgram.{CodeProgram}
use Rattle.ns_code.specs.declared.instruction.Instr.{Instr}
use Rattle.ns_code.specs.declared.instruction.Instr.TheVariants as instr
use Rattle.ns_world.specs.declared.value.Value.{Value}
use Rattle.ns_world.specs.declared.value.Value.TheVariants.{Nil, True, False, Int, Sym, Kernel, Ref}
use Rattle.ns_world.specs.declared.ending.LimitKind.TheVariants.{Cells}
use Rattle.ns_world.specs.Cell.{Cell, BlockCell, cell_size}
use Rattle.ns_world.specs.Heap.{heap_size}
use Rattle.ns_world.specs.Layout.{entry_word}
use Rattle.ns_world.specs.World.{World, written, stored}
use Rattle.ns_moves.specs.Control.{Progress, Activation, Gives, Halts, charged, in_world}
use Rattle.ns_moves.specs.Blocks.{new_cell}
use Rattle.ns_moves.specs.Bodies.{enclosing, environment_at, is_beside, local_at, locals_with, local_stored, world_with_local}
use Rattle.ns_moves.specs.Classes.{slot_filled}
use Rattle.ns_moves.specs.State as state
use Rattle.ns_moves.specs.State.{State, Going, Stuck, Leaving, Phase}
use Rattle.ns_moves.specs.Steps.{PlacedInstr, steps_from}
use Rattle.ns_moves.specs.Operands.{picked}
use Rattle.ns_moves.specs.Instructions.{executed}
use Rattle.ns_moves.specs.Returns.{settled}
use Rattle.ns_machine_frames.specs.declared.frame.Frame.{Frame}
use Rattle.ns_machine_frames.specs.declared.frame.Frame.TheVariants.{Running, Looping}
use Rattle.ns_machine_frames.specs.declared.frame.RunningFrame.{RunningFrame}
use Rattle.ns_machine_frames.specs.declared.registers.Registers.{Registers}
use Rattle.ns_machine_frames.specs.Standing.{standing, at_next, below}
use Rattle.ns_machine_frames.specs.Stack.{in_use, stood}
use Rattle.ns_machine_frames.specs.View.{leaving_shown, activation_shown, frames_shown}
use Rattle.ns_machine_core.specs.declared.state.Core.{Core}
use Rattle.ns_machine_core.specs.declared.state.Next.TheVariants.{On}
use Rattle.ns_machine_core.specs.Shown.{phase_shown, progress_in, shown}
use Rattle.ns_machine_core.specs.Doing.{done, IsDone}
use Rattle.ns_machine_core.specs.Tried.{DoesOrNot, LeadsOrChangesNothing, led_straight, led_on}
use Rattle.ns_machine_core.specs.Straight.{TopRunsBody, StaysIn, StaysOnTop, GoesStraight, is_plain}

-- ---- the topmost frame

-- It is one of its body.
pub runs_top : (frames : List Frame) (frame : RunningFrame) → frames ≡ Running frame ∷ below frames →
    TopRunsBody frame.activation.body frames
runs_top frames frame e = subst (λ (all : List Frame). TopRunsBody frame.activation.body all) (sym e) refl

-- The body of a frame that is on top is the one that runs.
pub top_is : (body : ℕ) (frames others : List Frame) (frame : RunningFrame) → TopRunsBody body frames → frames ≡ Running frame ∷ others
    → frame.activation.body ≡ body
top_is body frames others frame runs e = subst (λ (all : List Frame). TopRunsBody body all) e runs

-- ---- a body that goes on

-- A state in which a body runs on top, after so many steps.
pub record BodyIsOnTop (body steps : ℕ) (s : State) : Type 0 where
  pub phase : Phase
  pub leaving : Leaving
  pub activation : Activation
  pub locals : List Value
  pub rest : List PlacedInstr
  pub stack : List Value
  pub frames : List state.Frame
  pub progress : Progress
  pub is : s ≡ Going phase (state.Running leaving activation locals rest stack ∷ frames) progress
  pub same : activation.body ≡ body
  pub none : progress.world.steps ≡ steps

-- where such a state is shown that body runs
pub shown_in : (code : CodeProgram) (body steps : ℕ) (new : Core) (to : Registers) → BodyIsOnTop body steps (shown code new (On to))
    → TopRunsBody body new.stack.frames.items × (new.run.world.world.steps ≡ steps)
shown_in code body steps new to is = by_frames new.stack.frames.items is.is
  where
    by_frames : (frames : List Frame)
        → Going (phase_shown new.phase) (frames_shown code new.places (standing (at_next to.next frames) (in_use new.stack to))) (progress_in new)
        ≡ Going is.phase (state.Running is.leaving is.activation is.locals is.rest is.stack ∷ is.frames) is.progress
        → TopRunsBody body frames × (new.run.world.world.steps ≡ steps)
    by_frames [] e = absurd (cc)
    by_frames (Looping frame ∷ frames) e = absurd (cc)
    by_frames (Running frame ∷ frames) e =
        let whole : Going (phase_shown new.phase)
        (state.Running (leaving_shown frame.leaving frame.activation) (activation_shown new.places frame.activation)
        (take (frame.operands - frame.base) (drop frame.base (in_use new.stack to))) (steps_from code frame.activation.body to.next)
        (reverse (drop frame.operands (in_use new.stack to)))
        ∷ frames_shown code new.places (standing frames (take frame.floor (in_use new.stack to)))) (progress_in new)
        ≡ Going is.phase (state.Running is.leaving is.activation is.locals is.rest is.stack ∷ is.frames) is.progress = e in
        let activation : activation_shown new.places frame.activation ≡ is.activation = cc in
        let progress : progress_in new ≡ is.progress = cc in
        (ap (λ (a : Activation). a.body) activation ∙ is.same, ap (λ (p : Progress). p.world.steps) progress ∙ is.none)

-- ---- instructions

-- a world with a local stored has charged no step
local_charges_none : (code : CodeProgram) (activation : Activation) (hops index : ℕ) (value : Value) (world : World)
    → (world_with_local code activation hops index value world).steps ≡ world.steps
local_charges_none code activation hops index value world = by_place (is_beside code activation hops)
  where
    by_place : (b : Bool) → (if b then world else written world (environment_at world.cells code activation hops) index value).steps ≡ world.steps
    by_place true = refl
    by_place false = refl

-- nor has one with a slot filled
pub slot_charges_none : (world : World) (object : Value) (word : ℕ) (value : Value) → (stored world object word value).steps ≡ world.steps
slot_charges_none world Nil word value = refl
slot_charges_none world True word value = refl
slot_charges_none world False word value = refl
slot_charges_none world (Int number) word value = refl
slot_charges_none world (Sym sel) word value = refl
slot_charges_none world (Kernel class) word value = refl
slot_charges_none world (Ref at) word value = refl

module _ (code : CodeProgram) (phase going : Phase) (place : Option SourcePlace) (leaving : Leaving) (activation : Activation) (locals : List Value)
    (rest : List PlacedInstr) (frames here : List state.Frame) (progress after : Progress) where
  -- the body goes on with these locals and operands, and as many steps
  goes_in : (kept stack : List Value) (next : Progress)
      → Going going here after ≡ Going phase (state.Running leaving activation kept rest stack ∷ frames) next → next.world.steps ≡ progress.world.steps
      → BodyIsOnTop activation.body progress.world.steps (Going going here after)
  goes_in kept stack next e none = record {
    phase = phase;
    leaving = leaving;
    activation = activation;
    locals = kept;
    rest = rest;
    stack = stack;
    frames = frames;
    progress = next;
    is = e;
    same = refl;
    none = none;
  }

  -- an operand is picked
  picked_in : (number : ℕ) (among stack : List Value)
      → Going going here after
      ≡ picked (Stuck progress) number among (λ value. Going phase (state.Running leaving activation locals rest (value ∷ stack) ∷ frames) progress)
      → BodyIsOnTop activation.body progress.world.steps (Going going here after)
  picked_in number [] stack e = absurd (cc)
  picked_in zero (value ∷ among) stack e = goes_in locals (value ∷ stack) progress e refl
  picked_in (suc number) (value ∷ among) stack e = picked_in number among stack e

  -- a cell is made, if there is room for it
  made_in : (cell : Cell) (stack : List Value)
      → Going going here after ≡ settled code phase (new_cell cell progress) (state.Running leaving activation locals rest stack ∷ frames)
      → BodyIsOnTop activation.body progress.world.steps (Going going here after)
  made_in cell stack = by_room (nat_le (heap_size progress.world.cells + cell_size cell) progress.world.limits.cells)
    where
      by_room : (b : Bool)
          → Going going here after
          ≡ settled code phase
          (charged Halts Cells (if b then Some (record progress.world { cells = cell ∷ progress.world.cells }) else None) progress
          (Gives (Ref (heap_size progress.world.cells))))
          (state.Running leaving activation locals rest stack ∷ frames)
          → BodyIsOnTop activation.body progress.world.steps (Going going here after)
      by_room true e =
          goes_in locals (Ref (heap_size progress.world.cells) ∷ stack)
          (in_world progress (record progress.world { cells = cell ∷ progress.world.cells })) e refl
      by_room false e = absurd (cc)

  executed_in : (i : Instr) (stack : List Value) → is_plain i ≡ true
      → Going going here after ≡ executed code phase i place leaving activation locals rest stack frames progress
      → BodyIsOnTop activation.body progress.world.steps (Going going here after)
  executed_in instr.PushNil stack plain e = goes_in locals (Nil ∷ stack) progress e refl
  executed_in instr.PushTrue stack plain e = goes_in locals (True ∷ stack) progress e refl
  executed_in instr.PushFalse stack plain e = goes_in locals (False ∷ stack) progress e refl
  executed_in (instr.PushInt number) stack plain e = goes_in locals (Int number ∷ stack) progress e refl
  executed_in (instr.PushSym sel) stack plain e = goes_in locals (Sym sel ∷ stack) progress e refl
  executed_in (instr.PushText text) stack plain e = absurd (cc)
  executed_in instr.PushSelf stack plain e = goes_in locals (activation.self ∷ stack) progress e refl
  executed_in (instr.PushOuter level) stack plain e = goes_in locals ((enclosing progress.world.cells activation level).object ∷ stack) progress e refl
  executed_in (instr.PushLocal hops index) stack plain e =
      goes_in locals (local_at progress.world.cells code activation locals hops index ∷ stack) progress e refl
  executed_in (instr.StoreLocal hops index) [] plain e = absurd (cc)
  executed_in (instr.StoreLocal hops index) (value ∷ stack) plain e =
      goes_in (locals_with code activation locals hops index value) (value ∷ stack) (local_stored code activation hops index value progress) e
      (local_charges_none code activation hops index value progress.world)
  executed_in (instr.PushBlock body) stack plain e =
      made_in (BlockCell body activation.env activation.home activation.self activation.holder) stack e
  executed_in (instr.MakeArray count) stack plain e = absurd (cc)
  executed_in instr.Pop [] plain e = absurd (cc)
  executed_in instr.Pop (value ∷ stack) plain e = goes_in locals stack progress e refl
  executed_in (instr.Pick number) stack plain e = picked_in number stack stack e
  executed_in (instr.Send sel argc) stack plain e = absurd (cc)
  executed_in (instr.SendInner sel argc) stack plain e = absurd (cc)
  executed_in (instr.SendPrivate level sel argc) stack plain e = absurd (cc)
  executed_in (instr.SendSuper sel argc) stack plain e = absurd (cc)
  executed_in (instr.InitSuper argc) stack plain e = absurd (cc)
  executed_in (instr.StoreSlot slot) [] plain e = absurd (cc)
  executed_in (instr.StoreSlot slot) (value ∷ stack) plain e =
      goes_in locals stack (slot_filled code activation slot value progress) e
      (slot_charges_none progress.world activation.self (entry_word progress.world.cells code activation.holder slot) value)
  executed_in instr.Return stack plain e = absurd (cc)
  executed_in instr.ReturnSelf stack plain e = absurd (cc)
  executed_in instr.ReturnHome stack plain e = absurd (cc)
  executed_in (instr.Jump target) stack plain e = absurd (cc)
  executed_in (instr.JumpFalse target) stack plain e = absurd (cc)
  executed_in (instr.JumpTrue target) stack plain e = absurd (cc)

-- ---- straight on

-- Where a plain instruction is done and leads on, the body that runs goes straight on.
pub plain_straight : (code : CodeProgram) (i : Instr) (place : Option SourcePlace) (old new : Core) (at to : Registers) → is_plain i ≡ true
    → IsDone code i place old at new (On to) → GoesStraight code 0 i place old at new to
plain_straight code i place old new at to plain does = record {
  does = does;
  stays = λ body runs. by_frames body old.stack.frames.items runs does.state;
}
  where
    by_frames : (body : ℕ) (frames : List Frame) → TopRunsBody body frames
        → shown code new (On to)
        ≡ done code old.places (phase_shown old.phase) i place (standing (at_next at.next frames) (in_use old.stack at)) (progress_in old)
        → StaysIn body 0 old new
    by_frames body [] runs e = absurd runs
    by_frames body (Looping frame ∷ frames) runs e = absurd runs
    by_frames body (Running frame ∷ frames) runs e =
        let is = shown_in code frame.activation.body old.run.world.world.steps new to
        (executed_in code (phase_shown old.phase) (phase_shown new.phase) place (leaving_shown frame.leaving frame.activation)
        (activation_shown old.places frame.activation) (take (frame.operands - frame.base) (drop frame.base (in_use old.stack at)))
        (steps_from code frame.activation.body at.next)
        (frames_shown code old.places (standing frames (take frame.floor (in_use old.stack at))))
        (frames_shown code new.places (stood new.stack to)) (progress_in old) (progress_in new) i
        (reverse (drop frame.operands (in_use old.stack at))) plain e) in
        let steps = is.1 in
        record { runs = subst (λ (b : ℕ). TopRunsBody b new.stack.frames.items) runs is.0; steps = omega (arith, steps) }

-- Where nothing but the registers has changed, it does so too.
pub same_straight : (code : CodeProgram) (i : Instr) (place : Option SourcePlace) (old new : Core) (at to : Registers) → new ≡ old
    → IsDone code i place old at new (On to) → GoesStraight code 0 i place old at new to
same_straight code i place old new at to same does = record {
  does = does;
  stays = λ body runs. record {
    runs = subst (λ (core : Core). TopRunsBody body core.stack.frames.items) (sym same) runs;
    steps = let steps = ap (λ (core : Core). core.run.world.world.steps) same in omega (arith, steps);
  };
}

-- Where one step was charged and the body that runs stays on top, it does so too.
pub charged_straight : (code : CodeProgram) (i : Instr) (place : Option SourcePlace) (old new : Core) (at to : Registers) →
    StaysOnTop 1 old new
    → IsDone code i place old at new (On to) → GoesStraight code 1 i place old at new to
charged_straight code i place old new at to stays does = record { does = does; stays = stays }

-- ---- what was tried

-- What was tried leads on with the topmost frame.
pub tried_on : (code : CodeProgram) (i : Instr) (place : Option SourcePlace) (old : Core) (at : Registers) (new : Core) (done : Option Registers)
    → DoesOrNot code i place old at new done → LeadsOrChangesNothing code i place old at new (led_on done)
tried_on code i place old at new (Some to) does = does
tried_on code i place old at new None untouched = untouched

-- Plain instructions that were tried lead straight on.
pub tried_straight : (code : CodeProgram) (i : Instr) (place : Option SourcePlace) (old : Core) (at : Registers) (new : Core) (done : Option Registers)
    → is_plain i ≡ true → DoesOrNot code i place old at new done → LeadsOrChangesNothing code i place old at new (led_straight done)
tried_straight code i place old at new (Some to) plain does = plain_straight code i place old new at to plain does
tried_straight code i place old at new None plain untouched = untouched
