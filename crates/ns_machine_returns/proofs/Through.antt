-- A value that goes through a method of the kernel, which answers what its block does.
use Rattle.std.proofs.Common.{◌≡◌, ◌<◌, suc, List, [], ◌∷◌, length, take, refl, ap, sym, ◌∙◌, subst, arith, true, false, Some}
use Rattle.ns_code.specs.declared.program.CodeProgram.{CodeProgram}
use Rattle.ns_world.specs.declared.kernel_parts.KMethod.{KMethod}
use Rattle.ns_world.specs.declared.kernel_parts.KMethod.TheVariants as method
use Rattle.ns_kcode.specs.declared.state.KAction.{KAction}
use Rattle.ns_kcode.specs.declared.state.KAction.TheVariants as action
use Rattle.ns_kcode.specs.declared.state.KState.{KState}
use Rattle.ns_kcode.specs.Next.{next, and_next, or_next, if_true_next, if_false_next, choice_next}
use Rattle.ns_world.specs.declared.value.Value.{Value}
use Rattle.ns_world.specs.declared.value.Value.TheVariants as value
use Rattle.ns_world.specs.World.{World, WorldView, left}
use Rattle.ns_moves.specs.Blocks.{acted, taken}
use Rattle.ns_moves.specs.Control.{Progress, in_world, frame_left}
use Rattle.ns_moves.specs.Arrivals.{acted_on}
use Rattle.ns_moves.specs.Charging.{action_charges}
use Rattle.ns_moves.specs.Returns.{delivered, returned}
use Rattle.ns_moves.specs.State.{State}
use Rattle.ns_machine_frames.specs.declared.frame.Frame.{Frame}
use Rattle.ns_machine_frames.specs.declared.frame.Frame.TheVariants.{Running, Looping}
use Rattle.ns_machine_frames.specs.declared.frame.Leaving.{Leaving}
use Rattle.ns_machine_frames.specs.declared.frame.Leaving.TheVariants as leaving
use Rattle.ns_machine_frames.specs.declared.frame.LoopingFrame.{LoopingFrame}
use Rattle.ns_machine_frames.specs.declared.frame.RunningFrame.{RunningFrame}
use Rattle.ns_machine_frames.specs.declared.registers.Registers.{Registers}
use Rattle.ns_machine_frames.specs.declared.stack.Stack.{Stack}
use Rattle.ns_machine_frames.specs.Standing.{Stood, Runs, Loops, standing, at_next, below}
use Rattle.ns_machine_frames.specs.Stack.{stood}
use Rattle.ns_machine_frames.specs.View.{site_shown, leaving_shown, activation_shown, frames_shown}
use Rattle.ns_machine_core.specs.declared.state.Core.{Core}
use Rattle.ns_machine_core.specs.declared.state.Next.{Next}
use Rattle.ns_machine_core.specs.Framed.{HasRoomOnTop, AnswersHaveRoom, AreFramed}
use Rattle.ns_machine_core.specs.Passing.{Passes}
use Rattle.ns_machine_core.specs.Shown.{phase_shown, progress_in}
use Rattle.ns_machine_core.specs.Standing.{KeepsRightIn}
use Rattle.ns_machine_core.specs.laws.Kept.{stays_on}
use Rattle.ns_machine_returns.specs.Answering.{answers_for_true, answers_for_false, answers_block, passes_on, IsHandedThrough, EndsTwice}
use Rattle.ns_machine_returns.specs.Ending.{FrameIsAnswered}
use Rattle.ns_machine_returns.proofs.Ended.{given_back}
use Rattle.ns_machine_returns.proofs.Left.{over, IsLeft, left_stays}

-- ---- what such a method does next

and_answers : (receiver block one : Value) → answers_block method.And receiver ≡ true → and_next receiver block (Some one) ≡ action.Answer one
and_answers value.True block one is = refl
and_answers value.False block one is = absurd (cc)
and_answers value.Nil block one is = absurd (cc)
and_answers (value.Int number) block one is = absurd (cc)
and_answers (value.Sym sel) block one is = absurd (cc)
and_answers (value.Kernel kernel) block one is = absurd (cc)
and_answers (value.Ref at) block one is = absurd (cc)

or_answers : (receiver block one : Value) → answers_block method.Or receiver ≡ true → or_next receiver block (Some one) ≡ action.Answer one
or_answers value.False block one is = refl
or_answers value.True block one is = absurd (cc)
or_answers value.Nil block one is = absurd (cc)
or_answers (value.Int number) block one is = absurd (cc)
or_answers (value.Sym sel) block one is = absurd (cc)
or_answers (value.Kernel kernel) block one is = absurd (cc)
or_answers (value.Ref at) block one is = absurd (cc)

if_true_answers : (receiver block one : Value) → answers_block method.IfTrue receiver ≡ true → if_true_next receiver block (Some one) ≡ action.Answer one
if_true_answers value.True block one is = refl
if_true_answers value.False block one is = absurd (cc)
if_true_answers value.Nil block one is = absurd (cc)
if_true_answers (value.Int number) block one is = absurd (cc)
if_true_answers (value.Sym sel) block one is = absurd (cc)
if_true_answers (value.Kernel kernel) block one is = absurd (cc)
if_true_answers (value.Ref at) block one is = absurd (cc)

if_false_answers : (receiver block one : Value) → answers_block method.IfFalse receiver ≡ true → if_false_next receiver block (Some one) ≡ action.Answer one
if_false_answers value.False block one is = refl
if_false_answers value.True block one is = absurd (cc)
if_false_answers value.Nil block one is = absurd (cc)
if_false_answers (value.Int number) block one is = absurd (cc)
if_false_answers (value.Sym sel) block one is = absurd (cc)
if_false_answers (value.Kernel kernel) block one is = absurd (cc)
if_false_answers (value.Ref at) block one is = absurd (cc)

choice_answers : (receiver chosen otherwise one : Value) → choice_next receiver chosen otherwise (Some one) ≡ action.Answer one
choice_answers value.True chosen otherwise one = refl
choice_answers value.False chosen otherwise one = refl
choice_answers value.Nil chosen otherwise one = refl
choice_answers (value.Int number) chosen otherwise one = refl
choice_answers (value.Sym sel) chosen otherwise one = refl
choice_answers (value.Kernel kernel) chosen otherwise one = refl
choice_answers (value.Ref at) chosen otherwise one = refl

-- a method that never does so has no receiver for which it would
loops_not : (named : KMethod) (receiver : Value) → answers_for_true named ≡ false → answers_for_false named ≡ false →
    answers_block named receiver ≡ true → ⊥
loops_not named value.True first second is = cc
loops_not named value.False first second is = cc
loops_not named value.Nil first second is = cc
loops_not named (value.Int number) first second is = cc
loops_not named (value.Sym sel) first second is = cc
loops_not named (value.Kernel kernel) first second is = cc
loops_not named (value.Ref at) first second is = cc

answers_next : (named : KMethod) (state : KState) (one : Value) → answers_block named state.receiver ≡ true → next named (taken state one) ≡ action.Answer one
answers_next method.And state one is = and_answers state.receiver state.first one is
answers_next method.Or state one is = or_answers state.receiver state.first one is
answers_next method.IfTrue state one is = if_true_answers state.receiver state.first one is
answers_next method.IfFalse state one is = if_false_answers state.receiver state.first one is
answers_next method.IfTrueIfFalse state one is = choice_answers state.receiver state.first state.second one
answers_next method.IfFalseIfTrue state one is = choice_answers state.receiver state.second state.first one
answers_next method.WhileTrue state one is = absurd (loops_not method.WhileTrue state.receiver refl refl is)
answers_next method.WhileFalse state one is = absurd (loops_not method.WhileFalse state.receiver refl refl is)
answers_next method.ToDo state one is = absurd (loops_not method.ToDo state.receiver refl refl is)
answers_next method.TimesRepeat state one is = absurd (loops_not method.TimesRepeat state.receiver refl refl is)
answers_next method.Do state one is = absurd (loops_not method.Do state.receiver refl refl is)

-- ---- the method on top

-- What stands on top.
record Passing (core : Core) (at : Registers) : Type 0 where
  pub looping : LoopingFrame
  pub answers : answers_block looping.method looping.state.receiver ≡ true
  pub top : stood core.stack at ≡ Loops looping ∷ below (stood core.stack at)

passing : (core : Core) (at : Registers) → passes_on core.stack.frames.items ≡ true → Passing core at
passing core at is = by_frames core.stack.frames.items refl is
  where
    by_frames : (frames : List Frame) → core.stack.frames.items ≡ frames → passes_on frames ≡ true → Passing core at
    by_frames [] e is = absurd (cc)
    by_frames (Running frame ∷ frames) e is = absurd (cc)
    by_frames (Looping frame ∷ frames) e is =
        let stands = ap (λ (all : List Frame). standing (at_next at.next all) (take at.top core.stack.values.items)) e in
        record {
          looping = frame;
          answers = is;
          top = stands ∙ ap (λ (s : List Stood). Loops frame ∷ below s) (sym stands);
        }

-- it has a frame to give back
pub some_depth : (code : CodeProgram) (core : Core) (at : Registers) → passes_on core.stack.frames.items ≡ true →
    AreFramed code (stood core.stack at) (progress_in core) → 0 < core.run.world.world.depth
some_depth code core at is framed =
    let on = passing core at is in
    let depth : core.run.world.world.depth ≡ suc (length (below (stood core.stack at))) = framed.depth ∙ ap (λ (s : List Stood). length s) on.top in
    omega (arith, depth)

-- below it there is room for the value
pub room_through : (code : CodeProgram) (core : Core) (at : Registers) → passes_on core.stack.frames.items ≡ true →
    AreFramed code (stood core.stack at) (progress_in core)
    → HasRoomOnTop code (below (stood core.stack at))
room_through code core at is framed =
    let on = passing core at is in
    (subst (AnswersHaveRoom code) on.top framed.rooms).0

-- It has ended with the value.
pub handed_through : (code : CodeProgram) (core new : Core) (at : Registers) (one : Value) (n : Next) → passes_on core.stack.frames.items ≡ true →
    FrameIsAnswered code core at one new n
    → IsHandedThrough code core at one new n
handed_through code core new at one n is answered =
    let on = passing core at is in
    let first = answers_next on.looping.method on.looping.state one on.answers in
    subst (λ (s : List Stood). Passes code (delivered code (phase_shown core.phase) one (frames_shown code core.places s) (progress_in core)) core new n) (sym on.top)
    (record {
      state = answered.state
          ∙ sym (ap (λ (a : KAction). acted_on code (phase_shown core.phase) on.looping.method (site_shown core.places on.looping.site)
          (acted a (taken on.looping.state one) (site_shown core.places on.looping.site) (progress_in core))
          (frames_shown code core.places (below (stood core.stack at)))) first);
      goes = refl;
      free = ap action_charges first;
      stand = answered.stand;
      stays = answered.stays;
      kept = answered.kept;
    })

-- ---- the block above it

-- without its frame the others are as sure of what is below them
pub framed_left : (code : CodeProgram) (core : Core) (at here : Registers) (world : WorldView) (stack : Stack) →
    AreFramed code (stood core.stack at) (progress_in core)
    → IsLeft core at world stack here
    → ((rest : Progress) → in_world rest world.world ≡ frame_left (in_world rest core.run.world.world))
    → AreFramed code (stood stack here) (progress_in (over core world stack))
framed_left code core at here world stack framed is ended =
    subst (λ (s : List Stood). AreFramed code s (progress_in (over core world stack))) (sym is.stood)
    (record {
      depth = ap (λ (w : World). w.depth) (given_back core world ended) ∙ less (stood core.stack at) framed.depth;
      rooms = others (stood core.stack at) framed.rooms;
    })
  where
    less : (s : List Stood) → core.run.world.world.depth ≡ length s → (left core.run.world.world).depth ≡ length (below s)
    less [] depth = omega (arith, depth)
    less (one ∷ s) depth = omega (arith, depth)

    others : (s : List Stood) → AnswersHaveRoom code s → AnswersHaveRoom code (below s)
    others [] rooms = tt
    others (Runs frame locals stack ∷ s) rooms = rooms.1
    others (Loops frame ∷ s) rooms = rooms.1

-- the machine in a world that differs in its depth
abbrev in_that : Core → World → Core
in_that core world = record core { run = record core.run { world = record core.run.world { world = world } } }

-- and the lookups that are kept are right in the world without it
pub kept_left : (code : CodeProgram) (core : Core) (world : WorldView) (stack : Stack) → KeepsRightIn code core core
    → ((rest : Progress) → in_world rest world.world ≡ frame_left (in_world rest core.run.world.world))
    → KeepsRightIn code (over core world stack) (over core world stack)
kept_left code core world stack kept ended =
    subst (λ (w : World). KeepsRightIn code (in_that core w) core) (sym (given_back core world ended)) kept

-- Both have ended with the value.
pub ended_twice : (code : CodeProgram) (core new : Core) (at here : Registers) (world : WorldView) (stack : Stack) (frame : RunningFrame) (one : Value) (n : Next)
    → frame.leaving ≡ leaving.Body → IsLeft core at world stack here
    → ((rest : Progress) → in_world rest world.world ≡ frame_left (in_world rest core.run.world.world))
    → IsHandedThrough code (over core world stack) here one new n → EndsTwice code core at frame one new n
ended_twice code core new at here world stack frame one n body is ended handed =
    let between =
    ap (λ (s : List Stood). delivered code (phase_shown core.phase) one (frames_shown code core.places s) (progress_in (over core world stack))) is.stood
    ∙ (ap (delivered code (phase_shown core.phase) one (frames_shown code core.places (below (stood core.stack at)))) (ended (progress_in core))
    ∙ ap (λ (l : Leaving). returned code (phase_shown core.phase) (leaving_shown l frame.activation) (activation_shown core.places frame.activation) one
    (frames_shown code core.places (below (stood core.stack at))) (progress_in core)) (sym body)) in
    let passes = subst (λ (s : State). Passes code s (over core world stack) new n) between handed in
    record {
      state = passes.state;
      goes = passes.goes;
      free = passes.free;
      stand = passes.stand;
      stays = stays_on core (over core world stack) new (left_stays core at here world stack is) passes.stays;
      kept = subst (λ (w : World). KeepsRightIn code (in_that core w) new) (given_back core world ended) passes.kept;
    }
