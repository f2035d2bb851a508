-- Sends whose arguments alone are operands.
use Rattle.std.proofs.Common.{◌≡◌, ◌-◌, ◌≤◌, ℕ, List, [], ◌∷◌, length, ap, sym, ◌∙◌, refl, subst, arith, Option, slice_get}
use Rattle.std.specs.Prelude.{IsSome}
use Rattle.ns_base.specs.declared.place.Place.{Place as SourcePlace}
use Rattle.ns_base.specs.declared.selector.Sel.{Sel}
use Rattle.ns_code.specs.declared.program.CodeProgram.{CodeProgram}
use Rattle.ns_code.specs.declared.instruction.Instr.{Instr}
use Rattle.ns_code.specs.declared.instruction.Instr.TheVariants as instr
use Rattle.ns_world.specs.declared.value.Value.{Value}
use Rattle.ns_world.specs.declared.kernel.ClassName.{ClassName}
use Rattle.ns_world.specs.Lawful.{IsLawful, IsLiveValue}
use Rattle.ns_world.specs.Starts.{class_name_of}
use Rattle.ns_moves.specs.Lawful.{FitsActivation, declaration_at}
use Rattle.ns_moves.specs.Sends.{Target, ToPrivate, sent}
use Rattle.ns_moves.specs.Arrivals.{arrived}
use Rattle.ns_moves.specs.State.{State, Stuck}
use Rattle.ns_moves.specs.WorldAsks.{SelectorTakes}
use Rattle.ns_moves.specs.declared.running.Running.{Running as RunningCode}
use Rattle.ns_moves.specs.Running.{code_of}
use Rattle.ns_machine_frames.specs.declared.frame.Frame.TheVariants.{Running}
use Rattle.ns_machine_frames.specs.declared.frame.RunningFrame.{RunningFrame}
use Rattle.ns_machine_frames.specs.declared.registers.Registers.{Registers}
use Rattle.ns_machine_frames.specs.Stated.{ComeOffAgain}
use Rattle.ns_machine_frames.specs.Standing.{Stood, Runs, Loops, pushed_all, operands_in, below}
use Rattle.ns_machine_frames.specs.Stack.{stood, with_top}
use Rattle.ns_machine_frames.specs.View.{activation_shown, frames_shown}
use Rattle.ns_machine_frames.specs.laws.Taking.{taken_stood, taken_length}
use Rattle.ns_machine_core.specs.declared.state.Core.{Core}
use Rattle.ns_machine_core.specs.declared.state.Next.{Next}
use Rattle.ns_machine_core.specs.Shown.{phase_shown, progress_in}
use Rattle.ns_machine_core.specs.Doing.{done, Finds, CanDo, running_of, IsDone}
use Rattle.ns_machine_core.specs.laws.Pushed.{runs, one_more, top_stands}
use Rattle.ns_machine_core.specs.laws.Taken.{some_operand}
use Rattle.ns_machine_core.specs.laws.Finds.{finds_in, fits_anywhere}
use Rattle.ns_machine_sends.specs.declared.sent.Sent.{Sent}
use Rattle.ns_machine_sends.specs.Sending.{CanSend, sent_at, Sends}
use Rattle.ns_machine_sends.specs.Operands.{topmost, SendsOperands}
use Rattle.ns_machine_sends.specs.laws.Operands.{known, depth_is, left_behind, live_apart}

-- what was sent with so many arguments, which no receiver stands below
abbrev pub own_sent : Registers → ℕ → ℕ → ClassName → Sel → Sent
own_sent at argc place class sel =
    record { site = record { place = place; class = class; sel = sel }; floor = at.top - argc; first = at.top - argc }

module _ (code : CodeProgram) (core : Core) (at : Registers) (sel : Sel) (argc : ℕ) (is : SendsOperands code core at sel argc argc) where
  fewer : argc ≤ length (operands_in (stood core.stack at))
  fewer = let some = some_operand code core at is.instr is.can in let t = is.takes_is in omega (arith, some, t)

  pub own_apart : stood core.stack at ≡ pushed_all (topmost core at argc) (stood core.stack (with_top (at.top - argc) at))
  own_apart = taken_stood core.stack at argc is.can.stands.frames.laid fewer

  pub own_many : length (topmost core at argc) ≡ argc
  own_many = taken_length core.stack at argc is.can.stands.frames.laid fewer

  pub own_used : argc ≤ at.top
  own_used = let more = (one_more code core at is.instr is.can is.on).0 in let t = is.takes_is in omega (arith, more, t)

  pub can_send_own : argc ≤ 255 → (place : ℕ) (class : ClassName) (receiver : Value) → IsLiveValue core.run.world.world.cells code receiver
      → class ≡ class_name_of core.run.world.world.cells receiver → CanSend code core at (own_sent at argc place class sel) receiver
  can_send_own few place class receiver live named =
      let enough = own_used in
      record {
        left = left_behind code core at is.instr (own_sent at argc place class sel) is.can is.on is.leaves_is
            (let t = is.takes_is in omega (arith, t, enough)) (omega arith) (omega arith) (omega (arith, enough));
        runs = runs code core at is.instr is.can;
        lawful = (known code core at is.instr is.can).lawful;
        begun = (known code core at is.instr is.can).begun;
        kept = is.can.kept;
        depth = depth_is code core at is.instr is.can;
        live = live;
        named = named;
        selector = record {
          selector = is.fits.selector;
          arity = own_many ∙ is.fits.arity;
          live = (live_apart code core at is.instr (topmost core at argc) (stood core.stack (with_top (at.top - argc) at)) is.can own_apart).0;
        };
        few = let m = own_many in omega (arith, m, few);
      }

-- ---- the instructions

pub private_operands : (code : CodeProgram) (core : Core) (at : Registers) (level : ℕ) (sel : Sel) (argc : ℕ) →
    CanDo code core at (instr.SendPrivate level sel argc)
    → SendsOperands code core at sel argc argc
private_operands code core at level sel argc can = record {
  instr = instr.SendPrivate level sel argc;
  can = can;
  takes_is = refl;
  leaves_is = refl;
  on = refl;
  fits = by_stood (stood core.stack at) can.finds;
}
  where
    by_stood : (s : List Stood) → Finds code core.places (instr.SendPrivate level sel argc) s (progress_in core) → SelectorTakes code sel argc
    by_stood [] finds = absurd finds
    by_stood (Loops frame ∷ s) finds = absurd finds
    by_stood (Runs frame locals stack ∷ s) finds = finds.asks.0

-- the code that runs fits, wherever it was sent
pub here_fits : (code : CodeProgram) (core : Core) (at : Registers) (instr : Instr) (running : RunningFrame) (here : RunningCode) →
    CanDo code core at instr
    → core.stack.frames.items ≡ Running running ∷ below core.stack.frames.items → here ≡ running_of running.activation
    → FitsActivation core.run.world.world.cells code (code_of here)
here_fits code core at instr running here can top e =
    subst (λ (r : RunningCode). FitsActivation core.run.world.world.cells code (code_of r)) (sym e) (fits_anywhere code core at instr running can top)

pub here_lawful : (code : CodeProgram) (core : Core) (at : Registers) (instr : Instr) → CanDo code core at instr →
    IsLawful core.run.world.world code
here_lawful code core at instr can = (known code core at instr can).lawful

pub level_there : (code : CodeProgram) (core : Core) (at : Registers) (level : ℕ) (sel : Sel) (argc : ℕ) (running : RunningFrame) (here : RunningCode)
    → CanDo code core at (instr.SendPrivate level sel argc) → core.stack.frames.items ≡ Running running ∷ below core.stack.frames.items
    → here ≡ running_of running.activation → IsSome (declaration_at code here.body level)
level_there code core at level sel argc running here can top e =
    subst (λ (r : RunningCode). IsSome (declaration_at code r.body level)) (sym e) (finds_in code core at (instr.SendPrivate level sel argc) running can top).asks.1.1

-- What such a send leads to is what the instruction does, whatever the frame.
abbrev pub DoesOwn : CodeProgram → Core → Registers → Instr → Option SourcePlace → Sel → List Value → Target → RunningCode → RunningFrame →
    Type 0
DoesOwn code old at instr place sel values target here running =
    (locals stack : List Value) (others : List Stood)
    → arrived code (phase_shown old.phase) (sent code (code_of here) target sel values place (progress_in old))
    (frames_shown code old.places (Runs (record running { next = at.next }) locals stack ∷ others))
    ≡ done code old.places (phase_shown old.phase) instr place (pushed_all values (Runs (record running { next = at.next }) locals stack ∷ others)) (progress_in old)

pub own_does : (code : CodeProgram) (old new : Core) (at : Registers) (instr : Instr) (sel : Sel) (argc place : ℕ) (class : ClassName) (target : Target) (here : RunningCode)
    (running : RunningFrame) (next : Next) → CanDo code old at instr → stood old.stack at ≡ pushed_all (topmost old at argc) (stood old.stack (with_top (at.top - argc) at))
    → old.stack.frames.items ≡ Running running ∷ below old.stack.frames.items
    → Sends code old at (at.top - argc) (sent_at code old at (own_sent at argc place class sel) (code_of here) target) new next
    → DoesOwn code old at instr (slice_get old.places place) sel (topmost old at argc) target here running
    → IsDone code instr (slice_get old.places place) old at new next
own_does code old new at instr sel argc place class target here running next can apart top is does = record {
  state = is.state ∙ (by_stood (stood old.stack (with_top (at.top - argc) at)) refl
      (subst (λ (s : List Stood). Finds code old.places instr s (progress_in old)) apart can.finds)
      ∙ ap (λ (s : List Stood). done code old.places (phase_shown old.phase) instr (slice_get old.places place) s (progress_in old)) (sym apart));
  stand = is.stand;
  stays = is.stays;
  kept = is.kept;
}
  where
    by_stood : (under : List Stood) → under ≡ stood old.stack (with_top (at.top - argc) at)
        → Finds code old.places instr (pushed_all (topmost old at argc) under) (progress_in old)
        → arrived code (phase_shown old.phase) (sent_at code old at (own_sent at argc place class sel) (code_of here) target) (frames_shown code old.places under)
        ≡ done code old.places (phase_shown old.phase) instr (slice_get old.places place) (pushed_all (topmost old at argc) under) (progress_in old)
    by_stood [] e finds = absurd finds
    by_stood (Loops frame ∷ s) e finds = absurd finds
    by_stood (Runs frame locals stack ∷ s) e finds =
        let same = top_stands old (with_top (at.top - argc) at) running frame locals stack s top e in
        subst (λ (f : RunningFrame). arrived code (phase_shown old.phase) (sent_at code old at (own_sent at argc place class sel) (code_of here) target)
        (frames_shown code old.places (Runs f locals stack ∷ s))
        ≡ done code old.places (phase_shown old.phase) instr (slice_get old.places place) (pushed_all (topmost old at argc) (Runs f locals stack ∷ s)) (progress_in old))
        (sym same) (does locals stack s)

pub private_does : ((missing : State) → ComeOffAgain missing) →
    (code : CodeProgram) (old new : Core) (at : Registers) (level : ℕ) (sel : Sel) (argc place : ℕ) (class : ClassName)
    (here : RunningCode) (running : RunningFrame) (next : Next) → CanDo code old at (instr.SendPrivate level sel argc)
    → old.stack.frames.items ≡ Running running ∷ below old.stack.frames.items → here ≡ running_of running.activation
    → Sends code old at (at.top - argc) (sent_at code old at (own_sent at argc place class sel) (code_of here) (ToPrivate level)) new next
    → IsDone code (instr.SendPrivate level sel argc) (slice_get old.places place) old at new next
private_does taken code old new at level sel argc place class here running next can top e is =
    own_does code old new at (instr.SendPrivate level sel argc) sel argc place class (ToPrivate level) here running next can
    (own_apart code old at sel argc (private_operands code old at level sel argc can)) top is
    (λ locals stack others.
    ap (λ (r : RunningCode). arrived code (phase_shown old.phase)
    (sent code (code_of r) (ToPrivate level) sel (topmost old at argc) (slice_get old.places place) (progress_in old))
    (frames_shown code old.places (Runs (record running { next = at.next }) locals stack ∷ others))) e
    ∙ subst (λ (n : ℕ). arrived code (phase_shown old.phase)
    (sent code (activation_shown old.places running.activation) (ToPrivate level) sel (topmost old at argc) (slice_get old.places place) (progress_in old))
    (frames_shown code old.places (Runs (record running { next = at.next }) locals stack ∷ others))
    ≡ done code old.places (phase_shown old.phase) (instr.SendPrivate level sel n) (slice_get old.places place)
    (pushed_all (topmost old at argc) (Runs (record running { next = at.next }) locals stack ∷ others)) (progress_in old))
    (own_many code old at sel argc (private_operands code old at level sel argc can))
    (sym (taken (Stuck (progress_in old)) (topmost old at argc) stack _)))
