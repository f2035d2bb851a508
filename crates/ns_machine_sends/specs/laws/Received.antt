-- Sends to a receiver on the operands.
use Rattle.std.proofs.Common.{◌≡◌, ◌+◌, ◌-◌, ◌≤◌, ℕ, List, [], ◌∷◌, length, ap, sym, ◌∙◌, refl, subst, arith, Option, slice_get}
use Rattle.ns_base.specs.declared.place.Place.{Place as SourcePlace}
use Rattle.ns_base.specs.declared.selector.Sel.{Sel}
use Rattle.ns_code.specs.declared.program.CodeProgram.{CodeProgram}
use Rattle.ns_code.specs.declared.instruction.Instr.{Instr}
use Rattle.ns_code.specs.declared.instruction.Instr.TheVariants as instr
use Rattle.ns_world.specs.declared.value.Value.{Value}
use Rattle.ns_world.specs.declared.kernel.ClassName.{ClassName}
use Rattle.ns_world.specs.Lawful.{IsLiveValue}
use Rattle.ns_world.specs.Starts.{class_name_of}
use Rattle.ns_find.specs.declared.found.Sending.{Sending}
use Rattle.ns_find.specs.declared.found.Sending.TheVariants.{Plain, Inner}
use Rattle.ns_machine_plan.specs.Steps.{send_instr}
use Rattle.ns_moves.specs.Control.{Activation}
use Rattle.ns_moves.specs.Sends.{To, sent}
use Rattle.ns_moves.specs.Arrivals.{arrived}
use Rattle.ns_moves.specs.State.{State, Stuck}
use Rattle.ns_moves.specs.WorldAsks.{SelectorTakes}
use Rattle.ns_machine_frames.specs.Stated.{ComeOffAgain}
use Rattle.ns_machine_frames.specs.declared.frame.RunningFrame.{RunningFrame}
use Rattle.ns_machine_frames.specs.declared.registers.Registers.{Registers}
use Rattle.ns_machine_frames.specs.Standing.{Stood, Runs, Loops, pushed, pushed_all, operands_in}
use Rattle.ns_machine_frames.specs.Stack.{stood, with_top}
use Rattle.ns_machine_frames.specs.View.{activation_shown, frames_shown}
use Rattle.ns_machine_frames.specs.laws.Taking.{taken_stood, taken_length}
use Rattle.ns_machine_core.specs.declared.state.Core.{Core}
use Rattle.ns_machine_core.specs.declared.state.Next.{Next}
use Rattle.ns_machine_core.specs.Shown.{phase_shown, progress_in}
use Rattle.ns_machine_core.specs.Doing.{done, Finds, CanDo, IsDone}
use Rattle.ns_machine_core.specs.laws.Pushed.{runs, one_more}
use Rattle.ns_machine_core.specs.laws.Taken.{some_operand}
use Rattle.ns_machine_sends.specs.declared.sent.Sent.{Sent}
use Rattle.ns_machine_sends.specs.Sending.{CanSend, sent_at, Sends}
use Rattle.ns_machine_sends.specs.Operands.{topmost, SendsOperands, SendsToTop}
use Rattle.ns_machine_sends.specs.laws.Stepped.{no_one}
use Rattle.ns_machine_sends.specs.laws.Operands.{known, depth_is, left_behind, live_apart, top_live}

-- what was sent to a receiver below so many arguments
abbrev pub sent_of : Registers → ℕ → ℕ → ClassName → Sel → Sent
sent_of at argc place class sel =
    record { site = record { place = place; class = class; sel = sel }; floor = at.top - argc - 1; first = at.top - argc }

module _ (code : CodeProgram) (core : Core) (at : Registers) (sel : Sel) (argc : ℕ) (is : SendsOperands code core at sel argc (argc + 1)) where
  fewer : argc ≤ length (operands_in (stood core.stack at))
  fewer = let some = some_operand code core at is.instr is.can in let t = is.takes_is in omega (arith, some, t)

  abbrev pub above : List Stood
  above = stood core.stack (with_top (at.top - argc) at)

  apart : stood core.stack at ≡ pushed_all (topmost core at argc) above
  apart = taken_stood core.stack at argc is.can.stands.frames.laid fewer

  pub many : length (topmost core at argc) ≡ argc
  many = taken_length core.stack at argc is.can.stands.frames.laid fewer

  pub enough_used : argc + 1 ≤ at.top
  enough_used = let more = (one_more code core at is.instr is.can is.on).0 in let t = is.takes_is in omega (arith, more, t)

  module _ (receiver : Value) (under : List Stood) (top : above ≡ pushed receiver under) where
    pub whole : stood core.stack at ≡ pushed_all (topmost core at argc) (pushed receiver under)
    whole = apart ∙ ap (pushed_all (topmost core at argc)) top

    pub receiver_live : IsLiveValue core.run.world.world.cells code receiver
    receiver_live = top_live code core at is.instr (topmost core at argc) receiver under is.can whole

    pub can_send : argc ≤ 255 → (place : ℕ) (class : ClassName) → class ≡ class_name_of core.run.world.world.cells receiver
        → CanSend code core at (sent_of at argc place class sel) receiver
    can_send few place class named =
        let enough = enough_used in
        record {
          left = left_behind code core at is.instr (sent_of at argc place class sel) is.can is.on is.leaves_is
              (let t = is.takes_is in omega (arith, t, enough)) (omega (arith, enough)) (omega (arith, enough)) (omega (arith, enough));
          runs = runs code core at is.instr is.can;
          lawful = (known code core at is.instr is.can).lawful;
          begun = (known code core at is.instr is.can).begun;
          kept = is.can.kept;
          depth = depth_is code core at is.instr is.can;
          live = receiver_live;
          named = named;
          selector = record {
            selector = is.fits.selector;
            arity = many ∙ is.fits.arity;
            live = (live_apart code core at is.instr (topmost core at argc) above is.can apart).0;
          };
          few = let m = many in omega (arith, m, few);
        }

    pub sends_to_top : (place : ℕ) (class : ClassName) (kind : Sending) (new : Core) (next : Next) → under ≡ stood core.stack (with_top (at.top - argc - 1) at)
        → ((activation : Activation) → Sends code core at (at.top - argc - 1) (sent_at code core at (sent_of at argc place class sel) activation (To receiver kind)) new next)
        → SendsToTop code core at sel argc place kind new next
    sends_to_top place class kind new next same sends = record {
      receiver = receiver;
      under = under;
      is = whole;
      many = many;
      state = λ activation. (sends activation).state
          ∙ ap (λ (s : List Stood). arrived code (phase_shown core.phase) (sent_at code core at (sent_of at argc place class sel) activation (To receiver kind))
          (frames_shown code core.places s)) (sym same);
      stand = (sends no_one).stand;
      stays = (sends no_one).stays;
      kept = (sends no_one).kept;
    }

-- ---- the instructions

pub send_operands : (code : CodeProgram) (core : Core) (at : Registers) (sel : Sel) (argc : ℕ) → CanDo code core at (instr.Send sel argc)
    → SendsOperands code core at sel argc (argc + 1)
send_operands code core at sel argc can = record {
  instr = instr.Send sel argc;
  can = can;
  takes_is = omega arith;
  leaves_is = refl;
  on = refl;
  fits = by_stood (stood core.stack at) can.finds;
}
  where
    by_stood : (s : List Stood) → Finds code core.places (instr.Send sel argc) s (progress_in core) → SelectorTakes code sel argc
    by_stood [] finds = absurd finds
    by_stood (Loops frame ∷ s) finds = absurd finds
    by_stood (Runs frame locals stack ∷ s) finds = finds.asks

pub inner_operands : (code : CodeProgram) (core : Core) (at : Registers) (sel : Sel) (argc : ℕ) →
    CanDo code core at (instr.SendInner sel argc)
    → SendsOperands code core at sel argc (argc + 1)
inner_operands code core at sel argc can = record {
  instr = instr.SendInner sel argc;
  can = can;
  takes_is = omega arith;
  leaves_is = refl;
  on = refl;
  fits = by_stood (stood core.stack at) can.finds;
}
  where
    by_stood : (s : List Stood) → Finds code core.places (instr.SendInner sel argc) s (progress_in core) → SelectorTakes code sel argc
    by_stood [] finds = absurd finds
    by_stood (Loops frame ∷ s) finds = absurd finds
    by_stood (Runs frame locals stack ∷ s) finds = finds.asks

-- What such a send leads to is what the instruction does, whatever the frame.
abbrev DoesSend : CodeProgram → Core → Instr → Option SourcePlace → Sel → List Value → Value → Sending → Type 0
DoesSend code old instr place sel values receiver kind =
    (frame : RunningFrame) (locals stack : List Value) (others : List Stood)
    → arrived code (phase_shown old.phase) (sent code (activation_shown old.places frame.activation) (To receiver kind) sel values place (progress_in old))
    (frames_shown code old.places (Runs frame locals stack ∷ others))
    ≡ done code old.places (phase_shown old.phase) instr place (pushed_all values (pushed receiver (Runs frame locals stack ∷ others))) (progress_in old)

-- code runs by which the instruction is such a send
pub record IsSentBy (code : CodeProgram) (old : Core) (instr : Instr) (place : Option SourcePlace) (sel : Sel) (values : List Value) (receiver : Value) (kind : Sending)
    (under : List Stood) : Type 0 where
  pub activation : Activation
  pub is : arrived code (phase_shown old.phase) (sent code activation (To receiver kind) sel values place (progress_in old)) (frames_shown code old.places under)
      ≡ done code old.places (phase_shown old.phase) instr place (pushed_all values (pushed receiver under)) (progress_in old)

sent_by : (code : CodeProgram) (old : Core) (instr : Instr) (place : Option SourcePlace) (sel : Sel) (values : List Value) (receiver : Value) (kind : Sending)
    (under : List Stood) → Finds code old.places instr (pushed_all values (pushed receiver under)) (progress_in old)
    → DoesSend code old instr place sel values receiver kind → IsSentBy code old instr place sel values receiver kind under
sent_by code old instr place sel values receiver kind [] finds does = absurd finds
sent_by code old instr place sel values receiver kind (Loops frame ∷ s) finds does = absurd finds
sent_by code old instr place sel values receiver kind (Runs frame locals stack ∷ s) finds does =
    record { activation = activation_shown old.places frame.activation; is = does frame locals stack s }

-- each kind of instruction is
send_is : ((missing : State) → ComeOffAgain missing) →
    (code : CodeProgram) (old : Core) (at : Registers) (sel : Sel) (argc : ℕ) (place : Option SourcePlace)
    (receiver : Value) (kind : Sending) → length (topmost old at argc) ≡ argc
    → DoesSend code old (send_instr kind sel argc) place sel (topmost old at argc) receiver kind
send_is taken code old at sel argc place receiver Plain many frame locals stack others =
    subst (λ (n : ℕ). arrived code (phase_shown old.phase)
    (sent code (activation_shown old.places frame.activation) (To receiver Plain) sel (topmost old at argc) place (progress_in old))
    (frames_shown code old.places (Runs frame locals stack ∷ others))
    ≡ done code old.places (phase_shown old.phase) (instr.Send sel n) place
    (pushed_all (topmost old at argc) (pushed receiver (Runs frame locals stack ∷ others))) (progress_in old)) many
    (sym (taken (Stuck (progress_in old)) (topmost old at argc) (receiver ∷ stack) _))
send_is taken code old at sel argc place receiver Inner many frame locals stack others =
    subst (λ (n : ℕ). arrived code (phase_shown old.phase)
    (sent code (activation_shown old.places frame.activation) (To receiver Inner) sel (topmost old at argc) place (progress_in old))
    (frames_shown code old.places (Runs frame locals stack ∷ others))
    ≡ done code old.places (phase_shown old.phase) (instr.SendInner sel n) place
    (pushed_all (topmost old at argc) (pushed receiver (Runs frame locals stack ∷ others))) (progress_in old)) many
    (sym (taken (Stuck (progress_in old)) (topmost old at argc) (receiver ∷ stack) _))

module _ (taken : (missing : State) → ComeOffAgain missing) (code : CodeProgram) (old new : Core) (at : Registers) (sel : Sel) (argc place : ℕ) where
  module _ (kind : Sending) (can : CanDo code old at (send_instr kind sel argc)) (receiver : Value) (under : List Stood)
      (is : stood old.stack at ≡ pushed_all (topmost old at argc) (pushed receiver under)) (many : length (topmost old at argc) ≡ argc) where
    pub by : IsSentBy code old (send_instr kind sel argc) (slice_get old.places place) sel (topmost old at argc) receiver kind under
    by = sent_by code old (send_instr kind sel argc) (slice_get old.places place) sel (topmost old at argc) receiver kind under
        (subst (λ (s : List Stood). Finds code old.places (send_instr kind sel argc) s (progress_in old)) is can.finds)
        (send_is taken code old at sel argc (slice_get old.places place) receiver kind many)

    pub leads_so : arrived code (phase_shown old.phase) (sent code by.activation (To receiver kind) sel (topmost old at argc) (slice_get old.places place) (progress_in old))
        (frames_shown code old.places under)
        ≡ done code old.places (phase_shown old.phase) (send_instr kind sel argc) (slice_get old.places place) (stood old.stack at) (progress_in old)
    leads_so = by.is
        ∙ ap (λ (s : List Stood). done code old.places (phase_shown old.phase) (send_instr kind sel argc) (slice_get old.places place) s (progress_in old)) (sym is)

  pub kind_does : (kind : Sending) (next : Next) → CanDo code old at (send_instr kind sel argc) → SendsToTop code old at sel argc place kind new next
      → IsDone code (send_instr kind sel argc) (slice_get old.places place) old at new next
  kind_does kind next can is = record {
    state = is.state (by kind can is.receiver is.under is.is is.many).activation ∙ leads_so kind can is.receiver is.under is.is is.many;
    stand = is.stand;
    stays = is.stays;
    kept = is.kept;
  }
