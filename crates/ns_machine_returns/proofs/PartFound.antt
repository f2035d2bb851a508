-- What the instruction that begins a superclass part finds.
use Rattle.std.proofs.Common.{◌≡◌, ℕ, ◌-◌, ◌≤◌, List, [], ◌∷◌, ◌++◌, length, reverse, refl, ap, sym, ◌∙◌, subst, arith, append_assoc, Option, Some, None, slice_get, All}
use Rattle.std.specs.Prelude.{IsSome}
use Rattle.std.specs.Option.{option_map_or}
use Rattle.std.proofs.lemmas.List.{length-append, length-reverse, reverse-append}
use Rattle.std.proofs.lemmas.List.Elements.{All-nil, All-cons, All-head, All-tail}
use Rattle.ns_base.specs.declared.place.Place.{Place as SourcePlace}
use Rattle.ns_code.specs.declared.program.CodeProgram.{CodeProgram}
use Rattle.ns_code.specs.declared.class.ClassCode.{ClassCode}
use Rattle.ns_code.specs.declared.body.BodyCode.{BodyCode}
use Rattle.ns_code.specs.declared.instruction.Instr.TheVariants as instr
use Rattle.ns_code.specs.Selector.{selector_arity}
use Rattle.ns_code.specs.Soundness.{clause_kind}
use Rattle.ns_verify.specs.Verify.{IsSound}
use Rattle.ns_verify.specs.Uses.{IsStartOf}
use Rattle.ns_world.specs.declared.value.Value.{Value}
use Rattle.ns_world.specs.declared.value.Value.TheVariants.{Nil, True, False, Int, Sym, Kernel, Ref}
use Rattle.ns_world.specs.Heap.{Heap}
use Rattle.ns_world.specs.Layout.{declaration_of}
use Rattle.ns_world.specs.Lawful.{IsLawful, IsLiveValue, HasHolder, FitsBody}
use Rattle.ns_moves.specs.Classes.{super_selector}
use Rattle.ns_moves.specs.Fitting.{FitsMessage}
use Rattle.ns_moves.specs.Lawful.{FitsActivation}
use Rattle.ns_machine_frames.specs.declared.frame.Frame.TheVariants.{Running}
use Rattle.ns_machine_frames.specs.declared.frame.Activation.{Activation}
use Rattle.ns_machine_frames.specs.declared.frame.RunningFrame.{RunningFrame}
use Rattle.ns_machine_frames.specs.declared.registers.Registers.{Registers}
use Rattle.ns_machine_frames.specs.Standing.{Stood, Runs, Loops, below, pushed_all, operands_in}
use Rattle.ns_machine_frames.specs.Stack.{stood, with_top}
use Rattle.ns_machine_frames.specs.View.{activation_shown}
use Rattle.ns_machine_core.specs.declared.state.Core.{Core}
use Rattle.ns_machine_core.specs.Shown.{progress_in}
use Rattle.ns_moves.specs.Bodies.{height_in}
use Rattle.ns_machine_core.specs.Doing.{Finds, FindsWhatItTakes, CanDo}
use Rattle.ns_machine_core.specs.laws.Pushed.{top_stands}

-- ---- operands that are taken

all_right : (P : Value → Type 0) (xs ys : List Value) → All P (xs ++ ys) → All P ys
all_right P [] ys all = all
all_right P (x ∷ xs) ys all = all_right P xs ys (All-tail P x (xs ++ ys) all)

all_taken : (P : Value → Type 0) (xs ys : List Value) → All P (reverse xs ++ ys) → All P xs
all_taken P [] ys all = All-nil P
all_taken P (x ∷ xs) ys all =
    let moved = subst (All P) (ap (λ (l : List Value). l ++ ys) (reverse-append (x ∷ []) xs) ∙ append_assoc (reverse xs) (x ∷ []) ys) all in
    All-cons P x xs (All-head P x ys (all_right P (reverse xs) (x ∷ ys) moved)) (all_taken P xs (x ∷ ys) moved)

-- ---- what is found

there_is : {A : Type 0} (o : Option A) → IsSome o → (a : A) × (o ≡ Some a)
there_is {A = A} None some = absurd (cc)
there_is {A = A} (Some a) some = (a, refl)

-- the declaration of the holder is that of the body
holder_declares : (heap : Heap) (code : CodeProgram) (b : BodyCode) (me : Value) (holder : ℕ) → FitsBody heap code b me holder →
    declaration_of heap holder ≡ b.class
holder_declares heap code b (Ref at) holder fits = fits.1
holder_declares heap code b Nil holder fits = absurd fits
holder_declares heap code b True holder fits = absurd fits
holder_declares heap code b False holder fits = absurd fits
holder_declares heap code b (Int number) holder fits = absurd fits
holder_declares heap code b (Sym sel) holder fits = absurd fits
holder_declares heap code b (Kernel class) holder fits = absurd fits

-- A message has as many arguments as it takes.
message_fits : (heap : Heap) (code : CodeProgram) (places : List SourcePlace) (b : BodyCode) (activation : Activation) (argc : ℕ) (items : List Value)
    → declaration_of heap activation.holder ≡ b.class → IsStartOf code b argc → length items ≡ argc → FitsMessage heap code (activation_shown places activation) items
message_fits heap code places b activation argc items declares (declared, is, name, arity) many =
    let at : slice_get code.classes (declaration_of heap activation.holder) ≡ Some declared = ap (slice_get code.classes) declares ∙ is in
    let same : super_selector code (declaration_of heap activation.holder) ≡ declared.super_sel.0 = ap (λ o. option_map_or (λ (class : ClassCode). class.super_sel.0) o 0) at in
    record { arity = many ∙ (arity ∙ ap (selector_arity code) (sym same)) }

-- The code is sound and its world lawful; self is an object with the holder, the arguments are live and as many as the message
-- takes, and the operands below them are no more than the body has at most.
pub record PartFinds (code : CodeProgram) (core : Core) (activation : Activation) (under : List Stood) (items : List Value) : Type 0 where
  pub sound : IsSound code
  pub lawful : IsLawful core.run.world.world code
  pub live : IsLiveValue core.run.world.world.cells code activation.me
  pub holder : HasHolder core.run.world.world.cells activation.me activation.holder
  pub arguments : All (IsLiveValue core.run.world.world.cells code) items
  pub message : FitsMessage core.run.world.world.cells code (activation_shown core.places activation) items
  pub few : length (operands_in under) ≤ height_in code activation.body
  pub fits : FitsActivation core.run.world.world.cells code (activation_shown core.places activation)

-- by what the instruction finds in its frame
found_in : (code : CodeProgram) (core : Core) (argc : ℕ) (frame : RunningFrame) (locals stack items : List Value) (others : List Stood) →
    length items ≡ argc
    → FindsWhatItTakes code core.places (instr.InitSuper argc) frame locals (reverse items ++ stack) (progress_in core)
    → PartFinds code core frame.activation (Runs frame locals stack ∷ others) items
found_in code core argc frame locals stack items others many finds =
    let b = there_is (slice_get code.bodies frame.activation.body) finds.fits.there in
    let usable = finds.uses b.0 b.1 in
    let kind = ap (λ o. option_map_or (λ (b : BodyCode). b.kind) o clause_kind) b.1 in
    let room = finds.room refl in
    let sum = length-append (reverse items) stack in
    let long = length-reverse items in
    record {
      sound = finds.sound;
      lawful = finds.lawful;
      live = finds.fits.live;
      holder = finds.object (kind ∙ usable.1);
      arguments = all_taken (IsLiveValue core.run.world.world.cells code) items stack finds.live;
      message = message_fits core.run.world.world.cells code core.places b.0 frame.activation argc items
          (holder_declares core.run.world.world.cells code b.0 frame.activation.me frame.activation.holder (finds.fits.fits b.0 b.1)) usable.0 many;
      few = omega (arith, room, sum, long, many);
      fits = finds.fits;
    }

pub part_finds : (code : CodeProgram) (core : Core) (at : Registers) (argc : ℕ) (frame : RunningFrame) (items : List Value) →
    CanDo code core at (instr.InitSuper argc)
    → core.stack.frames.items ≡ Running frame ∷ below core.stack.frames.items
    → stood core.stack at ≡ pushed_all items (stood core.stack (with_top (at.top - argc) at)) → length items ≡ argc
    → PartFinds code core frame.activation (stood core.stack (with_top (at.top - argc) at)) items
part_finds code core at argc frame items can top e many =
    by_stood (stood core.stack (with_top (at.top - argc) at)) e
    (subst (λ (s : List Stood). Finds code core.places (instr.InitSuper argc) s (progress_in core)) e can.finds)
  where
    by_stood : (s : List Stood) → stood core.stack at ≡ pushed_all items s → Finds code core.places (instr.InitSuper argc) (pushed_all items s) (progress_in core)
        → PartFinds code core frame.activation s items
    by_stood [] e finds = absurd finds
    by_stood (Loops one ∷ s) e finds = absurd finds
    by_stood (Runs one locals stack ∷ s) e finds =
        let same = top_stands core at frame one locals (reverse items ++ stack) s top (sym e) in
        subst (λ (a : Activation). PartFinds code core a (Runs one locals stack ∷ s) items) (ap (λ (f : RunningFrame). f.activation) same)
        (found_in code core argc one locals stack items s many finds)
