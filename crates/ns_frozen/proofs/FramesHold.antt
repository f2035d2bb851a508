-- The frames of a valid frozen state are those that a run can have.
use Rattle.std.proofs.Common.{◌≡◌, ℕ, ◌+◌, List, [], ◌∷◌, refl, ap, sym, ◌∙◌, subst, arith, Option, Some, None, slice_get, Bool, true, false, cond, ◌&&◌, ◌||◌}
use Rattle.std.proofs.lemmas.Bool.{and_parts, cond-true, cond-false, eq-eqb, eqb-true, ne_eqb}
use Rattle.std.specs.Prelude.{◌==◌}
use Rattle.std.specs.Option.{option_map_or}
use Rattle.ns_code.specs.declared.program.CodeProgram.{CodeProgram}
use Rattle.ns_code.specs.declared.body.BodyCode.{BodyCode}
use Rattle.ns_code.specs.Soundness.{method_kind, block_kind, initialiser_kind, clause_kind}
use Rattle.ns_world.specs.Heap.{Heap}
use Rattle.ns_world.specs.Lawful.{IsLawful}
use Rattle.ns_moves.specs.Control.{Progress}
use Rattle.ns_moves.specs.Fitting.{kind_of}
use Rattle.ns_moves.specs.State.{Frame}
use Rattle.ns_moves.specs.ValidFrames.{Awaited, Nothing, SendValue, BlockValue, PartEnd, awaited_below, FrameIsValid, FramesAreValid}
use Rattle.ns_frozen.specs.declared.frame.FrameKind.{FrameKind}
use Rattle.ns_frozen.specs.declared.frame.FrameKind.TheVariants as kinds
use Rattle.ns_frozen.specs.declared.frame.FrozenFrame.{FrozenFrame}
use Rattle.ns_frozen.specs.Thawing.{is_at_super, frame_thawed, is_below, frames_onto}
use Rattle.ns_frozen.specs.Frames.{Above, Under, is_under_initialiser, is_under_block, above_of, is_running, is_running_kind, is_good_frame, least_above, bad_frame_from}
use Rattle.ns_frozen.specs.Rest.{is_kernel, is_on_kernel}
use Rattle.ns_frozen.proofs.ClausesHold.{clause_holds}
use Rattle.ns_frozen.proofs.FrameHolds.{Given, and_false}
use Rattle.ns_frozen.proofs.Framed.{first_good, or_false, or_true}
use Rattle.ns_frozen.proofs.KindsHold.{method_holds, block_holds, initialiser_holds}
use Rattle.ns_frozen.proofs.LoopingHolds.{looping_holds}
use Rattle.ns_frozen.proofs.Stood.{is_waiting}

-- ---- what a frame gives to the one below it

-- A frame of that kind gives what is awaited below it, which it awaits of a block where it is one.
record GivesTo (part : Bool) (awaited : Awaited) (kind : FrameKind) : Type 0 where
  given : Given part awaited (Under kind)
  sent : awaited ≡ SendValue → is_under_block (Under kind) ≡ false
  waits : is_waiting awaited ≡ true

-- the value of a send
send_gives : (part : Bool) (awaited : Awaited) (kind : FrameKind) → awaited ≡ SendValue → (part && is_under_initialiser (Under kind)) ≡ false → is_under_block (Under kind) ≡ false → GivesTo part awaited kind
send_gives part awaited kind a i u = record {
  given = subst (λ (x : Awaited). Given part x (Under kind)) (sym a) (refl, i);
  sent = λ s. u;
  waits = ap is_waiting a;
}

-- the value of a block
block_gives : (part : Bool) (awaited : Awaited) (kind : FrameKind) → awaited ≡ BlockValue → is_under_block (Under kind) ≡ true → GivesTo part awaited kind
block_gives part awaited kind a u = record {
  given = subst (λ (x : Awaited). Given part x (Under kind)) (sym a) (refl, u);
  sent = λ s. absurd (cc (a, s));
  waits = ap is_waiting a;
}

-- above a method of the kernel that is the last frame nothing is sent
calm_below : (frame : FrozenFrame) (frames : List FrozenFrame) → is_on_kernel (frame ∷ frames) ≡ false → is_on_kernel frames ≡ false
calm_below frame [] e = refl
calm_below frame (next ∷ frames) e = e

module _ (code : CodeProgram) (progress : Progress) (lawful : IsLawful progress.world code) where
  abbrev heap : Heap
  heap = progress.world.cells

  -- the body of a good frame is of its kind
  kind_holds : (least : ℕ) (above : Above) (frame : FrozenFrame) (sort number : ℕ) → is_running_kind code heap progress.begun least above frame sort number ≡ true → kind_of code number ≡ sort
  kind_holds least above frame sort number e =
      found (slice_get code.bodies number) refl ((and_parts (option_map_or (λ (b : BodyCode). b.kind == sort && is_running code heap above frame number b) (slice_get code.bodies number) false) _ e).0)
    where
      found : (o : Option BodyCode) → slice_get code.bodies number ≡ o → option_map_or (λ (b : BodyCode). b.kind == sort && is_running code heap above frame number b) o false ≡ true → kind_of code number ≡ sort
      found None is e = absurd (cc)
      found (Some body) is e = ap (λ o. option_map_or (λ (b : BodyCode). b.kind) o clause_kind) is ∙ eqb-true body.kind sort ((and_parts (body.kind == sort) (is_running code heap above frame number body) e).0)

  -- what is awaited of a body by its kind
  block_value : (number : ℕ) → kind_of code number ≡ block_kind → cond (kind_of code number == block_kind) BlockValue SendValue ≡ BlockValue
  block_value number k = cond-true (kind_of code number == block_kind) BlockValue SendValue (eq-eqb (kind_of code number) block_kind k)

  send_value : (number : ℕ) → (kind_of code number ≡ block_kind → ⊥) → cond (kind_of code number == block_kind) BlockValue SendValue ≡ SendValue
  send_value number k = cond-false (kind_of code number == block_kind) BlockValue SendValue (ne_eqb (kind_of code number) block_kind k)

  -- an initialiser on an instruction that is a superclass message gives the end of that part, and else its value
  initialiser_gives : (least : ℕ) (above : Above) (part waits : Bool) (frame : FrozenFrame) (body : ℕ) → is_running_kind code heap progress.begun least above frame initialiser_kind body ≡ true
      → GivesTo part (awaited_below code (frame_thawed code part waits (kinds.Initialiser body) frame)) (kinds.Initialiser body)
  initialiser_gives least above true waits frame body e = record { given = (refl, refl, refl); sent = λ s. absurd (cc (s)); waits = refl }
  initialiser_gives least above false waits frame body e =
      let k = kind_holds least above frame initialiser_kind body e in
      send_gives false _ (kinds.Initialiser body) (send_value body (λ b. omega (arith, k, b))) refl refl

  -- a good frame gives what the one below it awaits
  frame_gives : (least : ℕ) (above : Above) (part waits : Bool) (frame : FrozenFrame) (kind : FrameKind) → is_good_frame code heap progress.begun least above frame kind ≡ true
      → GivesTo part (awaited_below code (frame_thawed code part waits kind frame)) kind
  frame_gives least above part waits frame (kinds.Method body) e =
      let k = kind_holds least above frame method_kind body e in
      send_gives part _ (kinds.Method body) (send_value body (λ b. omega (arith, k, b))) (and_false part false refl) refl
  frame_gives least above part waits frame (kinds.Block body) e = block_gives part _ (kinds.Block body) (block_value body (kind_holds least above frame block_kind body e)) refl
  frame_gives least above part waits frame (kinds.Initialiser body) e = initialiser_gives least above part waits frame body e
  frame_gives least above part waits frame (kinds.Clause body object holder class) e =
      let k = kind_holds least above frame clause_kind body e in
      send_gives part _ (kinds.Clause body object holder class) (send_value body (λ b. omega (arith, k, b))) (and_false part false refl) refl
  frame_gives least above part waits frame (kinds.Kernel method state) e = send_gives part _ (kinds.Kernel method state) refl (and_false part false refl) refl

  -- ---- one frame

  -- A good frame is one that a run can have, where what stands above it gives what it awaits.
  frame_holds : (least : ℕ) (awaited : Awaited) (above : Above) (part : Bool) (frame : FrozenFrame) (kind : FrameKind) → frame.kind ≡ kind → Given (is_at_super code kind frame.instr) awaited above
      → (is_kernel kind ≡ true → awaited ≡ SendValue → is_under_block above ≡ false) → is_good_frame code heap progress.begun least above frame kind ≡ true
      → FrameIsValid code progress awaited (frame_thawed code part (is_waiting awaited) kind frame)
  frame_holds least awaited above part frame (kinds.Method body) k g sent e = method_holds code progress lawful least awaited above part frame body k g e
  frame_holds least awaited above part frame (kinds.Block body) k g sent e = block_holds code progress lawful least awaited above part frame body k g e
  frame_holds least awaited above part frame (kinds.Initialiser body) k g sent e = initialiser_holds code progress lawful least awaited above part frame body k g e
  frame_holds least awaited above part frame (kinds.Clause body object holder class) k g sent e = clause_holds code progress lawful least awaited above part frame body object holder class k g e
  frame_holds least awaited above part frame (kinds.Kernel method state) k g sent e = looping_holds code heap progress.begun least awaited above frame method state g e (sent refl)

  -- ---- all frames

  -- what is awaited by the frame below some frames: what the first of them gives, or that where there is none
  abbrev pub awaited_by : Awaited → Bool → List FrozenFrame → Awaited
  awaited_by awaited part [] = awaited
  awaited_by awaited part (frame ∷ frames) = awaited_below code (frame_thawed code part (is_waiting awaited || is_below frames) frame.kind frame)

  -- What is known of what stands above a frame of that kind, which is some frames or the top of all.
  record Gives (kind : FrameKind) (awaited : Awaited) (part : Bool) (top : Above) (frames : List FrozenFrame) : Type 0 where
    given : Given part (awaited_by awaited part frames) (above_of top frames)
    sent : is_kernel kind ≡ true → awaited_by awaited part frames ≡ SendValue → is_under_block (above_of top frames) ≡ false
    waits : is_waiting (awaited_by awaited part frames) ≡ (is_waiting awaited || is_below frames)

  frames_give : (least place : ℕ) (awaited : Awaited) (part : Bool) (top : Above) (frame : FrozenFrame) (frames : List FrozenFrame) → Given part awaited top
      → (awaited ≡ SendValue → is_on_kernel (frame ∷ frames) ≡ false) → bad_frame_from code heap progress.begun top least place frames ≡ None → Gives frame.kind awaited part top frames
  frames_give least place awaited part top frame [] g calm e = record {
    given = g;
    sent = λ k s. absurd (cc (k, calm s));
    waits = sym (or_false (is_waiting awaited));
  }
  frames_give least place awaited part top frame (next ∷ frames) g calm e =
      let good = first_good (is_good_frame code heap progress.begun least (above_of top frames) next next.kind) _ place e in
      let gives = frame_gives least (above_of top frames) part (is_waiting awaited || is_below frames) next next.kind good.0 in
      record {
        given = gives.given;
        sent = λ k s. gives.sent s;
        waits = gives.waits ∙ sym (or_true (is_waiting awaited));
      }

  -- a frame on others
  valid_onto : (awaited : Awaited) (frame : Frame) (frames : List Frame) → FrameIsValid code progress awaited frame → FramesAreValid code progress (awaited_below code frame) frames → FramesAreValid code progress awaited (frame ∷ frames)
  valid_onto Nothing frame frames f v = (f, v)
  valid_onto SendValue frame frames f v = (f, v)
  valid_onto BlockValue frame frames f v = (f, v)
  valid_onto PartEnd frame frames f v = (f, v)

  -- Good frames on valid ones are valid.
  pub frames_hold : (top : Above) (awaited : Awaited) (least place : ℕ) (part : Bool) (below : List Frame) (frames : List FrozenFrame) → ((part : Bool) → Given part awaited top)
      → (awaited ≡ SendValue → is_on_kernel frames ≡ false) → bad_frame_from code heap progress.begun top least place frames ≡ None
      → FramesAreValid code progress (awaited_by awaited part frames) below → FramesAreValid code progress awaited (frames_onto code (is_waiting awaited) part below frames)
  frames_hold top awaited least place part below [] g calm e v = v
  frames_hold top awaited least place part below (frame ∷ frames) g calm e v =
      let good = first_good (is_good_frame code heap progress.begun least (above_of top frames) frame frame.kind) _ place e in
      let next : ℕ = least_above least frame frame.kind in
      let at : Bool = is_at_super code frame.kind frame.instr in
      let by : Awaited = awaited_by awaited at frames in
      let gives = frames_give next (place + 1) awaited at top frame frames (g at) calm good.1 in
      let holds : FrameIsValid code progress by (frame_thawed code part (is_waiting awaited || is_below frames) frame.kind frame) =
      subst (λ (w : Bool). FrameIsValid code progress by (frame_thawed code part w frame.kind frame)) gives.waits
      (frame_holds least by (above_of top frames) part frame frame.kind refl gives.given gives.sent good.0) in
      frames_hold top awaited next (place + 1) at (frame_thawed code part (is_waiting awaited || is_below frames) frame.kind frame ∷ below) frames g (λ s. calm_below frame frames (calm s)) good.1
      (valid_onto by (frame_thawed code part (is_waiting awaited || is_below frames) frame.kind frame) below holds v)
