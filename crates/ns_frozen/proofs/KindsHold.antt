-- A good frame of each kind is one that a run can have.
use Rattle.std.proofs.Common.{◌≡◌, ℕ, refl, ap, sym, ◌∙◌, arith, Bool, true, false}
use Rattle.std.proofs.lemmas.Bool.{and_parts}
use Rattle.std.specs.Prelude.{nat_lt, nat_le, ◌==◌}
use Rattle.ns_code.specs.declared.program.CodeProgram.{CodeProgram}
use Rattle.ns_code.specs.Soundness.{method_kind, block_kind, initialiser_kind}
use Rattle.ns_world.specs.Heap.{Heap}
use Rattle.ns_world.specs.Lawful.{IsLawful}
use Rattle.ns_moves.specs.Bodies.{no_home}
use Rattle.ns_moves.specs.Control.{Progress, FromMethod, FromBody}
use Rattle.ns_moves.specs.State.{Loud, Silent}
use Rattle.ns_moves.specs.ValidFrames.{Awaited, FrameIsValid}
use Rattle.ns_frozen.specs.declared.frame.FrameKind.{FrameKind}
use Rattle.ns_frozen.specs.declared.frame.FrameKind.TheVariants as kinds
use Rattle.ns_frozen.specs.declared.frame.FrozenFrame.{FrozenFrame}
use Rattle.ns_frozen.specs.Thawing.{is_super_at, frame_thawed}
use Rattle.ns_frozen.specs.Live.{has_holder}
use Rattle.ns_frozen.specs.Frames.{Above, ends_well, is_running_kind}
use Rattle.ns_frozen.proofs.FrameHolds.{Given}
use Rattle.ns_frozen.proofs.Holds.{holder_holds}
use Rattle.ns_frozen.proofs.RunningHolds.{running_holds}
use Rattle.ns_frozen.proofs.Stood.{is_waiting}

module _ (code : CodeProgram) (progress : Progress) (lawful : IsLawful progress.world code) where
  abbrev heap : Heap
  heap = progress.world.cells

  ends_of : (least : ℕ) (above : Above) (frame : FrozenFrame) (sort number : ℕ) (kind : FrameKind) → frame.kind ≡ kind → is_running_kind code heap progress.begun least above frame sort number ≡ true
      → ends_well code heap progress.begun least frame kind ≡ true
  ends_of least above frame sort number kind k e = ap (ends_well code heap progress.begun least frame) (sym k) ∙ (and_parts _ (ends_well code heap progress.begun least frame frame.kind) e).1

  pub method_holds : (least : ℕ) (awaited : Awaited) (above : Above) (part : Bool) (frame : FrozenFrame) (body : ℕ) → frame.kind ≡ kinds.Method body → Given (is_super_at code body frame.instr) awaited above
      → is_running_kind code heap progress.begun least above frame method_kind body ≡ true → FrameIsValid code progress awaited (frame_thawed code part (is_waiting awaited) (kinds.Method body) frame)
  method_holds least awaited above part frame body k g e =
      running_holds code progress lawful least method_kind body awaited above (Loud FromMethod) frame g e refl tt (λ q. absurd (omega (arith, q)))
      ((and_parts (nat_lt frame.home progress.begun) (nat_le least frame.home) (ends_of least above frame method_kind body (kinds.Method body) k e)).0)

  pub block_holds : (least : ℕ) (awaited : Awaited) (above : Above) (part : Bool) (frame : FrozenFrame) (body : ℕ) → frame.kind ≡ kinds.Block body → Given (is_super_at code body frame.instr) awaited above
      → is_running_kind code heap progress.begun least above frame block_kind body ≡ true → FrameIsValid code progress awaited (frame_thawed code part (is_waiting awaited) (kinds.Block body) frame)
  block_holds least awaited above part frame body k g e =
      running_holds code progress lawful least block_kind body awaited above (Loud FromBody) frame g e refl tt (λ q. absurd (omega (arith, q))) (ends_of least above frame block_kind body (kinds.Block body) k e)

  pub initialiser_holds : (least : ℕ) (awaited : Awaited) (above : Above) (part : Bool) (frame : FrozenFrame) (body : ℕ) → frame.kind ≡ kinds.Initialiser body → Given (is_super_at code body frame.instr) awaited above
      → is_running_kind code heap progress.begun least above frame initialiser_kind body ≡ true → FrameIsValid code progress awaited (frame_thawed code part (is_waiting awaited) (kinds.Initialiser body) frame)
  initialiser_holds least awaited above true frame body k g e =
      let ends = and_parts (has_holder code heap frame.holder frame.receiver) (frame.home == no_home) (ends_of least above frame initialiser_kind body (kinds.Initialiser body) k e) in
      running_holds code progress lawful least initialiser_kind body awaited above Silent frame g e refl tt (λ q. holder_holds code heap frame.receiver frame.holder ends.0) ends.1
  initialiser_holds least awaited above false frame body k g e =
      let ends = and_parts (has_holder code heap frame.holder frame.receiver) (frame.home == no_home) (ends_of least above frame initialiser_kind body (kinds.Initialiser body) k e) in
      running_holds code progress lawful least initialiser_kind body awaited above (Loud FromBody) frame g e refl tt (λ q. holder_holds code heap frame.receiver frame.holder ends.0) ends.1
