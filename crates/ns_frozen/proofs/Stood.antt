-- The frames of a run are those that their plain data stands for.
use Rattle.std.proofs.Common.{◌≡◌, ℕ, zero, suc, ◌-◌, List, [], ◌∷◌, ◌++◌, length, reverse, slice_get, refl, ap, sym, ◌∙◌, subst, Option, Some, None, IsSome, Bool, true, false, cond, ◌||◌, arith}
use Rattle.std.proofs.lemmas.List.{reverse-append, reverse-reverse}
use Rattle.std.specs.Prelude.{◌==◌, IsTrue}
use Rattle.std.specs.Option.{option_map_or, ForSome}
use Rattle.ns_code.specs.declared.program.CodeProgram.{CodeProgram}
use Rattle.ns_code.specs.declared.body.BodyCode.{BodyCode}
use Rattle.ns_code.specs.declared.instruction.Instr.{Instr}
use Rattle.ns_code.specs.declared.instruction.Instr.TheVariants as instr
use Rattle.ns_code.specs.Soundness.{block_kind}
use Rattle.ns_code.specs.Table.{takes}
use Rattle.ns_world.specs.declared.value.Value.{Value}
use Rattle.ns_moves.specs.Control.{Progress, Activation, FromMethod, FromBody, FromClause}
use Rattle.ns_moves.specs.Fitting.{kind_of}
use Rattle.ns_moves.specs.Steps.{PlacedInstr, steps_from}
use Rattle.ns_moves.specs.State.{Leaving, Loud, Silent, Frame, Running, Looping}
use Rattle.ns_moves.specs.ValidFrames.{Awaited, Nothing, SendValue, BlockValue, PartEnd, awaited_below, is_send, is_super_part, next_number, height_of, WaitsBehind, Stands, ends_kind, RunningIsValid, FrameIsValid, FramesAreValid}
use Rattle.ns_frozen.specs.declared.frame.FrameKind.TheVariants as kinds
use Rattle.ns_frozen.specs.declared.frame.FrozenFrame.{FrozenFrame}
use Rattle.ns_frozen.specs.Freezing.{kind_frozen, instr_frozen, frame_frozen, frames_down, frames_frozen}
use Rattle.ns_frozen.specs.Thawing.{is_super_at, initialiser_leaves, is_at_super, rest_thawed, frame_thawed, running_thawed, is_below, frames_onto, frames_thawed}
use Rattle.ns_frozen.proofs.Framed.{or_false, or_true}

-- ---- one frame on others

-- whether something is awaited
abbrev pub is_waiting : Awaited → Bool
is_waiting Nothing = false
is_waiting SendValue = true
is_waiting BlockValue = true
is_waiting PartEnd = true

-- whether the last of some frames stands at a superclass message, or what held before them
abbrev part_after : CodeProgram → Bool → List FrozenFrame → Bool
part_after code part [] = part
part_after code part (frame ∷ frames) = part_after code (is_at_super code frame.kind frame.instr) frames

below_more : (frames : List FrozenFrame) (last : FrozenFrame) → is_below (frames ++ last ∷ []) ≡ true
below_more [] last = refl
below_more (frame ∷ frames) last = refl

-- the last of some frames
part_last : (code : CodeProgram) (part : Bool) (frames : List FrozenFrame) (last : FrozenFrame) → part_after code part (frames ++ last ∷ []) ≡ is_at_super code last.kind last.instr
part_last code part [] last = refl
part_last code part (frame ∷ frames) last = part_last code (is_at_super code frame.kind frame.instr) frames last

-- a frame above others, which all wait
onto_last : (code : CodeProgram) (waits part : Bool) (below : List Frame) (frames : List FrozenFrame) (last : FrozenFrame)
    → frames_onto code waits part below (frames ++ last ∷ []) ≡ frame_thawed code (part_after code part frames) waits last.kind last ∷ frames_onto code true part below frames
onto_last code waits part below [] last = ap (λ w. frame_thawed code part w last.kind last ∷ below) (or_false waits)
onto_last code waits part below (frame ∷ frames) last =
    ap (λ b. frames_onto code waits (is_at_super code frame.kind frame.instr) (frame_thawed code part (waits || b) frame.kind frame ∷ below) (frames ++ last ∷ [])) (below_more frames last)
    ∙ (ap (λ w. frames_onto code waits (is_at_super code frame.kind frame.instr) (frame_thawed code part w frame.kind frame ∷ below) (frames ++ last ∷ [])) (or_true waits)
    ∙ onto_last code waits (is_at_super code frame.kind frame.instr) (frame_thawed code part true frame.kind frame ∷ below) frames last)

-- ---- where a body stands

-- whether a body of a kind stands at a superclass message
at_super : (code : CodeProgram) (leaving : Leaving) (body number : ℕ) → is_at_super code (kind_frozen code leaving body) number ≡ is_super_at code body number
at_super code (Loud FromMethod) body number = refl
at_super code (Loud (FromClause object holder class)) body number = refl
at_super code Silent body number = refl
at_super code (Loud FromBody) body number = either (kind_of code body == block_kind)
  where
    either : (b : Bool) → is_at_super code (cond b (kinds.Block body) (kinds.Initialiser body)) number ≡ is_super_at code body number
    either true = refl
    either false = refl

-- a send is no superclass message
sends_apart : (one : Instr) → is_send one ≡ true → is_super_part one ≡ false
sends_apart (instr.InitSuper argc) e = absurd (cc)
sends_apart other e = refl

-- What is known of a body that waits: the number of its next instruction is that of another one and 1, and that one waits.
record Behind (code : CodeProgram) (body next : ℕ) (part : Bool) : Type 0 where
  number : ℕ
  next_is : next ≡ suc number
  super_is : is_super_at code body number ≡ part

behind : (code : CodeProgram) (number next count : ℕ) (body : BodyCode) (waits : Instr → Bool) (part : Bool) → slice_get code.bodies number ≡ Some body → ((one : Instr) → waits one ≡ true → is_super_part one ≡ part)
    → WaitsBehind body next count waits → Behind code number next part
behind code number zero count body waits part is tells w = absurd w
behind code number (suc last) count body waits part is tells w = record {
  number = last;
  next_is = refl;
  super_is = rw is (found (slice_get body.instrs last) w.0 w.1);
}
  where
    found : (o : Option Instr) → IsSome o → ForSome o (λ (before : Instr). IsTrue (waits before) × (count ≡ height_of body last - takes before)) → option_map_or is_super_part o false ≡ part
    found None there holds = absurd (cc)
    found (Some one) there holds = tells one ((holds one refl).0)

-- whether a superclass part's end is awaited
abbrev awaits_part : Awaited → Bool
awaits_part Nothing = false
awaits_part SendValue = false
awaits_part BlockValue = false
awaits_part PartEnd = true

-- a body that waits stands behind a superclass message where a part's end is awaited, and else behind another one
stands_behind : (code : CodeProgram) (awaited : Awaited) (number next count : ℕ) (body : BodyCode) → slice_get code.bodies number ≡ Some body → is_waiting awaited ≡ true → Stands body awaited next count → Behind code number next (awaits_part awaited)
stands_behind code Nothing number next count body is w s = absurd (cc)
stands_behind code SendValue number next count body is w s = behind code number next count body is_send false is sends_apart s
stands_behind code BlockValue number next count body is w s = behind code number next count body is_send false is sends_apart s
stands_behind code PartEnd number next count body is w s = behind code number next count body is_super_part true is (λ one e. e) s

module _ (code : CodeProgram) (progress : Progress) where
  -- the same of a frame of a body
  running_behind : (awaited : Awaited) (leaving : Leaving) (activation : Activation) (locals : List Value) (rest : List PlacedInstr) (stack : List Value) → is_waiting awaited ≡ true
      → RunningIsValid code progress awaited leaving activation locals rest stack → Behind code activation.body (next_number code activation.body rest) (awaits_part awaited)
  running_behind awaited leaving activation locals rest stack w v = found (slice_get code.bodies activation.body) refl v.fits.there v.stands
    where
      found : (o : Option BodyCode) → slice_get code.bodies activation.body ≡ o → IsSome o → ForSome o (λ (b : BodyCode). Stands b awaited (next_number code activation.body rest) (length stack))
          → Behind code activation.body (next_number code activation.body rest) (awaits_part awaited)
      found None is there stands = absurd (cc)
      found (Some body) is there stands =
          stands_behind code awaited activation.body (next_number code activation.body rest) (length stack) body is w (stands body refl)

  -- what is left of a body
  rest_there : (awaited : Awaited) (leaving : Leaving) (activation : Activation) (locals : List Value) (rest : List PlacedInstr) (stack : List Value) → RunningIsValid code progress awaited leaving activation locals rest stack
      → rest_thawed code (is_waiting awaited) activation.body (instr_frozen code (is_waiting awaited) activation.body rest) ≡ rest
  rest_there awaited leaving activation locals rest stack v = waits (is_waiting awaited) refl
    where
      waits : (b : Bool) → is_waiting awaited ≡ b → rest_thawed code b activation.body (instr_frozen code b activation.body rest) ≡ rest
      waits false w = sym v.inside
      waits true w =
          let b = running_behind awaited leaving activation locals rest stack w v in
          ap (steps_from code activation.body) (omega (arith, b.next_is)) ∙ sym v.inside

  -- ---- one frame

  -- the end of a frame is told by its kind, and by whether the frame below it stands at a superclass message
  leaving_there : (part waits : Bool) (leaving : Leaving) (activation : Activation) (locals : List Value) (rest : List PlacedInstr) (stack : List Value)
      → part ≡ awaits_part (awaited_below code (Running leaving activation locals rest stack)) → IsTrue (ends_kind leaving (kind_of code activation.body))
      → (frame : FrozenFrame) → frame_thawed code part waits (kind_frozen code leaving activation.body) frame ≡ running_thawed code waits leaving activation.body frame
  leaving_there part waits (Loud FromMethod) activation locals rest stack p k frame = refl
  leaving_there part waits (Loud (FromClause object holder class)) activation locals rest stack p k frame = refl
  leaving_there part waits Silent activation locals rest stack p k frame = ap (λ b. running_thawed code waits (initialiser_leaves b) activation.body frame) p
  leaving_there part waits (Loud FromBody) activation locals rest stack p k frame = either (kind_of code activation.body == block_kind) p
    where
      either : (b : Bool) → part ≡ awaits_part (cond b BlockValue SendValue) → frame_thawed code part waits (cond b (kinds.Block activation.body) (kinds.Initialiser activation.body)) frame ≡ running_thawed code waits (Loud FromBody) activation.body frame
      either true p = refl
      either false p = ap (λ b. running_thawed code waits (initialiser_leaves b) activation.body frame) p

  frame_there : (awaited : Awaited) (part : Bool) (frame : Frame) → FrameIsValid code progress awaited frame → part ≡ awaits_part (awaited_below code frame)
      → frame_thawed code part (is_waiting awaited) (frame_frozen code (is_waiting awaited) frame).kind (frame_frozen code (is_waiting awaited) frame) ≡ frame
  frame_there awaited part (Looping method state site) v p = refl
  frame_there awaited part (Running leaving activation locals rest stack) v p =
      leaving_there part (is_waiting awaited) leaving activation locals rest stack p v.kind (frame_frozen code (is_waiting awaited) (Running leaving activation locals rest stack))
      ∙ (ap (λ (steps : List PlacedInstr). Running leaving activation locals steps (reverse (reverse stack))) (rest_there awaited leaving activation locals rest stack v)
      ∙ ap (λ (operands : List Value). Running leaving activation locals rest operands) (reverse-reverse stack))

  -- ---- all frames

  -- the topmost frame and the others
  pub valid_parts : (awaited : Awaited) (frame : Frame) (frames : List Frame) → FramesAreValid code progress awaited (frame ∷ frames)
      → FrameIsValid code progress awaited frame × FramesAreValid code progress (awaited_below code frame) frames
  valid_parts Nothing frame frames v = v
  valid_parts SendValue frame frames v = v
  valid_parts BlockValue frame frames v = v
  valid_parts PartEnd frame frames v = v

  abbrev part_below : List Frame → Bool
  part_below [] = false
  part_below (frame ∷ frames) = is_at_super code (frame_frozen code true frame).kind (frame_frozen code true frame).instr

  -- whether the topmost frame stands at a superclass message
  frozen_part : (frames : List Frame) → part_after code false (frames_frozen code true frames) ≡ part_below frames
  frozen_part [] = refl
  frozen_part (frame ∷ frames) =
      ap (part_after code false) (reverse-append (frame_frozen code true frame ∷ []) (frames_down code true frames))
      ∙ part_last code false (frames_frozen code true frames) (frame_frozen code true frame)

  -- a frame that waits stands at one exactly where a part's end is awaited
  waiting_part : (awaited : Awaited) (frames : List Frame) → is_waiting awaited ≡ true → FramesAreValid code progress awaited frames → part_below frames ≡ awaits_part awaited
  waiting_part Nothing frames w v = absurd (cc)
  waiting_part SendValue [] w v = refl
  waiting_part BlockValue [] w v = refl
  waiting_part PartEnd [] w v = absurd v
  waiting_part awaited (Running leaving activation locals rest stack ∷ frames) w v =
      let b = running_behind awaited leaving activation locals rest stack w ((valid_parts awaited (Running leaving activation locals rest stack) frames v).0) in
      at_super code leaving activation.body (next_number code activation.body rest - 1)
      ∙ (ap (is_super_at code activation.body) (omega (arith, b.next_is)) ∙ b.super_is)
  waiting_part SendValue (Looping method state site ∷ frames) w v = absurd (cc (v.0.waits))
  waiting_part BlockValue (Looping method state site ∷ frames) w v = refl
  waiting_part PartEnd (Looping method state site ∷ frames) w v = absurd (cc (v.0.waits))

  -- what stands below a frame awaits something
  pub below_waits : (frame : Frame) → is_waiting (awaited_below code frame) ≡ true
  below_waits (Running Silent activation locals rest stack) = refl
  below_waits (Running (Loud exit) activation locals rest stack) = either (kind_of code activation.body == block_kind)
    where
      either : (b : Bool) → is_waiting (cond b BlockValue SendValue) ≡ true
      either true = refl
      either false = refl
  below_waits (Looping method state site) = refl

  -- The frames of a run are those that their plain data stands for.
  pub frames_there : (awaited : Awaited) (frames : List Frame) → FramesAreValid code progress awaited frames → frames_thawed code (is_waiting awaited) (frames_frozen code (is_waiting awaited) frames) ≡ frames
  frames_there awaited [] v = refl
  frames_there awaited (frame ∷ frames) v =
      let parts = valid_parts awaited frame frames v in
      let waits : Bool = is_waiting awaited in
      let top : FrozenFrame = frame_frozen code waits frame in
      let below = awaited_below code frame in
      let below_is : is_waiting below ≡ true = below_waits frame in
      let others : frames_thawed code true (frames_frozen code true frames) ≡ frames =
      subst (λ w. frames_thawed code w (frames_frozen code w frames) ≡ frames) below_is (frames_there below frames parts.1) in
      let part : part_after code false (frames_frozen code true frames) ≡ awaits_part below = frozen_part frames ∙ waiting_part below frames below_is parts.1 in
      ap (frames_thawed code waits) (reverse-append (top ∷ []) (frames_down code true frames))
      ∙ (onto_last code waits false [] (frames_frozen code true frames) top
      ∙ (ap (λ (list : List Frame). frame_thawed code (part_after code false (frames_frozen code true frames)) waits top.kind top ∷ list) others
      ∙ ap (λ (one : Frame). one ∷ frames) (frame_there awaited (part_after code false (frames_frozen code true frames)) frame parts.0 part)))
