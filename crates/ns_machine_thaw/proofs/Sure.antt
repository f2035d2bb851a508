-- What is sure of valid plain data.
use Rattle.std.proofs.Common.{◌≡◌, ℕ, zero, suc, ◌+◌, ◌-◌, ◌<◌, ◌≤◌, List, [], ◌∷◌, length, get_or, unwrap_or, refl, ap, sym, ◌∙◌, subst, arith, Option, Some, None, slice_get, Bool, true, false, ◌&&◌}
use Rattle.std.proofs.lemmas.Bool.{and_parts, eqb-true, ltb-true}
use Rattle.std.proofs.lemmas.List.Elements.{All-get_or}
use Rattle.std.proofs.lemmas.Option.{slice_get_within, get_or_from_slice_get, unwrap_or-slice_get}
use Rattle.std.specs.Prelude.{nat_lt, ◌==◌, option_map, if◌then◌else◌}
use Rattle.std.specs.Option.{option_map_or, option_or}
use Rattle.ns_code.specs.declared.program.CodeProgram.{CodeProgram}
use Rattle.ns_code.specs.declared.body.BodyCode.{BodyCode}
use Rattle.ns_code.specs.declared.instruction.Instr.{Instr}
use Rattle.ns_code.specs.declared.instruction.Instr.TheVariants.{ReturnSelf}
use Rattle.ns_code.specs.Fits as code_fits
use Rattle.ns_code.specs.Fits.{Fits}
use Rattle.ns_code.specs.Soundness.{method_kind, block_kind, initialiser_kind, clause_kind}
use Rattle.ns_code.specs.Table.{takes}
use Rattle.ns_verify.specs.Verify.{IsSound}
use Rattle.ns_verify.specs.Heights.{heights}
use Rattle.ns_verify.specs.Places.{height_before, HeightsAgree}
use Rattle.ns_world.specs.declared.value.Value.{Value}
use Rattle.ns_world.specs.declared.value.Value.TheVariants.{Nil, True, False, Int, Sym, Kernel, Ref}
use Rattle.ns_world.specs.Heap.{Heap, cell_number}
use Rattle.ns_moves.specs.Bodies as bodies
use Rattle.ns_moves.specs.Bodies.{has_environment, height_in, greatest_of, clause_of, no_home}
use Rattle.ns_moves.specs.Fitting.{environment_body, locals_beside}
use Rattle.ns_moves.specs.Steps.{placed, steps_of}
use Rattle.ns_moves.specs.ValidFrames.{height_of}
use Rattle.ns_moves.specs.laws.Steps.{placed_length}
use Rattle.ns_frozen.specs.declared.fault.RestoreFault.TheVariants.{BadCell, BadFrame, BadRest}
use Rattle.ns_frozen.specs.declared.frame.FrameKind.{FrameKind}
use Rattle.ns_frozen.specs.declared.frame.FrameKind.TheVariants as kinds
use Rattle.ns_frozen.specs.declared.frame.FrozenFrame.{FrozenFrame}
use Rattle.ns_frozen.specs.declared.frozen.Frozen.{Frozen}
use Rattle.ns_frozen.specs.Cells.{bad_cell}
use Rattle.ns_frozen.specs.Fault.{IsValid}
use Rattle.ns_frozen.specs.Frames.{Above, Free, Waiting, Under, above_of, waits_under, stands_at, ends_well, is_running, is_running_kind, is_good_frame, least_above, bad_frame_from, bad_frame}
use Rattle.ns_frozen.specs.Live.{is_ref, fits_body, fits_environment}
use Rattle.ns_frozen.specs.Rest.{is_good_rest}
use Rattle.ns_frozen.specs.Thawing.{heap_thawed}
use Rattle.ns_machine_core.specs.laws.Sizes.{size_fits}
use Rattle.ns_machine_thaw.specs.Frames.{BodyFits, KindFits, FramesFit}

-- ---- the three parts of validity

-- No frame is bad, and the rest is good.
pub record PartsAreGood (code : CodeProgram) (frozen : Frozen) : Type 0 where
  pub frames : bad_frame code (heap_thawed code frozen.cells) frozen ≡ None
  pub rest : is_good_rest code (heap_thawed code frozen.cells) frozen ≡ true

pub parts_of : (code : CodeProgram) (frozen : Frozen) → IsValid code frozen → PartsAreGood code frozen
parts_of code frozen valid =
    by_cells (bad_cell code (heap_thawed code frozen.cells) frozen) (bad_frame code (heap_thawed code frozen.cells) frozen) (is_good_rest code (heap_thawed code frozen.cells) frozen) refl refl valid
  where
    by_rest : (r : Bool) → is_good_rest code (heap_thawed code frozen.cells) frozen ≡ r → (if r then None else Some BadRest) ≡ None → r ≡ true
    by_rest true e h = refl
    by_rest false e h = absurd (cc)

    by_cells : (c f : Option ℕ) (r : Bool) → bad_frame code (heap_thawed code frozen.cells) frozen ≡ f → is_good_rest code (heap_thawed code frozen.cells) frozen ≡ r
        → option_or (option_map BadCell c) (option_or (option_map BadFrame f) (if r then None else Some BadRest)) ≡ None → PartsAreGood code frozen
    by_cells (Some k) f r fe re h = absurd (cc)
    by_cells None (Some k) r fe re h = absurd (cc)
    by_cells None None true fe re h = record { frames = fe; rest = re }
    by_cells None None false fe re h = absurd (cc)

-- what is there has a place
none_there : {A : Type 0} (xs : List A) (k : ℕ) → k < length xs → slice_get xs k ≡ None → ⊥
none_there [] k less e = omega (arith, less)
none_there (x ∷ xs) zero less e = cc
none_there (x ∷ xs) (suc k) less e = none_there xs k (omega (arith, less)) e

-- ---- heights

-- what is known of the heights of sound code
pub record HeightsKnown (code : CodeProgram) : Type 0 where
  pub heights : (body : BodyCode) (at : ℕ) (instr : Instr) → slice_get body.instrs at ≡ Some instr → slice_get (heights body) at ≡ Some (height_before body at)
  pub agree : (number at : ℕ) (body : BodyCode) (instr : Instr) → IsSound code → slice_get code.bodies number ≡ Some body
      → slice_get body.instrs at ≡ Some instr → HeightsAgree body at instr

module _ (code : CodeProgram) (known : HeightsKnown code) (sound : IsSound code) (fits : Fits code) where
  height_within : (number at : ℕ) (body : BodyCode) (instr : Instr) → slice_get code.bodies number ≡ Some body → slice_get body.instrs at ≡ Some instr
      → height_of body at ≤ body.height
  height_within number at body instr there here =
      let is = get_or_from_slice_get (heights body) at (height_before body at) 0 (known.heights body at instr here) in
      let within = (known.agree number at body instr sound there here).within in
      omega (arith, is, within)

  -- a body stands at an instruction with no more operands than it has at most
  stands_low : (number at count : ℕ) (body : BodyCode) (above : Above) → slice_get code.bodies number ≡ Some body → stands_at body above at count ≡ true
      → (at < length body.instrs) × (count ≤ body.height)
  stands_low number at count body above there e = by_instr above (slice_get body.instrs at) refl e
    where
      waits : (above : Above) (o : Option Instr) → slice_get body.instrs at ≡ o
          → option_map_or (λ (instr : Instr). waits_under above instr && count == height_of body at - takes instr) o false ≡ true
          → (at < length body.instrs) × (count ≤ body.height)
      waits above None i e = absurd (cc)
      waits above (Some instr) i e =
          let is = eqb-true count (height_of body at - takes instr) ((and_parts (waits_under above instr) (count == height_of body at - takes instr) e).1) in
          let most = height_within number at body instr there i in
          (slice_get_within body.instrs at instr i, omega (arith, is, most))

      free : (o : Option Instr) → slice_get body.instrs at ≡ o → at < length body.instrs → count ≡ height_of body at → (at < length body.instrs) × (count ≤ body.height)
      free (Some instr) i less is = let most = height_within number at body instr there i in (less, omega (arith, is, most))
      free None i less is = absurd (none_there body.instrs at less i)

      by_instr : (above : Above) (o : Option Instr) → slice_get body.instrs at ≡ o → stands_at body above at count ≡ true → (at < length body.instrs) × (count ≤ body.height)
      by_instr Free o i e =
          let parts = and_parts (nat_lt at (length body.instrs)) (count == height_of body at) e in
          free (slice_get body.instrs at) refl (ltb-true at (length body.instrs) parts.0) (eqb-true count (height_of body at) parts.1)
      by_instr Waiting o i e = waits Waiting (slice_get body.instrs at) refl e
      by_instr (Under kind) o i e = waits (Under kind) (slice_get body.instrs at) refl e

  -- the body of that number has no more instructions than it may
  instrs_few : (number : ℕ) (body : BodyCode) → slice_get code.bodies number ≡ Some body → length body.instrs ≤ 65536
  instrs_few number body there =
      let is : get_or code.bodies number body ≡ body = sym (unwrap_or-slice_get code.bodies number body) ∙ ap (λ o. unwrap_or o body) there in
      (subst (code_fits.BodyFits code) is (All-get_or (code_fits.BodyFits code) code.bodies number body (slice_get_within code.bodies number body there) fits.bodies)).instr_count

  beside_few : (number : ℕ) → locals_beside code number ≤ bodies.locals_of code number
  beside_few number = by_test (has_environment code number)
    where
      by_test : (b : Bool) → (if b then 0 else bodies.locals_of code number) ≤ bodies.locals_of code number
      by_test true = omega arith
      by_test false = omega arith

  -- ---- one frame

  body_fits : (heap : Heap) (homes least number sort : ℕ) (above : Above) (frame : FrozenFrame) → is_running_kind code heap homes least above frame sort number ≡ true
      → BodyFits code frame number × (ends_well code heap homes least frame frame.kind ≡ true)
  body_fits heap homes least number sort above frame e =
      let parts = and_parts (option_map_or (λ (body : BodyCode). body.kind == sort && is_running code heap above frame number body) (slice_get code.bodies number) false)
      (ends_well code heap homes least frame frame.kind) e in
      (by_body (slice_get code.bodies number) refl parts.0, parts.1)
    where
      there_fits : (body : BodyCode) → slice_get code.bodies number ≡ Some body → is_running code heap above frame number body ≡ true → BodyFits code frame number
      there_fits body there runs =
          let one = and_parts (fits_body code heap body frame.receiver frame.holder) _ runs in
          let two = and_parts (stands_at body above frame.instr (length frame.operands)) _ one.1 in
          let three = and_parts (fits_environment (number + 1) code heap (environment_body code number) frame.env) _ two.1 in
          let four = and_parts (length frame.locals == locals_beside code number) _ three.1 in
          let low = stands_low number frame.instr (length frame.operands) body above there two.0 in
          let few = instrs_few number body there in
          let count = eqb-true (length frame.locals) (locals_beside code number) four.0 in
          let beside = beside_few number in
          let size = size_fits code number in
          let height : height_in code number ≡ body.height = ap (λ (o : Option BodyCode). option_map_or (λ (b : BodyCode). b.height) o 0) there in
          let steps : length (steps_of code number) ≡ length body.instrs =
          ap (λ (o : Option BodyCode). length (option_map_or (λ (b : BodyCode). placed b.places 0 b.instrs) o ((ReturnSelf, None) ∷ []))) there
          ∙ placed_length body.places 0 body.instrs in
          let less = low.0 in
          let most = low.1 in
          record {
            there = record { body_there = slice_get_within code.bodies number body there; next_there = omega (arith, less, steps) };
            small = omega (arith, less, few);
            locals = omega (arith, count, beside, size);
            operands = omega (arith, most, height);
          }

      by_body : (o : Option BodyCode) → slice_get code.bodies number ≡ o
          → option_map_or (λ (body : BodyCode). body.kind == sort && is_running code heap above frame number body) o false ≡ true → BodyFits code frame number
      by_body None there e = absurd (cc)
      by_body (Some body) there e = there_fits body there ((and_parts (body.kind == sort) (is_running code heap above frame number body) e).1)

  -- a value that refers to a cell has its number
  refers : (object : ℕ) (value : Value) → is_ref object value ≡ true → cell_number value ≡ object
  refers object (Ref at) e = eqb-true at object e
  refers object Nil e = absurd (cc)
  refers object True e = absurd (cc)
  refers object False e = absurd (cc)
  refers object (Int number) e = absurd (cc)
  refers object (Sym sel) e = absurd (cc)
  refers object (Kernel class) e = absurd (cc)

  kind_fits : (heap : Heap) (homes least : ℕ) (above : Above) (frame : FrozenFrame) (kind : FrameKind) → frame.kind ≡ kind
      → is_good_frame code heap homes least above frame kind ≡ true → KindFits code frame kind
  kind_fits heap homes least above frame (kinds.Method body) is e = (body_fits heap homes least body method_kind above frame e).0
  kind_fits heap homes least above frame (kinds.Block body) is e = (body_fits heap homes least body block_kind above frame e).0
  kind_fits heap homes least above frame (kinds.Initialiser body) is e = (body_fits heap homes least body initialiser_kind above frame e).0
  kind_fits heap homes least above frame (kinds.Clause body object holder class) is e =
      let both = body_fits heap homes least body clause_kind above frame e in
      let ends : ends_well code heap homes least frame (kinds.Clause body object holder class) ≡ true = ap (ends_well code heap homes least frame) (sym is) ∙ both.1 in
      let own = and_parts (is_ref object frame.receiver && frame.holder == holder) _ ends in
      let two = and_parts (is_ref object frame.receiver) (frame.holder == holder) own.0 in
      (both.0, refers object frame.receiver two.0, eqb-true frame.holder holder two.1)
  kind_fits heap homes least above frame (kinds.Kernel method state) is e = tt

  -- ---- all frames

  pub frames_fit : (heap : Heap) (homes least place : ℕ) (top : Above) (frames : List FrozenFrame) → bad_frame_from code heap homes top least place frames ≡ None → FramesFit code frames
  frames_fit heap homes least place top [] e = tt
  frames_fit heap homes least place top (frame ∷ frames) e =
      by_test (is_good_frame code heap homes least (above_of top frames) frame frame.kind) refl e
      (frames_fit heap homes (least_above least frame frame.kind) (place + 1) top frames)
    where
      by_test : (good : Bool) → is_good_frame code heap homes least (above_of top frames) frame frame.kind ≡ good
          → (if good then bad_frame_from code heap homes top (least_above least frame frame.kind) (place + 1) frames else Some place) ≡ None
          → (bad_frame_from code heap homes top (least_above least frame frame.kind) (place + 1) frames ≡ None → FramesFit code frames)
          → KindFits code frame frame.kind × FramesFit code frames
      by_test true g e more = (kind_fits heap homes least (above_of top frames) frame frame.kind refl g, more e)
      by_test false g e more = absurd (cc)
