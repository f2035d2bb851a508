-- A frame of a valid run passes the test of plain data.
use Rattle.std.proofs.Common.{◌≡◌, ⊎_elim, ℕ, zero, suc, ◌+◌, ◌-◌, List, [], ◌∷◌, length, reverse, refl, ap, sym, ◌∙◌, arith, Option, Some, None, IsSome, Bool, true, false, ◌&&◌, ◌||◌}
use Rattle.std.proofs.lemmas.Bool.{and_parts, and_from, or_left, cond-true, cond-false, cond_both, eq-eqb, eqb-true, ne_eqb, lt-ltb, cases_Bool}
use Rattle.std.proofs.lemmas.Bool.Decides.{Decides-int_eq}
use Rattle.std.proofs.lemmas.List.{reverse-append, length-reverse}
use Rattle.std.proofs.lemmas.List.Folds.{list_all-append, list_any_at}
use Rattle.std.proofs.lemmas.Option.{slice_get_within, get_or_from_slice_get}
use Rattle.std.specs.Prelude.{slice_get, IsTrue, nat_lt, nat_le, ◌==◌}
use Rattle.std.specs.Option.{option_map_or, ForSome}
use Rattle.std.specs.List.{list_any}
use Rattle.ns_code.specs.declared.program.CodeProgram.{CodeProgram}
use Rattle.ns_code.specs.declared.class.ClassCode.{ClassCode}
use Rattle.ns_code.specs.declared.class.NestedCode.{NestedCode}
use Rattle.ns_code.specs.declared.body.BodyCode.{BodyCode}
use Rattle.ns_code.specs.declared.instruction.Instr.{Instr}
use Rattle.ns_code.specs.Soundness.{method_kind, block_kind, initialiser_kind, clause_kind}
use Rattle.ns_code.specs.Table.{takes}
use Rattle.ns_world.specs.declared.value.Value.{Value}
use Rattle.ns_world.specs.declared.value.Value.TheVariants.{Nil, True, False, Int, Sym, Kernel, Ref}
use Rattle.ns_world.specs.declared.value.KClass.TheVariants as class
use Rattle.ns_world.specs.Heap.{Heap}
use Rattle.ns_world.specs.Lawful.{IsLiveValue, IsLawful}
use Rattle.ns_world.specs.Layout.{declaration_of}
use Rattle.ns_kdata.specs.Rows.{same_value}
use Rattle.ns_world.specs.declared.kernel_parts.KMethod.{KMethod}
use Rattle.ns_kcode.specs.declared.state.KState.{KState}
use Rattle.ns_moves.specs.declared.site.Site.{Site}
use Rattle.ns_moves.specs.Bodies.{clause_of, no_home}
use Rattle.ns_moves.specs.Blocks.{has_arguments}
use Rattle.ns_moves.specs.Control.{Progress, Activation, Exit, FromMethod, FromBody, FromClause}
use Rattle.ns_moves.specs.Fitting.{belongs_to, counts_fit, kind_of, environment_body, locals_beside}
use Rattle.ns_moves.specs.Steps.{PlacedInstr}
use Rattle.ns_moves.specs.State.{Leaving, Loud, Silent, Frame, Running, Looping}
use Rattle.ns_moves.specs.ValidFrames.{Awaited, Nothing, SendValue, BlockValue, PartEnd, awaited_below, is_send, is_super_part, next_number, height_of, WaitsBehind, Stands, ends_kind, has_home_of, has_block_home, waits_for, RunningIsValid, LoopingIsValid, FrameIsValid}
use Rattle.ns_frozen.specs.declared.frame.FrameKind.TheVariants as kinds
use Rattle.ns_frozen.specs.declared.frame.FrozenFrame.{FrozenFrame}
use Rattle.ns_frozen.specs.Freezing.{kind_frozen, instr_frozen, frame_frozen}
use Rattle.ns_frozen.specs.Live.{is_live, are_live, is_ref, has_holder, fits_body, fits_environment}
use Rattle.ns_frozen.specs.Frames.{Above, Free, Waiting, Under, is_under_initialiser, is_under_block, waits_under, stands_at, is_running, is_running_kind, is_number, has_nested, ends_well, is_state, is_looping, is_good_frame, is_site}
use Rattle.ns_frozen.proofs.Tests.{live_told, lives_told, site_told, environment_told, holder_told, body_told}
use Rattle.ns_frozen.proofs.CellTests.{side_of}
use Rattle.ns_frozen.proofs.Stood.{is_waiting}

-- ---- what stands above

-- whether something stands above, or is pending
abbrev pub is_taken : Above → Bool
is_taken Free = false
is_taken Waiting = true
is_taken (Under kind) = true

-- What stands above gives what is awaited.
abbrev pub Gives : Awaited → Above → Type 0
Gives Nothing above = above ≡ Free
Gives SendValue above = is_taken above ≡ true
Gives BlockValue above = (is_taken above ≡ true) × (is_under_block above ≡ true)
Gives PartEnd above = (is_taken above ≡ true) × (is_under_initialiser above ≡ true)

-- ---- where a body stands

-- a body that waits behind an instruction stands at it
behind_told : (code : CodeProgram) (body : BodyCode) (above : Above) (next count : ℕ) (waits : Instr → Bool) → is_taken above ≡ true → ((instr : Instr) → waits instr ≡ true → waits_under above instr ≡ true)
    → WaitsBehind body next count waits → stands_at body above (next - 1) count ≡ true
behind_told code body above zero count waits taken tells w = absurd w
behind_told code body above (suc number) count waits taken tells w = ap (λ n. stands_at body above n count) (omega arith) ∙ by above taken tells
  where
    found : (above : Above) (o : Option Instr) → ((instr : Instr) → waits instr ≡ true → waits_under above instr ≡ true) → IsSome o
        → ForSome o (λ (before : Instr). IsTrue (waits before) × (count ≡ height_of body number - takes before))
        → option_map_or (λ (instr : Instr). waits_under above instr && count == height_of body number - takes instr) o false ≡ true
    found above None tells there h = absurd (cc)
    found above (Some instr) tells there h =
        let parts = h instr refl in
        and_from (waits_under above instr) (count == height_of body number - takes instr) (tells instr parts.0) (eq-eqb count (height_of body number - takes instr) parts.1)

    by : (above : Above) → is_taken above ≡ true → ((instr : Instr) → waits instr ≡ true → waits_under above instr ≡ true) → stands_at body above number count ≡ true
    by Free taken tells = absurd (cc)
    by Waiting taken tells = found Waiting (slice_get body.instrs number) tells w.0 w.1
    by (Under kind) taken tells = found (Under kind) (slice_get body.instrs number) tells w.0 w.1

or_second : (a b : Bool) → b ≡ true → (a || b) ≡ true
or_second true b e = refl
or_second false b e = e

-- a body stands where its next instruction is, or at the one that waits
stands_told : (code : CodeProgram) (number : ℕ) (rest : List PlacedInstr) (body : BodyCode) (awaited : Awaited) (above : Above) (count : ℕ) → Gives awaited above → Stands body awaited (next_number code number rest) count
    → stands_at body above (instr_frozen code (is_waiting awaited) number rest) count ≡ true
stands_told code number rest body Nothing above count g s =
    ap (λ a. stands_at body a (next_number code number rest) count) g
    ∙ and_from (nat_lt (next_number code number rest) (length body.instrs)) (count == height_of body (next_number code number rest)) (lt-ltb (next_number code number rest) (length body.instrs) s.0) (eq-eqb count (height_of body (next_number code number rest)) s.1)
stands_told code number rest body SendValue above count g s =
    behind_told code body above (next_number code number rest) count is_send g (λ instr e. or_left (is_send instr) (is_super_part instr && is_under_initialiser above) e) s
stands_told code number rest body BlockValue above count g s =
    behind_told code body above (next_number code number rest) count is_send g.0 (λ instr e. or_left (is_send instr) (is_super_part instr && is_under_initialiser above) e) s
stands_told code number rest body PartEnd above count g s =
    behind_told code body above (next_number code number rest) count is_super_part g.0
    (λ instr e. or_second (is_send instr) (is_super_part instr && is_under_initialiser above) (and_from (is_super_part instr) (is_under_initialiser above) e g.1)) s

-- what holds of all operands holds of them turned round
pub turned_live : (heap : Heap) (code : CodeProgram) (values : List Value) → are_live code heap values ≡ true → are_live code heap (reverse values) ≡ true
turned_live heap code [] e = refl
turned_live heap code (value ∷ values) e =
    let parts = and_parts (is_live code heap value) (are_live code heap values) e in
    ap (are_live code heap) (reverse-append (value ∷ []) values)
    ∙ (list_all-append (is_live code heap) (reverse values) (value ∷ [])
    ∙ and_from (are_live code heap (reverse values)) (is_live code heap value && true) (turned_live heap code values parts.1) (and_from (is_live code heap value) true parts.0 refl))

-- ---- frames

same_told : (value : Value) → same_value value value ≡ true
same_told Nil = refl
same_told True = refl
same_told False = refl
same_told (Int number) = (Decides-int_eq number number).1 refl
same_told (Sym sel) = eq-eqb sel.0 sel.0 refl
same_told (Kernel class.Object) = refl
same_told (Kernel class.Array) = refl
same_told (Ref at) = eq-eqb at at refl

module _ (code : CodeProgram) (progress : Progress) (lawful : IsLawful progress.world code) where
  abbrev heap : Heap
  heap = progress.world.cells

  -- a frame of a body
  running_told : (awaited : Awaited) (above : Above) (leaving : Leaving) (activation : Activation) (locals : List Value) (rest : List PlacedInstr) (stack : List Value) → Gives awaited above
      → RunningIsValid code progress awaited leaving activation locals rest stack → (body : BodyCode) → slice_get code.bodies activation.body ≡ Some body
      → is_running code heap above (frame_frozen code (is_waiting awaited) (Running leaving activation locals rest stack)) activation.body body ≡ true
  running_told awaited above leaving activation locals rest stack g v body is =
      and_from (fits_body code heap body activation.self activation.holder) _ (body_told code progress.world lawful body activation.self activation.holder (side_of code progress.world lawful activation.body body is) (v.fits.fits body is))
      (and_from (stands_at body above (instr_frozen code (is_waiting awaited) activation.body rest) (length (reverse stack))) _
      (ap (stands_at body above (instr_frozen code (is_waiting awaited) activation.body rest)) (length-reverse stack) ∙ stands_told code activation.body rest body awaited above (length stack) g (v.stands body is))
      (and_from (fits_environment (activation.body + 1) code heap (environment_body code activation.body) activation.env) _ (environment_told heap code (activation.body + 1) (environment_body code activation.body) activation.env v.environment)
      (and_from (length locals == locals_beside code activation.body) _ (eq-eqb (length locals) (locals_beside code activation.body) v.beside)
      (and_from (are_live code heap locals) _ (lives_told heap code locals v.live_locals)
      (and_from (are_live code heap (reverse stack)) (is_site code activation.site) (turned_live heap code stack (lives_told heap code stack v.live_stack)) (site_told code activation.site v.named))))))

  -- the same, where its body is of a kind and its end is told
  kind_told : (homes least : ℕ) (awaited : Awaited) (above : Above) (leaving : Leaving) (activation : Activation) (locals : List Value) (rest : List PlacedInstr) (stack : List Value) (sort : ℕ) → Gives awaited above
      → RunningIsValid code progress awaited leaving activation locals rest stack → kind_of code activation.body ≡ sort
      → ends_well code heap homes least (frame_frozen code (is_waiting awaited) (Running leaving activation locals rest stack)) (kind_frozen code leaving activation.body) ≡ true
      → is_running_kind code heap homes least above (frame_frozen code (is_waiting awaited) (Running leaving activation locals rest stack)) sort activation.body ≡ true
  kind_told homes least awaited above leaving activation locals rest stack sort g v k e =
      and_from (option_map_or (λ (body : BodyCode). body.kind == sort && is_running code heap above frame activation.body body) (slice_get code.bodies activation.body) false)
      (ends_well code heap homes least frame frame.kind)
      (found (slice_get code.bodies activation.body) refl v.fits.there) e
    where
      frame : FrozenFrame
      frame = frame_frozen code (is_waiting awaited) (Running leaving activation locals rest stack)

      found : (o : Option BodyCode) → slice_get code.bodies activation.body ≡ o → IsSome o
          → option_map_or (λ (body : BodyCode). body.kind == sort && is_running code heap above (frame_frozen code (is_waiting awaited) (Running leaving activation locals rest stack)) activation.body body) o false ≡ true
      found None is there = absurd (cc)
      found (Some body) is there =
          and_from (body.kind == sort) (is_running code heap above (frame_frozen code (is_waiting awaited) (Running leaving activation locals rest stack)) activation.body body)
          (eq-eqb body.kind sort (sym (ap (λ o. option_map_or (λ (b : BodyCode). b.kind) o clause_kind) is) ∙ k))
          (running_told awaited above leaving activation locals rest stack g v body is)

  -- ---- the ends of frames

  -- the home of a body of a kind
  block_home : (homes kind body home : ℕ) → kind ≡ block_kind → has_home_of code homes kind body home ≡ true → has_block_home code homes body home ≡ true
  block_home homes kind body home k e =
      sym (cond-true (kind == block_kind) (has_block_home code homes body home) (home == no_home) (eq-eqb kind block_kind k))
      ∙ (sym (cond-false (kind == method_kind) (nat_lt home homes) _ (ne_eqb kind method_kind (λ m. omega (arith, k, m)))) ∙ e)

  other_home : (homes kind body home : ℕ) → (kind ≡ block_kind → ⊥) → (kind ≡ method_kind → ⊥) → has_home_of code homes kind body home ≡ true → (home == no_home) ≡ true
  other_home homes kind body home b m e =
      sym (cond-false (kind == block_kind) (has_block_home code homes body home) (home == no_home) (ne_eqb kind block_kind b))
      ∙ (sym (cond-false (kind == method_kind) (nat_lt home homes) _ (ne_eqb kind method_kind m)) ∙ e)

  method_home : (homes kind body home : ℕ) → kind ≡ method_kind → has_home_of code homes kind body home ≡ true → nat_lt home homes ≡ true
  method_home homes kind body home k e = sym (cond-true (kind == method_kind) (nat_lt home homes) _ (eq-eqb kind method_kind k)) ∙ e

  -- whether a frame's homes may begin with a number, where it is of a method
  abbrev pub begins_above : ℕ → Frame → Bool
  begins_above least (Running (Loud FromMethod) activation locals rest stack) = nat_le least activation.home
  begins_above least frame = true

  initialiser_told : (homes least : ℕ) (awaited : Awaited) (above : Above) (leaving : Leaving) (activation : Activation) (locals : List Value) (rest : List PlacedInstr) (stack : List Value) → Gives awaited above
      → RunningIsValid code progress awaited leaving activation locals rest stack → homes ≡ progress.begun → kind_of code activation.body ≡ initialiser_kind → kind_frozen code leaving activation.body ≡ kinds.Initialiser activation.body
      → is_running_kind code heap homes least above (frame_frozen code (is_waiting awaited) (Running leaving activation locals rest stack)) initialiser_kind activation.body ≡ true
  initialiser_told homes least awaited above leaving activation locals rest stack g v h k told =
      kind_told homes least awaited above leaving activation locals rest stack initialiser_kind g v k
      (ap (ends_well code heap homes least (frame_frozen code (is_waiting awaited) (Running leaving activation locals rest stack))) told
      ∙ and_from (has_holder code heap activation.holder activation.self) (activation.home == no_home) (holder_told code progress.world lawful activation.self activation.holder (v.object k))
      (other_home progress.begun (kind_of code activation.body) activation.body activation.home (λ b. omega (arith, k, b)) (λ m. omega (arith, k, m)) v.home))

  block_frame_told : (least : ℕ) (awaited : Awaited) (above : Above) (activation : Activation) (locals : List Value) (rest : List PlacedInstr) (stack : List Value) → Gives awaited above
      → RunningIsValid code progress awaited (Loud FromBody) activation locals rest stack → kind_of code activation.body ≡ block_kind → kind_frozen code (Loud FromBody) activation.body ≡ kinds.Block activation.body
      → is_running_kind code heap progress.begun least above (frame_frozen code (is_waiting awaited) (Running (Loud FromBody) activation locals rest stack)) block_kind activation.body ≡ true
  block_frame_told least awaited above activation locals rest stack g v k told =
      kind_told progress.begun least awaited above (Loud FromBody) activation locals rest stack block_kind g v k
      (ap (ends_well code heap progress.begun least (frame_frozen code (is_waiting awaited) (Running (Loud FromBody) activation locals rest stack))) told
      ∙ block_home progress.begun (kind_of code activation.body) activation.body activation.home k v.home)

  either_kind : (a b : Bool) → (a || b) ≡ true → a ≡ false → b ≡ true
  either_kind true b e f = absurd (cc)
  either_kind false b e f = e

  ref_told : (number : ℕ) (value : Value) → value ≡ Ref number → is_ref number value ≡ true
  ref_told number value e = ap (is_ref number) e ∙ eq-eqb number number refl

  number_told : (number : ℕ) (o : Option ℕ) → o ≡ Some number → is_number number o ≡ true
  number_told number o e = ap (is_number number) e ∙ eq-eqb number number refl

  -- a frame of a body, by its end
  body_frame_told : (least : ℕ) (awaited : Awaited) (above : Above) (leaving : Leaving) (activation : Activation) (locals : List Value) (rest : List PlacedInstr) (stack : List Value) → Gives awaited above
      → RunningIsValid code progress awaited leaving activation locals rest stack → begins_above least (Running leaving activation locals rest stack) ≡ true
      → is_good_frame code heap progress.begun least above (frame_frozen code (is_waiting awaited) (Running leaving activation locals rest stack)) (kind_frozen code leaving activation.body) ≡ true
  body_frame_told least awaited above (Loud FromMethod) activation locals rest stack g v l =
      let k : kind_of code activation.body ≡ method_kind = eqb-true (kind_of code activation.body) method_kind v.kind in
      kind_told progress.begun least awaited above (Loud FromMethod) activation locals rest stack method_kind g v k
      (and_from (nat_lt activation.home progress.begun) (nat_le least activation.home) (method_home progress.begun (kind_of code activation.body) activation.body activation.home k v.home) l)
  body_frame_told least awaited above Silent activation locals rest stack g v l =
      initialiser_told progress.begun least awaited above Silent activation locals rest stack g v refl (eqb-true (kind_of code activation.body) initialiser_kind v.kind) refl
  body_frame_told least awaited above (Loud (FromClause object holder class)) activation locals rest stack g v l =
      let k : kind_of code activation.body ≡ clause_kind = eqb-true (kind_of code activation.body) clause_kind v.kind in
      kind_told progress.begun least awaited above (Loud (FromClause object holder class)) activation locals rest stack clause_kind g v k
      (and_from (is_ref object activation.self && activation.holder == holder) _
      (and_from (is_ref object activation.self) (activation.holder == holder) (ref_told object activation.self v.leaves.1) (eq-eqb activation.holder holder v.leaves.2))
      (and_from (is_number activation.body (clause_of code class)) _ (number_told activation.body (clause_of code class) v.leaves.3)
      (and_from (has_nested code (declaration_of heap holder) class) (activation.home == no_home)
      (let n = v.leaves.0.nested in
      ap (λ o. option_map_or (λ (declared : ClassCode). list_any (λ (one : NestedCode). one.class == class) declared.nested) o false) n.class_is
      ∙ list_any_at (λ (one : NestedCode). one.class == class) n.class.nested n.place n.nested (slice_get_within n.class.nested n.place n.nested n.nested_is)
      (ap (λ (one : NestedCode). one.class == class) (get_or_from_slice_get n.class.nested n.place n.nested n.nested n.nested_is) ∙ eq-eqb n.nested.class class n.decl_is))
      (other_home progress.begun (kind_of code activation.body) activation.body activation.home (λ b. omega (arith, k, b)) (λ m. omega (arith, k, m)) v.home))))
  body_frame_told least awaited above (Loud FromBody) activation locals rest stack g v l =
      ⊎_elim
      (λ e. let k : kind_of code activation.body ≡ block_kind = eqb-true (kind_of code activation.body) block_kind e in
      let told : kind_frozen code (Loud FromBody) activation.body ≡ kinds.Block activation.body = cond-true (kind_of code activation.body == block_kind) (kinds.Block activation.body) (kinds.Initialiser activation.body) e in
      ap (is_good_frame code heap progress.begun least above frame) told ∙ block_frame_told least awaited above activation locals rest stack g v k told)
      (λ e. let k : kind_of code activation.body ≡ initialiser_kind =
      eqb-true (kind_of code activation.body) initialiser_kind (either_kind (kind_of code activation.body == block_kind) (kind_of code activation.body == initialiser_kind) v.kind e) in
      let told : kind_frozen code (Loud FromBody) activation.body ≡ kinds.Initialiser activation.body = cond-false (kind_of code activation.body == block_kind) (kinds.Block activation.body) (kinds.Initialiser activation.body) e in
      ap (is_good_frame code heap progress.begun least above frame) told ∙ initialiser_told progress.begun least awaited above (Loud FromBody) activation locals rest stack g v refl k told)
      (cases_Bool (kind_of code activation.body == block_kind))
    where
      frame : FrozenFrame
      frame = frame_frozen code (is_waiting awaited) (Running (Loud FromBody) activation locals rest stack)

  -- ---- frames of the kernel's methods

  under_told : (awaited : Awaited) (above : Above) → Gives awaited above → waits_for awaited ≡ true → is_under_block above ≡ true
  under_told Nothing above g w = ap is_under_block g
  under_told SendValue above g w = absurd (cc)
  under_told BlockValue above g w = g.1
  under_told PartEnd above g w = absurd (cc)

  last_told : (last : Option Value) → ForSome last (λ value. IsLiveValue heap code value) → option_map_or (is_live code heap) last true ≡ true
  last_told None l = refl
  last_told (Some value) l = live_told heap code value (l value refl)

  looping_told : (least : ℕ) (awaited : Awaited) (above : Above) (method : KMethod) (state : KState) (site : Site) → Gives awaited above → LoopingIsValid heap code awaited method state site
      → is_good_frame code heap progress.begun least above (frame_frozen code (is_waiting awaited) (Looping method state site)) (kinds.Kernel method state) ≡ true
  looping_told least awaited above method state site g v =
      and_from (is_state code heap method state && is_looping (frame_frozen code (is_waiting awaited) (Looping method state site)) state) (is_under_block above && is_site code site)
      (and_from (is_state code heap method state) (is_looping (frame_frozen code (is_waiting awaited) (Looping method state site)) state)
      (and_from (is_live code heap state.receiver) _ (live_told heap code state.receiver v.live.receiver)
      (and_from (is_live code heap state.first) _ (live_told heap code state.first v.live.first)
      (and_from (is_live code heap state.second) _ (live_told heap code state.second v.live.second)
      (and_from (option_map_or (is_live code heap) state.last true) _ (last_told state.last v.live.last)
      (and_from (belongs_to heap state.receiver method) _ v.receiver (and_from (has_arguments heap method state.first state.second) (counts_fit heap state method) v.arguments v.counts))))))
      (and_from (same_value state.receiver state.receiver) true (same_told state.receiver) refl))
      (and_from (is_under_block above) (is_site code site) (under_told awaited above g v.waits) (site_told code site v.named))

  -- a frame of either kind
  pub frame_told : (least : ℕ) (awaited : Awaited) (above : Above) (frame : Frame) → Gives awaited above → FrameIsValid code progress awaited frame → begins_above least frame ≡ true
      → is_good_frame code heap progress.begun least above (frame_frozen code (is_waiting awaited) frame) (frame_frozen code (is_waiting awaited) frame).kind ≡ true
  frame_told least awaited above (Running leaving activation locals rest stack) g v l = body_frame_told least awaited above leaving activation locals rest stack g v l
  frame_told least awaited above (Looping method state site) g v l = looping_told least awaited above method state site g v

  -- a frame gives what the one below it awaits
  pub gives_told : (waits : Bool) (awaited : Awaited) (frame : Frame) → FrameIsValid code progress awaited frame → Gives (awaited_below code frame) (Under (frame_frozen code waits frame).kind)
  gives_told waits awaited (Looping method state site) v = refl
  gives_told waits awaited (Running Silent activation locals rest stack) v = (refl, refl)
  gives_told waits awaited (Running (Loud exit) activation locals rest stack) v =
      cond_both (kind_of code activation.body == block_kind) BlockValue SendValue (λ a. Gives a (Under (kind_frozen code (Loud exit) activation.body)))
      (λ e. (refl, block exit v.kind e)) (λ e. refl)
    where
      block : (exit : Exit) → ends_kind (Loud exit) (kind_of code activation.body) ≡ true → (kind_of code activation.body == block_kind) ≡ true → is_under_block (Under (kind_frozen code (Loud exit) activation.body)) ≡ true
      block FromMethod k e = absurd (omega (arith, eqb-true (kind_of code activation.body) method_kind k, eqb-true (kind_of code activation.body) block_kind e))
      block (FromClause object holder class) k e = absurd (omega (arith, eqb-true (kind_of code activation.body) clause_kind k, eqb-true (kind_of code activation.body) block_kind e))
      block FromBody k e = ap (λ kind. is_under_block (Under kind)) (cond-true (kind_of code activation.body == block_kind) (kinds.Block activation.body) (kinds.Initialiser activation.body) e)
