-- Frames are the plain data that they were made of, where each is as it must be.
use Rattle.std.proofs.Common.{◌≡◌, ℕ, suc, ◌+◌, ◌<◌, ◌≤◌, List, [], ◌∷◌, ◌++◌, length, refl, ap, sym, ◌∙◌, append_assoc, append-nil, Option, Some, None, Bool, true, false, cond, ◌&&◌, ◌||◌, arith}
use Rattle.std.proofs.lemmas.Bool.{and_parts, eqb-true, eq-eqb, ne_eqb, ltb-true, cond-true, cond-false}
use Rattle.std.proofs.lemmas.Bool.Decides.{Decides-int_eq}
use Rattle.std.proofs.lemmas.List.{reverse-append}
use Rattle.std.proofs.lemmas.Option.{slice_get_within}
use Rattle.std.specs.Prelude.{slice_get, nat_lt, ◌==◌}
use Rattle.std.specs.Option.{option_map_or}
use Rattle.ns_base.specs.declared.place.Place.{Place as SourcePlace}
use Rattle.ns_code.specs.declared.program.CodeProgram.{CodeProgram}
use Rattle.ns_code.specs.declared.body.BodyCode.{BodyCode}
use Rattle.ns_code.specs.declared.instruction.Instr.{Instr}
use Rattle.ns_code.specs.Soundness.{method_kind, block_kind, initialiser_kind, clause_kind}
use Rattle.ns_world.specs.declared.value.Value.{Value}
use Rattle.ns_world.specs.declared.value.Value.TheVariants.{Nil, True, False, Int, Sym, Kernel, Ref}
use Rattle.ns_world.specs.declared.value.KClass.{KClass}
use Rattle.ns_world.specs.declared.value.KClass.TheVariants as class
use Rattle.ns_world.specs.Heap.{Heap, no_class}
use Rattle.ns_world.specs.Seek.{is_nil}
use Rattle.ns_kdata.specs.Rows.{same_value, same_kernel_class}
use Rattle.ns_world.specs.declared.kernel_parts.KMethod.{KMethod}
use Rattle.ns_kcode.specs.declared.state.KState.{KState}
use Rattle.ns_moves.specs.Bodies.{no_home}
use Rattle.ns_moves.specs.Control.{FromMethod, FromBody, FromClause}
use Rattle.ns_moves.specs.Fitting.{kind_of}
use Rattle.ns_moves.specs.Steps.{placed, steps_of}
use Rattle.ns_moves.specs.State.{Leaving, Loud, Frame, Looping}
use Rattle.ns_frozen.specs.declared.frame.FrameKind.{FrameKind}
use Rattle.ns_frozen.specs.declared.frame.FrameKind.TheVariants as kinds
use Rattle.ns_frozen.specs.declared.frame.FrozenFrame.{FrozenFrame}
use Rattle.ns_frozen.specs.Freezing.{kind_frozen, frame_frozen, frames_down, frames_frozen}
use Rattle.ns_frozen.specs.Thawing.{initialiser_leaves, is_at_super, frame_thawed, running_thawed, is_below, frames_onto, frames_thawed}
use Rattle.ns_frozen.specs.Cells.{is_empty}
use Rattle.ns_frozen.specs.Live.{fits_body}
use Rattle.ns_frozen.specs.Frames.{Above, Free, Waiting, Under, above_of, stands_at, is_running, is_running_kind, is_state, is_looping, is_good_frame, least_above, bad_frame_from}
use Rattle.ns_frozen.proofs.Frames.{running_back}

-- ---- values

same_class : (one other : KClass) → same_kernel_class one other ≡ true → one ≡ other
same_class class.Object class.Object e = refl
same_class class.Array class.Array e = refl
same_class class.Object class.Array e = absurd (cc)
same_class class.Array class.Object e = absurd (cc)

-- values that are the same are equal
pub same_is : (one other : Value) → same_value one other ≡ true → one ≡ other
same_is Nil Nil e = refl
same_is True True e = refl
same_is False False e = refl
same_is (Int one) (Int other) e = ap Int ((Decides-int_eq one other).0 e)
same_is (Sym one) (Sym other) e = ap (λ (n : ℕ). Sym (record { 0 = n })) (eqb-true one.0 other.0 e)
same_is (Kernel one) (Kernel other) e = ap Kernel (same_class one other e)
same_is (Ref one) (Ref other) e = ap Ref (eqb-true one other e)
same_is one other e = absurd (cc)

nil_is : (value : Value) → is_nil value ≡ true → value ≡ Nil
nil_is Nil e = refl
nil_is value e = absurd (cc)

empty_is : (values : List Value) → is_empty values ≡ true → values ≡ []
empty_is [] e = refl
empty_is (value ∷ values) e = absurd (cc)

-- ---- where a body stands

length_placed : (places : List (ℕ × SourcePlace)) (number : ℕ) (instrs : List Instr) → length (placed places number instrs) ≡ length instrs
length_placed places number [] = refl
length_placed places number (instr ∷ instrs) = omega (arith, length_placed places (number + 1) instrs)

-- a body has a step for each of its instructions
pub steps_count : (code : CodeProgram) (number : ℕ) (body : BodyCode) → slice_get code.bodies number ≡ Some body → length (steps_of code number) ≡ length body.instrs
steps_count code number body e = rw e (length_placed body.places 0 body.instrs)

waits_within : (test : Instr → Bool) (instrs : List Instr) (number : ℕ) → option_map_or test (slice_get instrs number) false ≡ true → number < length instrs
waits_within test instrs number e = found (slice_get instrs number) refl e
  where
    found : (o : Option Instr) → slice_get instrs number ≡ o → option_map_or test o false ≡ true → number < length instrs
    found None is e = absurd (cc)
    found (Some instr) is e = slice_get_within instrs number instr is

-- a body stands at one of its instructions
pub stands_within : (body : BodyCode) (above : Above) (number count : ℕ) → stands_at body above number count ≡ true → number < length body.instrs
stands_within body Free number count e = ltb-true number (length body.instrs) ((and_parts (nat_lt number (length body.instrs)) _ e).0)
stands_within body Waiting number count e = waits_within _ body.instrs number e
stands_within body (Under kind) number count e = waits_within _ body.instrs number e

-- ---- one frame

-- a frame of a body, where its kind is told by its end and its body
body_back : (code : CodeProgram) (heap : Heap) (homes least : ℕ) (above : Above) (waits : Bool) (leaving : Leaving) (frame : FrozenFrame) (sort body : ℕ)
    → is_running_kind code heap homes least above frame sort body ≡ true → (kind_of code body ≡ sort → kind_frozen code leaving body ≡ frame.kind)
    → frame_frozen code waits (running_thawed code waits leaving body frame) ≡ frame
body_back code heap homes least above waits leaving frame sort body e kind =
    found (slice_get code.bodies body) refl ((and_parts (option_map_or (λ (b : BodyCode). b.kind == sort && is_running code heap above frame body b) (slice_get code.bodies body) false) _ e).0)
  where
    found : (o : Option BodyCode) → slice_get code.bodies body ≡ o → option_map_or (λ (b : BodyCode). b.kind == sort && is_running code heap above frame body b) o false ≡ true
        → frame_frozen code waits (running_thawed code waits leaving body frame) ≡ frame
    found None is e = absurd (cc)
    found (Some b) is e =
        let parts = and_parts (b.kind == sort) (is_running code heap above frame body b) e in
        let stands = (and_parts (stands_at b above frame.instr (length frame.operands)) _ ((and_parts (fits_body code heap b frame.receiver frame.holder) _ parts.1).1)).0 in
        let within = stands_within b above frame.instr (length frame.operands) stands in
        let inside : suc frame.instr ≤ length (steps_of code body) = omega (arith, within, steps_count code body b is) in
        let sort_is : kind_of code body ≡ sort = ap (λ o. option_map_or (λ (b : BodyCode). b.kind) o clause_kind) is ∙ eqb-true b.kind sort parts.0 in
        running_back code waits leaving body frame inside ∙ ap (λ (k : FrameKind). record frame { kind = k }) (kind sort_is)

block_told : (code : CodeProgram) (body : ℕ) → kind_of code body ≡ block_kind → kind_frozen code (Loud FromBody) body ≡ kinds.Block body
block_told code body e = cond-true (kind_of code body == block_kind) (kinds.Block body) (kinds.Initialiser body) (eq-eqb (kind_of code body) block_kind e)

initialiser_told : (code : CodeProgram) (part : Bool) (body : ℕ) → kind_of code body ≡ initialiser_kind → kind_frozen code (initialiser_leaves part) body ≡ kinds.Initialiser body
initialiser_told code true body e = refl
initialiser_told code false body e =
    cond-false (kind_of code body == block_kind) (kinds.Block body) (kinds.Initialiser body) (ne_eqb (kind_of code body) block_kind (λ other. omega (arith, e, other)))

-- a frame of the kernel's has nothing but its state
looping_back : (code : CodeProgram) (waits : Bool) (method : KMethod) (state : KState) (frame : FrozenFrame) → frame.kind ≡ kinds.Kernel method state → is_looping frame state ≡ true
    → frame_frozen code waits (Looping method state frame.site) ≡ frame
looping_back code waits method state frame kind e =
    let a = and_parts (same_value frame.receiver state.receiver) _ e in
    let b = and_parts (frame.instr == 0) _ a.1 in
    let c = and_parts (frame.holder == no_class) _ b.1 in
    let d = and_parts (frame.home == no_home) _ c.1 in
    let f = and_parts (is_nil frame.env) _ d.1 in
    let g = and_parts (is_empty frame.locals) (is_empty frame.operands) f.1 in
    sym (all kind (same_is frame.receiver state.receiver a.0) (eqb-true frame.instr 0 b.0) (eqb-true frame.holder no_class c.0) (eqb-true frame.home no_home d.0)
    (nil_is frame.env f.0) (empty_is frame.locals g.0) (empty_is frame.operands g.1))
  where
    all : frame.kind ≡ kinds.Kernel method state → frame.receiver ≡ state.receiver → frame.instr ≡ 0 → frame.holder ≡ no_class → frame.home ≡ no_home → frame.env ≡ Nil → frame.locals ≡ [] → frame.operands ≡ []
        → frame ≡ frame_frozen code waits (Looping method state frame.site)
    all k r i h m v l o =
        ap (λ (x : FrameKind). record frame { kind = x }) k
        ∙ (ap (λ (x : Value). record frame { kind = kinds.Kernel method state; receiver = x }) r
        ∙ (ap (λ (x : ℕ). record frame { kind = kinds.Kernel method state; receiver = state.receiver; instr = x }) i
        ∙ (ap (λ (x : ℕ). record frame { kind = kinds.Kernel method state; receiver = state.receiver; instr = 0; holder = x }) h
        ∙ (ap (λ (x : ℕ). record frame { kind = kinds.Kernel method state; receiver = state.receiver; instr = 0; holder = no_class; home = x }) m
        ∙ (ap (λ (x : Value). record frame { kind = kinds.Kernel method state; receiver = state.receiver; instr = 0; holder = no_class; home = no_home; env = x }) v
        ∙ (ap (λ (x : List Value). record frame { kind = kinds.Kernel method state; receiver = state.receiver; instr = 0; holder = no_class; home = no_home; env = Nil; locals = x }) l
        ∙ ap (λ (x : List Value). record frame { kind = kinds.Kernel method state; receiver = state.receiver; instr = 0; holder = no_class; home = no_home; env = Nil; locals = []; operands = x }) o))))))

-- a frame that is as it must be
frame_back : (code : CodeProgram) (heap : Heap) (homes least : ℕ) (above : Above) (part waits : Bool) (frame : FrozenFrame) (kind : FrameKind) → frame.kind ≡ kind
    → is_good_frame code heap homes least above frame kind ≡ true → frame_frozen code waits (frame_thawed code part waits kind frame) ≡ frame
frame_back code heap homes least above part waits frame (kinds.Method body) is e =
    body_back code heap homes least above waits (Loud FromMethod) frame method_kind body e (λ sort. sym is)
frame_back code heap homes least above part waits frame (kinds.Block body) is e =
    body_back code heap homes least above waits (Loud FromBody) frame block_kind body e (λ sort. block_told code body sort ∙ sym is)
frame_back code heap homes least above part waits frame (kinds.Initialiser body) is e =
    body_back code heap homes least above waits (initialiser_leaves part) frame initialiser_kind body e (λ sort. initialiser_told code part body sort ∙ sym is)
frame_back code heap homes least above part waits frame (kinds.Clause body object holder class) is e =
    body_back code heap homes least above waits (Loud (FromClause object holder class)) frame clause_kind body e (λ sort. sym is)
frame_back code heap homes least above part waits frame (kinds.Kernel method state) is e =
    looping_back code waits method state frame is ((and_parts (is_state code heap method state) (is_looping frame state) ((and_parts (is_state code heap method state && is_looping frame state) _ e).0)).1)

-- ---- all frames

-- a good frame, and the others behind it
pub first_good : {A : Type 0} (good : Bool) (rest : Option A) (place : A) → cond good rest (Some place) ≡ None → (good ≡ true) × (rest ≡ None)
first_good true rest place e = (refl, e)
first_good false rest place e = absurd (cc)

-- or with a known one
pub or_false : (b : Bool) → (b || false) ≡ b
or_false true = refl
or_false false = refl

pub or_true : (b : Bool) → (b || true) ≡ true
or_true true = refl
or_true false = refl

-- frames above others
pub frames_back : (code : CodeProgram) (heap : Heap) (homes least place : ℕ) (top : Above) (waits part : Bool) (below : List Frame) (frames : List FrozenFrame)
    → bad_frame_from code heap homes top least place frames ≡ None
    → frames_frozen code waits (frames_onto code waits part below frames) ≡ frames_frozen code (waits || is_below frames) below ++ frames
frames_back code heap homes least place top waits part below [] e =
    ap (λ w. frames_frozen code w below) (sym (or_false waits)) ∙ sym (append-nil (frames_frozen code (waits || false) below))
frames_back code heap homes least place top waits part below (frame ∷ frames) e =
    let good = first_good (is_good_frame code heap homes least (above_of top frames) frame frame.kind) _ place e in
    let inner : Bool = waits || is_below frames in
    let one : Frame = frame_thawed code part inner frame.kind frame in
    frames_back code heap homes (least_above least frame frame.kind) (place + 1) top waits (is_at_super code frame.kind frame.instr) (one ∷ below) frames good.1
    ∙ (ap (λ (front : List FrozenFrame). front ++ frames) (reverse-append (frame_frozen code inner one ∷ []) (frames_down code true below))
    ∙ (ap (λ (last : FrozenFrame). (frames_frozen code true below ++ last ∷ []) ++ frames)
    (frame_back code heap homes least (above_of top frames) part inner frame frame.kind refl good.0)
    ∙ (append_assoc (frames_frozen code true below) (frame ∷ []) frames
    ∙ ap (λ w. frames_frozen code w below ++ frame ∷ frames) (sym (or_true waits)))))

-- all frames
pub all_back : (code : CodeProgram) (heap : Heap) (homes : ℕ) (top : Above) (waits : Bool) (frames : List FrozenFrame) → bad_frame_from code heap homes top 0 0 frames ≡ None
    → frames_frozen code waits (frames_thawed code waits frames) ≡ frames
all_back code heap homes top waits frames e = frames_back code heap homes 0 0 top waits false [] frames e
