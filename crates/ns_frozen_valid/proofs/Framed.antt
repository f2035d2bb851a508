-- Frames are gone over from the outermost to the topmost.
use Rattle.std.proofs.Common.{◌≡◌, ℕ, ◌+◌, List, [], ◌∷◌, length, slice_get, arith, refl, ap, sym, ◌∙◌, Option, Some, None, Bool, true, false, cond, ◌&&◌}
use Rattle.std.specs.Prelude.{◌==◌}
use Rattle.std.specs.Option.{option_map_or}
use Rattle.ns_code.specs.declared.program.CodeProgram.{CodeProgram}
use Rattle.ns_code.specs.declared.body.BodyCode.{BodyCode}
use Rattle.ns_world.specs.Heap.{Heap}
use Rattle.ns_world.specs.declared.kernel_parts.KMethod.{KMethod}
use Rattle.ns_kcode.specs.declared.state.KState.{KState}
use Rattle.ns_frozen.specs.declared.frame.FrozenFrame.{FrozenFrame}
use Rattle.ns_frozen.specs.Live.{is_live}
use Rattle.ns_frozen.specs.Frames.{Above, above_of, least_above, is_state, is_good_frame, bad_frame_from}
use Rattle.ns_frozen.specs.Frames as frames
use Rattle.ns_frozen_valid.specs.Frames.{is_running}
use Rattle.ns_frozen_valid.specs.Kernel.{has_live_values, has_method}

-- ---- one frame

-- a frame runs a body of a kind, by the body
abbrev runs_so : CodeProgram → Heap → Above → FrozenFrame → ℕ → ℕ → Option BodyCode → Bool
runs_so code heap above frame sort number body =
    option_map_or (λ (b : BodyCode). b.kind == sort && frames.is_running code heap above frame number b) body false

pub runs_there : (code : CodeProgram) (heap : Heap) (above : Above) (frame : FrozenFrame) (sort number : ℕ) (body : BodyCode)
    → Some body ≡ slice_get code.bodies number
    → (body.kind == sort) ≡ true → frames.is_running code heap above frame number body ≡ is_running code heap above frame sort number
runs_there code heap above frame sort number body there kind =
    sym (ap (λ (t : Bool). t && frames.is_running code heap above frame number body) kind) ∙ ap (runs_so code heap above frame sort number) there

pub runs_other : (code : CodeProgram) (heap : Heap) (above : Above) (frame : FrozenFrame) (sort number : ℕ) (body : BodyCode)
    → Some body ≡ slice_get code.bodies number
    → (body.kind == sort) ≡ false → false ≡ is_running code heap above frame sort number
runs_other code heap above frame sort number body there kind =
    sym (ap (λ (t : Bool). t && frames.is_running code heap above frame number body) kind) ∙ ap (runs_so code heap above frame sort number) there

pub runs_none : (code : CodeProgram) (heap : Heap) (above : Above) (frame : FrozenFrame) (sort number : ℕ) → None ≡ slice_get code.bodies number
    → false ≡ is_running code heap above frame sort number
runs_none code heap above frame sort number none = ap (runs_so code heap above frame sort number) none

-- a state has live values and what its method asks for
state_parts : (a b c d more : Bool) → ((a && (b && (c && d))) && more) ≡ (a && (b && (c && (d && more))))
state_parts false b c d more = refl
state_parts true false c d more = refl
state_parts true true false d more = refl
state_parts true true true false more = refl
state_parts true true true true more = refl

pub state_so : (code : CodeProgram) (heap : Heap) (method : KMethod) (state : KState) (live : Bool) → has_live_values code heap state ≡ live
    → (live && has_method heap method state) ≡ is_state code heap method state
state_so code heap method state live is =
    ap (λ (t : Bool). t && has_method heap method state) (sym is)
    ∙ state_parts (is_live code heap state.receiver) (is_live code heap state.first) (is_live code heap state.second)
    (option_map_or (is_live code heap) state.last true) (has_method heap method state)

-- ---- all frames

-- the first bad one of a frame and those above it, by whether that frame is good
abbrev first_of : CodeProgram → Heap → ℕ → Above → ℕ → ℕ → FrozenFrame → List FrozenFrame → Bool → Option ℕ
first_of code heap homes top least place frame frames good =
    cond good (bad_frame_from code heap homes top (least_above least frame frame.kind) (place + 1) frames) (Some place)

-- above a good frame
pub frame_on : (code : CodeProgram) (heap : Heap) (homes : ℕ) (top above : Above) (least next place : ℕ)
    (frame : FrozenFrame) (frames : List FrozenFrame) (whole : Option ℕ) → above ≡ above_of top frames → next ≡ least_above least frame frame.kind
    → is_good_frame code heap homes least above frame frame.kind ≡ true
    → bad_frame_from code heap homes top least place (frame ∷ frames) ≡ whole → bad_frame_from code heap homes top next (place + 1) frames ≡ whole
frame_on code heap homes top above least next place frame frames whole over is good same =
    ap (λ (n : ℕ). bad_frame_from code heap homes top n (place + 1) frames) is
    ∙ (sym (ap (first_of code heap homes top least place frame frames)
    (ap (λ (a : Above). is_good_frame code heap homes least a frame frame.kind) (sym over) ∙ good))
    ∙ same)

-- at a bad one
pub frame_here : (code : CodeProgram) (heap : Heap) (homes : ℕ) (top above : Above) (least place : ℕ)
    (frame : FrozenFrame) (frames : List FrozenFrame) (whole : Option ℕ) → above ≡ above_of top frames
    → is_good_frame code heap homes least above frame frame.kind ≡ false
    → bad_frame_from code heap homes top least place (frame ∷ frames) ≡ whole → Some place ≡ whole
frame_here code heap homes top above least place frame frames whole over bad same =
    sym (ap (first_of code heap homes top least place frame frames)
    (ap (λ (a : Above). is_good_frame code heap homes least a frame frame.kind) (sym over) ∙ bad))
    ∙ same

-- above the topmost one
pub frame_end : (code : CodeProgram) (heap : Heap) (homes : ℕ) (top : Above) (least place : ℕ) (frames : List FrozenFrame) (whole : Option ℕ)
    → length frames ≡ 0
    → bad_frame_from code heap homes top least place frames ≡ whole → None ≡ whole
frame_end code heap homes top least place [] whole none same = same
frame_end code heap homes top least place (frame ∷ frames) whole none same = absurd (omega (arith, none))
