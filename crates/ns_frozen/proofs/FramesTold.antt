-- The frames of a valid run have no bad one among them.
use Rattle.std.proofs.Common.{◌≡◌, ℕ, ◌+◌, ◌≤◌, List, [], ◌∷◌, ◌++◌, refl, ap, sym, ◌∙◌, subst, arith, Some, None, Bool, true, false, cond}
use Rattle.std.proofs.lemmas.Bool.{and_parts, cond-true, le-leb, ltb-true}
use Rattle.std.proofs.lemmas.List.{reverse-append}
use Rattle.std.specs.Prelude.{nat_lt, ◌==◌}
use Rattle.ns_code.specs.declared.program.CodeProgram.{CodeProgram}
use Rattle.ns_world.specs.Heap.{Heap}
use Rattle.ns_world.specs.Lawful.{IsLawful}
use Rattle.ns_moves.specs.Control.{Progress, FromMethod, FromBody, FromClause}
use Rattle.ns_code.specs.Soundness.{block_kind}
use Rattle.ns_moves.specs.Fitting.{kind_of}
use Rattle.ns_moves.specs.State.{Frame, Running, Looping, Loud, Silent}
use Rattle.ns_moves.specs.ValidFrames.{Awaited, awaited_below, homes_fall, FramesAreValid}
use Rattle.ns_frozen.specs.declared.frame.FrameKind.TheVariants as kinds
use Rattle.ns_frozen.specs.declared.frame.FrozenFrame.{FrozenFrame}
use Rattle.ns_frozen.specs.Freezing.{frame_frozen, frames_down, frames_frozen}
use Rattle.ns_frozen.specs.Frames.{Above, Under, above_of, is_good_frame, least_above, bad_frame_from}
use Rattle.ns_frozen.proofs.Framed.{first_good}
use Rattle.ns_frozen.proofs.FrameTests.{Gives, begins_above, frame_told, gives_told}
use Rattle.ns_frozen.proofs.Stood.{is_waiting, valid_parts, below_waits}

-- the least home that may stand above some frames
abbrev least_after : ℕ → List FrozenFrame → ℕ
least_after least [] = least
least_after least (frame ∷ frames) = least_after (least_above least frame frame.kind) frames

least_last : (least : ℕ) (frames : List FrozenFrame) (last : FrozenFrame) → least_after least (frames ++ last ∷ []) ≡ least_above (least_after least frames) last last.kind
least_last least [] last = refl
least_last least (frame ∷ frames) last = least_last (least_above least frame frame.kind) frames last

above_last : (top : Above) (frames : List FrozenFrame) (last : FrozenFrame) → above_of top (frames ++ last ∷ []) ≡ above_of (Under last.kind) frames
above_last top [] last = refl
above_last top (frame ∷ frames) last = refl

-- one good frame more, above the others
one_more_good : (code : CodeProgram) (heap : Heap) (homes least place : ℕ) (top : Above) (frames : List FrozenFrame) (last : FrozenFrame)
    → bad_frame_from code heap homes (Under last.kind) least place frames ≡ None → is_good_frame code heap homes (least_after least frames) top last last.kind ≡ true
    → bad_frame_from code heap homes top least place (frames ++ last ∷ []) ≡ None
one_more_good code heap homes least place top [] last e g = cond-true (is_good_frame code heap homes least top last last.kind) None (Some place) g
one_more_good code heap homes least place top (frame ∷ frames) last e g =
    let parts = first_good (is_good_frame code heap homes least (above_of (Under last.kind) frames) frame frame.kind) _ place e in
    cond-true (is_good_frame code heap homes least (above_of top (frames ++ last ∷ [])) frame frame.kind) _ (Some place) (ap (λ a. is_good_frame code heap homes least a frame frame.kind) (above_last top frames last) ∙ parts.0)
    ∙ one_more_good code heap homes (least_above least frame frame.kind) (place + 1) top frames last parts.1 g

-- the homes of the frames below one fall from its own, where it is of a method
abbrev next_bound : ℕ → Frame → ℕ
next_bound bound (Running (Loud FromMethod) activation locals rest stack) = activation.home
next_bound bound frame = bound

falls_below : (bound : ℕ) (frame : Frame) (frames : List Frame) → homes_fall bound (frame ∷ frames) ≡ true → homes_fall (next_bound bound frame) frames ≡ true
falls_below bound (Running (Loud FromMethod) activation locals rest stack) frames h = (and_parts (nat_lt activation.home bound) (homes_fall activation.home frames) h).1
falls_below bound (Running (Loud FromBody) activation locals rest stack) frames h = h
falls_below bound (Running (Loud (FromClause object holder class)) activation locals rest stack) frames h = h
falls_below bound (Running Silent activation locals rest stack) frames h = h
falls_below bound (Looping method state site) frames h = h

begins_told : (code : CodeProgram) (progress : Progress) (lawful : IsLawful progress.world code) (least bound : ℕ) (frame : Frame) → least ≤ next_bound bound frame → begins_above code progress lawful least frame ≡ true
begins_told code progress lawful least bound (Running (Loud FromMethod) activation locals rest stack) l = le-leb least activation.home l
begins_told code progress lawful least bound (Running (Loud FromBody) activation locals rest stack) l = refl
begins_told code progress lawful least bound (Running (Loud (FromClause object holder class)) activation locals rest stack) l = refl
begins_told code progress lawful least bound (Running Silent activation locals rest stack) l = refl
begins_told code progress lawful least bound (Looping method state site) l = refl

least_same : (code : CodeProgram) (least body : ℕ) (frame : FrozenFrame) (b : Bool) → least_above least frame (cond b (kinds.Block body) (kinds.Initialiser body)) ≡ least
least_same code least body frame true = refl
least_same code least body frame false = refl

least_told : (code : CodeProgram) (waits : Bool) (least bound : ℕ) (frame : Frame) (frames : List Frame) → homes_fall bound (frame ∷ frames) ≡ true → least ≤ next_bound bound frame
    → least_above least (frame_frozen code waits frame) (frame_frozen code waits frame).kind ≤ bound
least_told code waits least bound (Running (Loud FromMethod) activation locals rest stack) frames h l = omega (arith, ltb-true activation.home bound ((and_parts (nat_lt activation.home bound) (homes_fall activation.home frames) h).0))
least_told code waits least bound (Running (Loud FromBody) activation locals rest stack) frames h l =
    omega (arith, l, least_same code least activation.body (frame_frozen code waits (Running (Loud FromBody) activation locals rest stack)) (kind_of code activation.body == block_kind))
least_told code waits least bound (Running (Loud (FromClause object holder class)) activation locals rest stack) frames h l = l
least_told code waits least bound (Running Silent activation locals rest stack) frames h l = l
least_told code waits least bound (Looping method state site) frames h l = l

-- The frames of a valid run have no bad one among them, and the homes of those above begin at its bound.
pub frames_told : (code : CodeProgram) (progress : Progress) → IsLawful progress.world code → (awaited : Awaited) (above : Above) (bound : ℕ) (frames : List Frame) → Gives awaited above
    → FramesAreValid code progress awaited frames → homes_fall bound frames ≡ true
    → (bad_frame_from code progress.world.cells progress.begun above 0 0 (frames_frozen code (is_waiting awaited) frames) ≡ None) × (least_after 0 (frames_frozen code (is_waiting awaited) frames) ≤ bound)
frames_told code progress lawful awaited above bound [] g v h = (refl, omega arith)
frames_told code progress lawful awaited above bound (frame ∷ frames) g v h =
    let heap : Heap = progress.world.cells in
    let waits : Bool = is_waiting awaited in
    let top : FrozenFrame = frame_frozen code waits frame in
    let parts = valid_parts code progress awaited frame frames v in
    let below = awaited_below code frame in
    let others : (bad_frame_from code heap progress.begun (Under top.kind) 0 0 (frames_frozen code true frames) ≡ None) × (least_after 0 (frames_frozen code true frames) ≤ next_bound bound frame) =
    subst (λ w. (bad_frame_from code heap progress.begun (Under top.kind) 0 0 (frames_frozen code w frames) ≡ None) × (least_after 0 (frames_frozen code w frames) ≤ next_bound bound frame)) (below_waits code progress frame)
    (frames_told code progress lawful below (Under top.kind) (next_bound bound frame) frames (gives_told code progress lawful waits awaited frame parts.0) parts.1 (falls_below bound frame frames h)) in
    let good = frame_told code progress lawful (least_after 0 (frames_frozen code true frames)) awaited above frame g parts.0 (begins_told code progress lawful (least_after 0 (frames_frozen code true frames)) bound frame others.1) in
    let list : frames_frozen code waits (frame ∷ frames) ≡ frames_frozen code true frames ++ top ∷ [] = reverse-append (top ∷ []) (frames_down code true frames) in (
      ap (bad_frame_from code heap progress.begun above 0 0) list ∙ one_more_good code heap progress.begun 0 0 above (frames_frozen code true frames) top others.0 good,
      subst (λ n. n ≤ bound) (sym (ap (least_after 0) list ∙ least_last 0 (frames_frozen code true frames) top)) (least_told code waits (least_after 0 (frames_frozen code true frames)) bound frame frames h others.1),
    )
