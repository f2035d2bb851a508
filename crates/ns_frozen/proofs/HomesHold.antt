-- The homes of good frames fall from the topmost down.
use Rattle.std.proofs.Common.{◌≡◌, ℕ, ◌+◌, ◌≤◌, List, [], ◌∷◌, refl, ap, sym, ◌∙◌, arith, None, Bool, true, false, ◌||◌}
use Rattle.std.proofs.lemmas.Bool.{and_parts, and_from, ltb-true, lt-ltb, leb-true}
use Rattle.std.specs.Prelude.{nat_lt, nat_le}
use Rattle.ns_code.specs.declared.program.CodeProgram.{CodeProgram}
use Rattle.ns_world.specs.Heap.{Heap}
use Rattle.ns_moves.specs.Control.{FromMethod, FromBody, FromClause}
use Rattle.ns_moves.specs.State.{Frame, Running, Looping, Loud, Silent}
use Rattle.ns_moves.specs.ValidFrames.{homes_fall}
use Rattle.ns_frozen.specs.declared.frame.FrameKind.{FrameKind}
use Rattle.ns_frozen.specs.declared.frame.FrameKind.TheVariants as kinds
use Rattle.ns_frozen.specs.declared.frame.FrozenFrame.{FrozenFrame}
use Rattle.ns_frozen.specs.Thawing.{is_at_super, initialiser_leaves, frame_thawed, running_thawed, is_below, frames_onto}
use Rattle.ns_frozen.specs.Frames.{Above, above_of, ends_well, is_good_frame, least_above, bad_frame_from}
use Rattle.ns_frozen.proofs.Framed.{first_good}

-- homes that fall from below a number fall from below a greater one
falls_more : (bound more : ℕ) (frames : List Frame) → bound ≤ more → homes_fall bound frames ≡ true → homes_fall more frames ≡ true
falls_more bound more [] b h = refl
falls_more bound more (Running (Loud FromMethod) activation locals rest stack ∷ frames) b h =
    let parts = and_parts (nat_lt activation.home bound) (homes_fall activation.home frames) h in
    and_from (nat_lt activation.home more) (homes_fall activation.home frames) (lt-ltb activation.home more (omega (arith, b, ltb-true activation.home bound parts.0))) parts.1
falls_more bound more (Running (Loud FromBody) activation locals rest stack ∷ frames) b h = falls_more bound more frames b h
falls_more bound more (Running (Loud (FromClause object holder class)) activation locals rest stack ∷ frames) b h = falls_more bound more frames b h
falls_more bound more (Running Silent activation locals rest stack ∷ frames) b h = falls_more bound more frames b h
falls_more bound more (Looping method state site ∷ frames) b h = falls_more bound more frames b h

-- What is known of a good frame's homes: the least that may stand above it is within all, and from there they fall.
record Falls (homes least : ℕ) (frames : List Frame) : Type 0 where
  within : least ≤ homes
  falls : homes_fall least frames ≡ true

silent_falls : (code : CodeProgram) (part waits : Bool) (least body : ℕ) (frame : FrozenFrame) (below : List Frame) → homes_fall least below ≡ true
    → homes_fall least (running_thawed code waits (initialiser_leaves part) body frame ∷ below) ≡ true
silent_falls code true waits least body frame below h = h
silent_falls code false waits least body frame below h = h

-- one good frame more
more_falls : (code : CodeProgram) (heap : Heap) (homes least : ℕ) (above : Above) (part waits : Bool) (frame : FrozenFrame) (kind : FrameKind) (below : List Frame) → frame.kind ≡ kind
    → is_good_frame code heap homes least above frame kind ≡ true → Falls homes least below → Falls homes (least_above least frame kind) (frame_thawed code part waits kind frame ∷ below)
more_falls code heap homes least above part waits frame (kinds.Method body) below k e f =
    let ends : ends_well code heap homes least frame (kinds.Method body) ≡ true = ap (ends_well code heap homes least frame) (sym k) ∙ (and_parts _ (ends_well code heap homes least frame frame.kind) e).1 in
    let both = and_parts (nat_lt frame.home homes) (nat_le least frame.home) ends in
    record {
      within = omega (arith, ltb-true frame.home homes both.0);
      falls = and_from (nat_lt frame.home (frame.home + 1)) (homes_fall frame.home below) (lt-ltb frame.home (frame.home + 1) (omega arith)) (falls_more least frame.home below (leb-true least frame.home both.1) f.falls);
    }
more_falls code heap homes least above part waits frame (kinds.Block body) below k e f = record { within = f.within; falls = f.falls }
more_falls code heap homes least above part waits frame (kinds.Initialiser body) below k e f = record { within = f.within; falls = silent_falls code part waits least body frame below f.falls }
more_falls code heap homes least above part waits frame (kinds.Clause body object holder class) below k e f = record { within = f.within; falls = f.falls }
more_falls code heap homes least above part waits frame (kinds.Kernel method state) below k e f = record { within = f.within; falls = f.falls }

all_fall : (code : CodeProgram) (heap : Heap) (homes least place : ℕ) (top : Above) (waits part : Bool) (below : List Frame) (frames : List FrozenFrame) → bad_frame_from code heap homes top least place frames ≡ None
    → Falls homes least below → homes_fall homes (frames_onto code waits part below frames) ≡ true
all_fall code heap homes least place top waits part below [] e f = falls_more least homes below f.within f.falls
all_fall code heap homes least place top waits part below (frame ∷ frames) e f =
    let good = first_good (is_good_frame code heap homes least (above_of top frames) frame frame.kind) _ place e in
    all_fall code heap homes (least_above least frame frame.kind) (place + 1) top waits (is_at_super code frame.kind frame.instr) (frame_thawed code part (waits || is_below frames) frame.kind frame ∷ below) frames good.1
    (more_falls code heap homes least (above_of top frames) part (waits || is_below frames) frame frame.kind below refl good.0 f)

-- The homes of good frames fall from the topmost down.
pub homes_thawed : (code : CodeProgram) (heap : Heap) (homes : ℕ) (top : Above) (waits : Bool) (frames : List FrozenFrame) → bad_frame_from code heap homes top 0 0 frames ≡ None → homes_fall homes (frames_onto code waits false [] frames) ≡ true
homes_thawed code heap homes top waits frames e = all_fall code heap homes 0 0 top waits false [] frames e (record { within = omega arith; falls = refl })
