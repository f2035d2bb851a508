-- Frames are put on one another, from the outermost to the topmost.
use Rattle.std.proofs.Common.{◌≡◌, ℕ, zero, suc, ◌+◌, ◌*◌, ◌<◌, ◌≤◌, List, [], ◌∷◌, length, drop, refl, ap, sym, ◌∙◌, subst, arith, Bool, true, false, ◌||◌, ◌⊎◌, inl, inr}
use Rattle.std.proofs.lemmas.Bool.{lt-ltb, le-ltb, cases_lt}
use Rattle.std.proofs.lemmas.List.{drop_all}
use Rattle.std.proofs.lemmas.Nat.{mul-le}
use Rattle.std.specs.Prelude.{nat_lt}
use Rattle.ns_base.specs.declared.place.Place.{Place as SourcePlace}
use Rattle.ns_code.specs.declared.program.CodeProgram.{CodeProgram}
use Rattle.ns_moves.specs.Bodies.{height_in, greatest_of}
use Rattle.ns_moves.specs.State as run
use Rattle.ns_frozen.specs.declared.frame.FrozenFrame.{FrozenFrame}
use Rattle.ns_frozen.specs.Thawing.{is_at_super, is_below, frame_thawed, frames_onto, frames_thawed}
use Rattle.ns_machine_frames.specs.declared.frame.Frame.{Frame}
use Rattle.ns_machine_frames.specs.declared.registers.Registers.{Registers}
use Rattle.ns_machine_frames.specs.declared.stack.Stack.{Stack}
use Rattle.ns_machine_frames.specs.Row.{FrameRow, ValueRow}
use Rattle.ns_machine_frames.specs.Standing.{Stood, standing, at_next}
use Rattle.ns_machine_frames.specs.Stack.{in_use, stood, IsLaid}
use Rattle.ns_machine_frames.specs.Room.{FramesFitWithin}
use Rattle.ns_machine_frames.specs.View.{frame_shown, frames_shown}
use Rattle.ns_machine_frames.specs.laws.Room.{bound_is}
use Rattle.ns_machine_thaw.specs.Frames.{SiteIsPlaced, SitesArePlaced, KindFits, FramesFit, HasFrameRoom, HasDepthRoom, StandLow, SameFrameRoom, FrameIsPut, stood_of}
use Rattle.ns_machine_thaw.proofs.Supers.{get_dropped}

-- ---- lists

-- whether there is one from a number on
pub below_is : (k : ℕ) (frames : List FrozenFrame) → is_below (drop k frames) ≡ nat_lt k (length frames)
below_is k frames = by_number (cases_lt k (length frames))
  where
    some : (k : ℕ) (frames : List FrozenFrame) → k < length frames → is_below (drop k frames) ≡ true
    some k [] less = absurd (omega (arith, less))
    some zero (frame ∷ frames) less = refl
    some (suc k) (frame ∷ frames) less = some k frames (omega (arith, less))

    by_number : (k < length frames) ⊎ (length frames ≤ k) → is_below (drop k frames) ≡ nat_lt k (length frames)
    by_number (inl less) = some k frames less ∙ sym (lt-ltb k (length frames) less)
    by_number (inr past) = ap is_below (drop_all k frames past) ∙ sym (le-ltb k (length frames) past)

-- each of frames that fit does
pub fit_at : (code : CodeProgram) (k : ℕ) (frames : List FrozenFrame) (frame : FrozenFrame) (rest : List FrozenFrame) → drop k frames ≡ frame ∷ rest
    → FramesFit code frames → KindFits code frame frame.kind
fit_at code zero [] frame rest e fit = absurd (cc)
fit_at code (suc k) [] frame rest e fit = absurd (cc)
fit_at code zero (first ∷ frames) frame rest e fit =
    let same : first ≡ frame = cc in subst (λ (f : FrozenFrame). KindFits code f f.kind) same fit.0
fit_at code (suc k) (first ∷ frames) frame rest e fit = fit_at code k frames frame rest e fit.1

-- ---- the loop

-- So many frames stand; with those that are left they are all.
pub record PutSoFar (code : CodeProgram) (first : ℕ) (waits : Bool) (frames : List FrozenFrame) (number : ℕ) (part : Bool) (old stack : Stack) (at : Registers) : Type 0 where
  pub shown : (places : List SourcePlace) → SitesArePlaced places first frames
      → frames_onto code waits part (frames_shown code places (stood stack at)) (drop number frames) ≡ frames_thawed code waits frames
  pub stand : StandLow code stack at
  pub room : SameFrameRoom old stack
  pub count : length stack.frames.items ≡ number

pub put_starts : (code : CodeProgram) (first : ℕ) (waits : Bool) (frames : List FrozenFrame) (old stack : Stack) (at : Registers) → IsLaid stack at
    → stack.values ≡ old.values → stack.frames ≡ record old.frames { items = [] } → at ≡ record { next = 0; top = 0; base = 0 }
    → PutSoFar code first waits frames 0 false old stack at
put_starts code first waits frames old stack at laid values none is = record {
  shown = λ places placed. ap (λ (all : List Frame). frames_onto code waits false (frames_shown code places (standing (at_next at.next all) (in_use stack at))) frames) empty;
  stand = record {
    standing = record {
      laid = laid;
      within = subst (FramesFitWithin (height_in code) (greatest_of code.bodies) (length stack.values.items)) (sym empty) tt;
    };
    top = let top = ap (λ (r : Registers). r.top) is in omega (arith, top);
  };
  room = record { values = ap (λ (row : ValueRow). row.room) values; frames = ap (λ (row : FrameRow). row.room) none };
  count = ap length empty;
}
  where
    empty : stack.frames.items ≡ []
    empty = ap (λ (row : FrameRow). row.items) none

-- there is room for the next frame
pub next_room : (code : CodeProgram) (first : ℕ) (waits : Bool) (frames : List FrozenFrame) (number : ℕ) (part : Bool) (old stack : Stack) (at : Registers)
    → number < length frames → HasDepthRoom code (length frames) old → PutSoFar code first waits frames number part old stack at → HasFrameRoom code stack
next_room code first waits frames number part old stack at more room so = record {
  frames = let count = so.count in let few = room.frames in let same = so.room.frames in omega (arith, more, count, few, same);
  values =
      let greatest = greatest_of code.bodies in
      let all : (number + 1) * greatest ≤ length frames * greatest = mul-le (number + 1) greatest (length frames) greatest (omega (arith, more)) (omega arith) in
      let one : (number + 1) * greatest ≡ number * greatest + greatest = grind arith in
      let is = bound_is greatest stack.frames.items in
      let same : length stack.frames.items * greatest ≡ number * greatest = ap (λ (n : ℕ). n * greatest) so.count in
      let enough = room.values in
      let rooms = so.room.values in
      omega (arith, all, one, is, same, enough, rooms);
}

-- its values end within 32 bits
pub next_small : (code : CodeProgram) (stack : Stack) (at : Registers) → StandLow code stack at → HasFrameRoom code stack → at.top + greatest_of code.bodies ≤ 4294967295
next_small code stack at stand room =
    let top = stand.top in let values = room.values in let small = stand.standing.laid.small in omega (arith, top, values, small)

pub put_goes_on : (code : CodeProgram) (first : ℕ) (waits : Bool) (frames : List FrozenFrame) (number : ℕ) (part waiting last : Bool) (old stack new : Stack) (at to : Registers)
    (frame : FrozenFrame) (kept : Frame) → drop number frames ≡ frame ∷ drop (number + 1) frames
    → waiting ≡ (waits || nat_lt (number + 1) (length frames))
    → ((places : List SourcePlace) → SiteIsPlaced places (first + number) frame.site → frame_shown code places (stood_of kept frame) ≡ frame_thawed code part waiting frame.kind frame)
    → FrameIsPut code (stood_of kept frame) stack at new to → last ≡ is_at_super code frame.kind frame.instr
    → PutSoFar code first waits frames number part old stack at → PutSoFar code first waits frames (number + 1) last old new to
put_goes_on code first waits frames number part waiting last old stack new at to frame kept cut is_waiting shown put is_last so = record {
  shown = λ places placed.
      let own : frame_shown code places (stood_of kept frame) ≡ frame_thawed code part (waits || is_below (drop (number + 1) frames)) frame.kind frame =
      shown places (placed number frame (get_dropped frames number frame (drop (number + 1) frames) cut))
      ∙ ap (λ (b : Bool). frame_thawed code part b frame.kind frame) (is_waiting ∙ ap (λ (b : Bool). waits || b) (sym (below_is (number + 1) frames))) in
      ap (λ (b : Bool). frames_onto code waits b (frames_shown code places (stood new to)) (drop (number + 1) frames)) is_last
      ∙ (ap (λ (all : List Stood). frames_onto code waits (is_at_super code frame.kind frame.instr) (frames_shown code places all) (drop (number + 1) frames)) put.stands
      ∙ (ap (λ (one : run.Frame). frames_onto code waits (is_at_super code frame.kind frame.instr) (one ∷ frames_shown code places (stood stack at)) (drop (number + 1) frames)) own
      ∙ (ap (frames_onto code waits part (frames_shown code places (stood stack at))) (sym cut) ∙ so.shown places placed)));
  stand = put.stand;
  room = record { values = put.room.values ∙ so.room.values; frames = put.room.frames ∙ so.room.frames };
  count = let one = put.count in let count = so.count in omega (arith, one, count);
}

pub put_ends : (code : CodeProgram) (first : ℕ) (waits : Bool) (frames : List FrozenFrame) (number : ℕ) (part : Bool) (old stack : Stack) (at : Registers) → length frames ≤ number
    → PutSoFar code first waits frames number part old stack at → (places : List SourcePlace) → SitesArePlaced places first frames
    → frames_shown code places (stood stack at) ≡ frames_thawed code waits frames
put_ends code first waits frames number part old stack at past so places placed =
    ap (frames_onto code waits part (frames_shown code places (stood stack at))) (sym (drop_all number frames past)) ∙ so.shown places placed
