-- How far down a home stands.
use Rattle.std.proofs.Common.{◌≡◌, ◌⊎◌, inl, inr, ℕ, suc, ◌+◌, ◌-◌, ◌≤◌, ◌==◌, List, [], ◌∷◌, length, take, drop, reverse, refl, sym, ◌∙◌, subst, arith, Option, Some, None, Bool, true, false, if◌then◌else◌}
use Rattle.std.proofs.lemmas.Option.{same_Some}
use Rattle.ns_code.specs.declared.program.CodeProgram.{CodeProgram}
use Rattle.ns_world.specs.declared.value.Value.{Value}
use Rattle.ns_machine_frames.specs.declared.frame.Frame.{Frame}
use Rattle.ns_machine_frames.specs.declared.frame.Frame.TheVariants.{Running, Looping}
use Rattle.ns_machine_frames.specs.declared.frame.Leaving.{Leaving}
use Rattle.ns_machine_frames.specs.declared.frame.Leaving.TheVariants.{Method, Body, Clause, Part}
use Rattle.ns_machine_frames.specs.declared.registers.Registers.{Registers}
use Rattle.ns_machine_frames.specs.Standing.{Stood, Runs, Loops, standing, at_next}
use Rattle.ns_machine_frames.specs.Leaving.{frames_to, is_home, is_method, one_more}
use Rattle.ns_machine_frames.specs.laws.Counts.{many_stand, many_next}
use Rattle.ns_machine_core.specs.declared.state.Core.{Core}
use Rattle.ns_machine_core.specs.Framed.{HasRoomOnTop, answers, AnswersHaveRoom}
use Rattle.ns_machine_returns.specs.Unwinding.{CanUnwind}

-- it is the topmost frame, or one below
step : (home : ℕ) (frame : Frame) (frames : List Frame) (count : ℕ) → frames_to home (frame ∷ frames) ≡ Some count
    → ((is_home home frame ≡ true) × (count ≡ 1)) ⊎ ((k : ℕ) × (frames_to home frames ≡ Some k) × (count ≡ suc k))
step home frame frames count e = by_test (is_home home frame) refl (frames_to home frames) refl e
  where
    by_test : (b : Bool) → is_home home frame ≡ b → (o : Option ℕ) → frames_to home frames ≡ o → (if b then Some 1 else one_more o) ≡ Some count
        → ((is_home home frame ≡ true) × (count ≡ 1)) ⊎ ((k : ℕ) × (frames_to home frames ≡ Some k) × (count ≡ suc k))
    by_test true h o f e = inl (h, sym (same_Some _ _ e))
    by_test false h None f e = absurd (cc)
    by_test false h (Some k) f e = let same : k + 1 ≡ count = same_Some _ _ e in inr (k, f, omega (arith, same))

few_step : (home : ℕ) (frame : Frame) (frames : List Frame) (count : ℕ) → ((k : ℕ) → frames_to home frames ≡ Some k → k ≤ length frames)
    → ((is_home home frame ≡ true) × (count ≡ 1)) ⊎ ((k : ℕ) × (frames_to home frames ≡ Some k) × (count ≡ suc k)) → count ≤ length (frame ∷ frames)
few_step home frame frames count fewer (inl found) = let one = found.1 in omega (arith, one)
few_step home frame frames count fewer (inr more) = let low = fewer more.0 more.1 in let is = more.2 in omega (arith, low, is)

few : (home : ℕ) (frames : List Frame) (count : ℕ) → frames_to home frames ≡ Some count → count ≤ length frames
few home [] count e = absurd (cc)
few home (frame ∷ frames) count e = few_step home frame frames count (λ k there. few home frames k there) (step home frame frames count e)

pub few_frames : (code : CodeProgram) (core : Core) (at : Registers) (home count : ℕ) (value : Value) →
    CanUnwind code core at home count value
    → count ≤ length core.stack.frames.items
few_frames code core at home count value can = few home core.stack.frames.items count can.home_is

pub few_depth : (code : CodeProgram) (core : Core) (at : Registers) (home count : ℕ) (value : Value) →
    CanUnwind code core at home count value
    → count ≤ core.run.world.world.depth
few_depth code core at home count value can =
    let low = few_frames code core at home count value can in
    let depth : core.run.world.world.depth ≡ length core.stack.frames.items =
    can.framed.depth ∙ (many_stand (at_next at.next core.stack.frames.items) (take at.top core.stack.values.items) ∙ many_next at.next core.stack.frames.items) in
    omega (arith, low, depth)

-- ---- room for its answer

home_answers : (leaving : Leaving) (b : Bool) → (if is_method leaving then b else false) ≡ true → answers leaving ≡ true
home_answers Method b e = refl
home_answers Body b e = refl
home_answers (Clause class) b e = refl
home_answers Part b e = absurd (cc)

-- the answer of the topmost frame, or of one below it
room_step : (code : CodeProgram) (home : ℕ) (frame : Frame) (frames : List Frame) (one : Stood) (others : List Stood) (count : ℕ)
    → (is_home home frame ≡ true → HasRoomOnTop code others) → ((k : ℕ) → frames_to home frames ≡ Some k → HasRoomOnTop code (drop k others))
    → ((is_home home frame ≡ true) × (count ≡ 1)) ⊎ ((k : ℕ) × (frames_to home frames ≡ Some k) × (count ≡ suc k))
    → HasRoomOnTop code (drop count (one ∷ others))
room_step code home frame frames one others count here more (inl found) =
    subst (λ (n : ℕ). HasRoomOnTop code (drop n (one ∷ others))) (sym found.1) (here found.0)
room_step code home frame frames one others count here more (inr found) =
    subst (λ (n : ℕ). HasRoomOnTop code (drop n (one ∷ others))) (sym found.2) (more found.0 found.1)

pub room_there : (code : CodeProgram) (home : ℕ) (frames : List Frame) (values : List Value) (count : ℕ) →
    frames_to home frames ≡ Some count
    → AnswersHaveRoom code (standing frames values) → HasRoomOnTop code (drop count (standing frames values))
room_there code home [] values count e rooms = absurd (cc)
room_there code home (Running frame ∷ frames) values count e rooms =
    room_step code home (Running frame) frames
    (Runs frame (take (frame.operands - frame.base) (drop frame.base values)) (reverse (drop frame.operands values))) (standing frames (take frame.floor values)) count
    (λ is. rooms.0 (home_answers frame.leaving (frame.activation.home == home) is)) (λ k there. room_there code home frames (take frame.floor values) k there rooms.1)
    (step home (Running frame) frames count e)
room_there code home (Looping frame ∷ frames) values count e rooms =
    room_step code home (Looping frame) frames (Loops frame) (standing frames (take frame.floor values)) count
    (λ is. rooms.0) (λ k there. room_there code home frames (take frame.floor values) k there rooms.1)
    (step home (Looping frame) frames count e)
