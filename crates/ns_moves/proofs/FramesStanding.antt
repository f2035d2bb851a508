-- Where a frame stands: its next instruction, and how many operands there are before and behind it.
use Rattle.std.proofs.Common.{◌≡◌, ℕ, zero, suc, ◌+◌, ◌-◌, ◌<◌, ◌≤◌, List, [], ◌∷◌, length, drop, get_or, refl, ap, sym, ◌∙◌, subst, arith, Option, Some, None, Bool, true, slice_get}
use Rattle.std.specs.Prelude.{IsSome}
use Rattle.std.specs.Option.{option_map_or, ForSome}
use Rattle.std.proofs.lemmas.List.{length-drop}
use Rattle.std.proofs.lemmas.Option.{get_or_from_slice_get, slice_get-get_or}
use Rattle.ns_code.specs.declared.program.CodeProgram.{CodeProgram}
use Rattle.ns_code.specs.declared.body.BodyCode.{BodyCode}
use Rattle.ns_code.specs.declared.instruction.Instr.{Instr}
use Rattle.ns_code.specs.declared.instruction.Instr.TheVariants as i
use Rattle.ns_code.specs.Table.{takes, leaves, goes_on, target}
use Rattle.ns_verify.specs.Heights.{heights}
use Rattle.ns_verify.specs.Verify.{IsSound}
use Rattle.ns_verify.specs.Places.{height_before}
use Rattle.ns_moves.specs.Steps.{PlacedInstr, place_in, placed, steps_of, steps_from}
use Rattle.ns_moves.specs.ValidFrames.{is_send, is_super_part, next_number, height_of}
use Rattle.ns_moves.specs.ValidFrames.{StandsBefore, WaitsBehind}
use Rattle.ns_moves.proofs.FramesKnown.{SoundKnown}
use Rattle.ns_moves.specs.laws.Steps.{placed_length, placed_at}

-- ---- steps

-- a step and what is left, behind so many
dropped_at : {A : Type 0} (k : ℕ) (xs : List A) (x : A) (rest : List A) → drop k xs ≡ x ∷ rest →
    (slice_get xs k ≡ Some x) × (drop (suc k) xs ≡ rest)
dropped_at zero [] x rest e = absurd (cc)
dropped_at zero (y ∷ ys) x rest e = (let same : y ≡ x = cc in ap Some same, let same : ys ≡ rest = cc in same)
dropped_at (suc k) [] x rest e = absurd (cc)
dropped_at (suc k) (y ∷ ys) x rest e = dropped_at k ys x rest e

-- The next step of a body: its instruction, its place, and what is left behind it.
pub record IsNext (code : CodeProgram) (number : ℕ) (body : BodyCode) (step : PlacedInstr) (rest : List PlacedInstr) : Type 0 where
  pub at : ℕ
  pub before : next_number code number (step ∷ rest) ≡ at
  pub instr : slice_get body.instrs at ≡ Some step.0
  pub place : step.1 ≡ place_in body.places at
  pub behind : next_number code number rest ≡ suc at
  pub left : rest ≡ steps_from code number (next_number code number rest)

pub next_is : (code : CodeProgram) (number : ℕ) (body : BodyCode) (step : PlacedInstr) (rest : List PlacedInstr) →
    slice_get code.bodies number ≡ Some body
    → step ∷ rest ≡ steps_from code number (next_number code number (step ∷ rest)) → IsNext code number body step rest
next_is code number body step rest there inside =
    let all : List PlacedInstr = steps_of code number in
    let at : ℕ = next_number code number (step ∷ rest) in
    let here = dropped_at at all step rest (sym inside) in
    let steps : steps_of code number ≡ placed body.places 0 body.instrs = ap (λ o. option_map_or (λ (b : BodyCode). placed b.places 0 b.instrs) o ((i.ReturnSelf, None) ∷ [])) there in
    let own = placed_at body.places 0 at body.instrs step (ap (λ (l : List PlacedInstr). slice_get l at) (sym steps) ∙ here.0) in
    let zero_at : 0 + at ≡ at = omega arith in
    let count : length (step ∷ rest) ≡ length all - at = ap length inside ∙ length-drop at all in
    let one : length (step ∷ rest) ≡ length rest + 1 = omega arith in
    let behind : next_number code number rest ≡ suc at = behind_is (length all) (length rest) (length (step ∷ rest)) one count in
    record {
      at = at;
      before = refl;
      instr = own.0;
      place = own.1 ∙ ap (place_in body.places) zero_at;
      behind = behind;
      left = sym here.1 ∙ ap (λ n. drop n all) (sym behind);
    }
  where
    behind_is : (all more whole : ℕ) → whole ≡ more + 1 → whole ≡ all - (all - whole) → all - more ≡ suc (all - whole)
    behind_is all more whole one count = omega (arith, one, count)

-- a body that begins has all of its steps left
pub all_left : (code : CodeProgram) (number : ℕ) →
    steps_of code number ≡ steps_from code number (next_number code number (steps_of code number))
all_left code number =
    let none : length (steps_of code number) - length (steps_of code number) ≡ 0 = omega arith in
    sym (ap (λ n. drop n (steps_of code number)) none)

-- behind its last step there is no instruction
pub no_next : (code : CodeProgram) (number : ℕ) (body : BodyCode) → slice_get code.bodies number ≡ Some body →
    next_number code number [] < length body.instrs → ⊥
no_next code number body there inside =
    let steps : steps_of code number ≡ placed body.places 0 body.instrs = ap (λ o. option_map_or (λ (b : BodyCode). placed b.places 0 b.instrs) o ((i.ReturnSelf, None) ∷ [])) there in
    let many : length (steps_of code number) ≡ length body.instrs = ap length steps ∙ placed_length body.places 0 body.instrs in
    let none : next_number code number [] ≡ length (steps_of code number) = omega arith in
    omega (arith, many, none, inside)

-- where a jump goes on
pub target_left : (code : CodeProgram) (number : ℕ) (body : BodyCode) (to : ℕ) → slice_get code.bodies number ≡ Some body →
    to < length body.instrs
    → next_number code number (steps_from code number to) ≡ to
target_left code number body to there inside =
    let steps : steps_of code number ≡ placed body.places 0 body.instrs = ap (λ o. option_map_or (λ (b : BodyCode). placed b.places 0 b.instrs) o ((i.ReturnSelf, None) ∷ [])) there in
    let many : length (steps_of code number) ≡ length body.instrs = ap length steps ∙ placed_length body.places 0 body.instrs in
    let rest : length (steps_from code number to) ≡ length (steps_of code number) - to = length-drop to (steps_of code number) in
    omega (arith, many, rest, inside)

-- ---- heights

-- what is told of an instruction that waits
pub send_goes : (instr : Instr) → is_send instr ≡ true → (goes_on instr ≡ true) × (leaves instr ≡ 1)
send_goes i.PushNil e = absurd (cc)
send_goes i.PushTrue e = absurd (cc)
send_goes i.PushFalse e = absurd (cc)
send_goes (i.PushInt number) e = absurd (cc)
send_goes (i.PushSym sel) e = absurd (cc)
send_goes (i.PushText text) e = absurd (cc)
send_goes i.PushSelf e = absurd (cc)
send_goes (i.PushOuter level) e = absurd (cc)
send_goes (i.PushLocal hops index) e = absurd (cc)
send_goes (i.StoreLocal hops index) e = absurd (cc)
send_goes (i.PushBlock body) e = absurd (cc)
send_goes (i.MakeArray count) e = absurd (cc)
send_goes i.Pop e = absurd (cc)
send_goes (i.Pick number) e = absurd (cc)
send_goes (i.Send sel argc) e = (refl, refl)
send_goes (i.SendInner sel argc) e = (refl, refl)
send_goes (i.SendPrivate level sel argc) e = (refl, refl)
send_goes (i.SendSuper sel argc) e = (refl, refl)
send_goes (i.InitSuper argc) e = absurd (cc)
send_goes (i.StoreSlot slot) e = absurd (cc)
send_goes i.Return e = absurd (cc)
send_goes i.ReturnSelf e = absurd (cc)
send_goes i.ReturnHome e = absurd (cc)
send_goes (i.Jump target) e = absurd (cc)
send_goes (i.JumpFalse target) e = absurd (cc)
send_goes (i.JumpTrue target) e = absurd (cc)

pub part_goes : (instr : Instr) → is_super_part instr ≡ true → (goes_on instr ≡ true) × (leaves instr ≡ 0)
part_goes i.PushNil e = absurd (cc)
part_goes i.PushTrue e = absurd (cc)
part_goes i.PushFalse e = absurd (cc)
part_goes (i.PushInt number) e = absurd (cc)
part_goes (i.PushSym sel) e = absurd (cc)
part_goes (i.PushText text) e = absurd (cc)
part_goes i.PushSelf e = absurd (cc)
part_goes (i.PushOuter level) e = absurd (cc)
part_goes (i.PushLocal hops index) e = absurd (cc)
part_goes (i.StoreLocal hops index) e = absurd (cc)
part_goes (i.PushBlock body) e = absurd (cc)
part_goes (i.MakeArray count) e = absurd (cc)
part_goes i.Pop e = absurd (cc)
part_goes (i.Pick number) e = absurd (cc)
part_goes (i.Send sel argc) e = absurd (cc)
part_goes (i.SendInner sel argc) e = absurd (cc)
part_goes (i.SendPrivate level sel argc) e = absurd (cc)
part_goes (i.SendSuper sel argc) e = absurd (cc)
part_goes (i.InitSuper argc) e = (refl, refl)
part_goes (i.StoreSlot slot) e = absurd (cc)
part_goes i.Return e = absurd (cc)
part_goes i.ReturnSelf e = absurd (cc)
part_goes i.ReturnHome e = absurd (cc)
part_goes (i.Jump target) e = absurd (cc)
part_goes (i.JumpFalse target) e = absurd (cc)
part_goes (i.JumpTrue target) e = absurd (cc)

module _ (known : SoundKnown) (code : CodeProgram) (number : ℕ) (body : BodyCode) (sound : IsSound code) (there : slice_get code.bodies number ≡ Some body) where
  pub height_is : (at : ℕ) (instr : Instr) → slice_get body.instrs at ≡ Some instr → height_of body at ≡ height_before body at
  height_is at instr e = get_or_from_slice_get (heights body) at (height_before body at) 0 (known.height body at instr e)

  some_height : (at : ℕ) → at < length body.instrs → height_of body at ≡ height_before body at
  some_height at inside = height_is at (get_or body.instrs at i.Pop) (slice_get-get_or body.instrs at i.Pop inside)

  -- an instruction has the operands that it takes
  pub enough : (at : ℕ) (instr : Instr) (count : ℕ) → slice_get body.instrs at ≡ Some instr → count ≡ height_of body at → takes instr ≤ count
  enough at instr count e h =
      let agree = known.agree code number at body instr sound there e in
      let own = height_is at instr e in
      let many = agree.enough in
      omega (arith, h, own, many)

  -- behind an instruction that goes on
  pub stands_behind : (at : ℕ) (instr : Instr) (count : ℕ) → slice_get body.instrs at ≡ Some instr → goes_on instr ≡ true
      → count ≡ height_of body at - takes instr + leaves instr → StandsBefore body (suc at) count
  stands_behind at instr count e on h =
      let agree = known.agree code number at body instr sound there e in
      let own = height_is at instr e in
      let inside : suc at < length body.instrs = let next = agree.next_there on in omega (arith, next) in
      let same : at + 1 ≡ suc at = omega arith in
      let after : height_before body (suc at) ≡ height_before body at - takes instr + leaves instr = ap (height_before body) (sym same) ∙ agree.next on in
      let other = some_height (suc at) inside in
      (inside, omega (arith, h, own, after, other))

  -- at the target of a jump
  pub stands_at : (at : ℕ) (instr : Instr) (to count : ℕ) → slice_get body.instrs at ≡ Some instr → target instr ≡ Some to
      → count ≡ height_of body at - takes instr + leaves instr → StandsBefore body to count
  stands_at at instr to count e is h =
      let agree = known.agree code number at body instr sound there e in
      let own = height_is at instr e in
      let inside = agree.target_there to is in
      let after = agree.target to is in
      let other = some_height to inside in
      (inside, omega (arith, h, own, after, other))

  -- a frame goes on with what it waited for
  goes_behind : (waits : Instr → Bool) (more at count : ℕ) → ((instr : Instr) → waits instr ≡ true → (goes_on instr ≡ true) × (leaves instr ≡ more))
      → WaitsBehind body at count waits → StandsBefore body at (count + more)
  goes_behind waits more zero count facts w = absurd w
  goes_behind waits more (suc at) count facts w = before (slice_get body.instrs at) refl w.0 w.1
    where
      before : (o : Option Instr) → slice_get body.instrs at ≡ o → IsSome o
          → ForSome o (λ (before : Instr). (waits before ≡ true) × (count ≡ height_of body at - takes before)) → StandsBefore body (suc at) (count + more)
      before (Some instr) e some f =
          let own = f instr refl in
          let known_of = facts instr own.0 in
          let l = known_of.1 in let c = own.1 in
          stands_behind at instr (count + more) e known_of.0 (omega (arith, l, c))
      before None e some f = absurd (cc)

  pub value_comes : (at count : ℕ) → WaitsBehind body at count is_send → StandsBefore body at (count + 1)
  value_comes at count w = goes_behind is_send 1 at count send_goes w

  pub part_ends : (at count : ℕ) → WaitsBehind body at count is_super_part → StandsBefore body at (count + 0)
  part_ends at count w = goes_behind is_super_part 0 at count part_goes w

  -- an instruction waits behind itself
  pub waits_here : (at : ℕ) (instr : Instr) (waits : Instr → Bool) (count : ℕ) → slice_get body.instrs at ≡ Some instr → waits instr ≡ true
      → count ≡ height_of body at - takes instr → WaitsBehind body (suc at) count waits
  waits_here at instr waits count e is h = (
    rw e refl,
    λ before f. let both : Some instr ≡ Some before = sym e ∙ f in
        let same : instr ≡ before = cc in
        subst (λ before. (waits before ≡ true) × (count ≡ height_of body at - takes before)) same (is, h),
  )
