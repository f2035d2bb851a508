-- Where a good frame stands, as a run has it.
use Rattle.std.proofs.Common.{◌≡◌, ⊎_elim, ℕ, suc, ◌+◌, ◌-◌, ◌<◌, ◌≤◌, length, refl, ap, sym, ◌∙◌, subst, arith, Option, Some, None, IsSome, Bool, true, false, ◌&&◌}
use Rattle.std.proofs.lemmas.Bool.{and_parts, eqb-true, ltb-true, or_cases}
use Rattle.std.proofs.lemmas.Option.{slice_get_within, same_Some}
use Rattle.std.specs.Prelude.{slice_get, IsTrue, nat_lt, ◌==◌}
use Rattle.std.specs.Option.{option_map_or, ForSome}
use Rattle.ns_code.specs.declared.program.CodeProgram.{CodeProgram}
use Rattle.ns_code.specs.declared.body.BodyCode.{BodyCode}
use Rattle.ns_code.specs.declared.instruction.Instr.{Instr}
use Rattle.ns_code.specs.Table.{takes}
use Rattle.ns_moves.specs.ValidFrames.{Awaited, Nothing, SendValue, BlockValue, PartEnd, is_send, is_super_part, next_number, height_of, WaitsBehind, Stands}
use Rattle.ns_frozen.specs.declared.frame.FrameKind.TheVariants as kinds
use Rattle.ns_frozen.specs.Thawing.{is_super_at, rest_thawed}
use Rattle.ns_frozen.specs.Frames.{Above, Free, Waiting, Under, is_under_initialiser, is_under_block, waits_under, waits_at, stands_at}
use Rattle.ns_frozen.proofs.Framed.{steps_count}
use Rattle.ns_frozen.proofs.FrameTests.{is_taken}
use Rattle.ns_frozen.proofs.Numbers.{number_back}
use Rattle.ns_frozen.proofs.Stood.{is_waiting}

-- What stands above gives what is awaited; `part` tells whether the frame itself stands at a superclass message.
abbrev pub Given : Bool → Awaited → Above → Type 0
Given part Nothing above = above ≡ Free
Given part SendValue above = (is_taken above ≡ true) × ((part && is_under_initialiser above) ≡ false)
Given part BlockValue above = (is_taken above ≡ true) × (is_under_block above ≡ true)
Given part PartEnd above = (is_taken above ≡ true) × (part ≡ true) × (is_under_initialiser above ≡ true)

-- what stands above an instruction that waits
taken_waits : (body : BodyCode) (above : Above) (number count : ℕ) → is_taken above ≡ true → stands_at body above number count ≡ true → waits_at body above number count ≡ true
taken_waits body Free number count t e = absurd (cc)
taken_waits body Waiting number count t e = e
taken_waits body (Under kind) number count t e = e

block_apart : (above : Above) → is_taken above ≡ true → is_under_block above ≡ true → is_under_initialiser above ≡ false
block_apart Free t e = absurd (cc)
block_apart Waiting t e = refl
block_apart (Under (kinds.Block body)) t e = refl
block_apart (Under (kinds.Method body)) t e = refl
block_apart (Under (kinds.Initialiser body)) t e = absurd (cc)
block_apart (Under (kinds.Clause body object holder class)) t e = refl
block_apart (Under (kinds.Kernel method state)) t e = refl

-- an instruction that waits, and isn't a superclass message under an initialiser, is a send
sends_left : (instr : Instr) (above : Above) → waits_under above instr ≡ true → (is_super_part instr && is_under_initialiser above) ≡ false → is_send instr ≡ true
sends_left instr above e f = ⊎_elim (λ s. s) (λ p. absurd (cc (p, f))) (or_cases (is_send instr) (is_super_part instr && is_under_initialiser above) e)

pub and_false : (a b : Bool) → b ≡ false → (a && b) ≡ false
and_false true b e = e
and_false false b e = refl

-- a body that waits stands behind the instruction that waits
waits_hold : (body : BodyCode) (above : Above) (number count : ℕ) (waits : Instr → Bool) → ((instr : Instr) → slice_get body.instrs number ≡ Some instr → waits_under above instr ≡ true → waits instr ≡ true)
    → option_map_or (λ (instr : Instr). waits_under above instr && count == height_of body number - takes instr) (slice_get body.instrs number) false ≡ true → WaitsBehind body (suc number) count waits
waits_hold body above number count waits tells e = found (slice_get body.instrs number) tells e
  where
    found : (o : Option Instr) → ((instr : Instr) → o ≡ Some instr → waits_under above instr ≡ true → waits instr ≡ true)
        → option_map_or (λ (instr : Instr). waits_under above instr && count == height_of body number - takes instr) o false ≡ true
        → IsSome o × ForSome o (λ (before : Instr). IsTrue (waits before) × (count ≡ height_of body number - takes before))
    found None tells e = absurd (cc)
    found (Some instr) tells e =
        let parts = and_parts (waits_under above instr) (count == height_of body number - takes instr) e in
        (refl, λ other o. subst (λ (i : Instr). IsTrue (waits i) × (count ≡ height_of body number - takes i)) (same_Some instr other o) (tells instr refl parts.0, eqb-true count (height_of body number - takes instr) parts.1))

module _ (code : CodeProgram) (number : ℕ) (body : BodyCode) (is : slice_get code.bodies number ≡ Some body) where
  -- whether an instruction is a superclass message
  super_is : (instr : ℕ) (one : Instr) → slice_get body.instrs instr ≡ Some one → is_super_at code number instr ≡ is_super_part one
  super_is instr one e =
      ap (λ o. option_map_or (λ (b : BodyCode). option_map_or is_super_part (slice_get b.instrs instr) false) o false) is ∙ ap (λ o. option_map_or is_super_part o false) e

  -- the number of the next instruction, whether the body waits or not
  pub next_free : (instr : ℕ) → instr ≤ length body.instrs → next_number code number (rest_thawed code false number instr) ≡ instr
  next_free instr w = number_back code number instr (omega (arith, w, steps_count code number body is))

  pub next_waiting : (instr : ℕ) → suc instr ≤ length body.instrs → next_number code number (rest_thawed code true number instr) ≡ suc instr
  next_waiting instr w = number_back code number (instr + 1) (omega (arith, w, steps_count code number body is)) ∙ omega arith

  behind_there : (instr count : ℕ) (waits : Instr → Bool) → WaitsBehind body (suc instr) count waits → WaitsBehind body (next_number code number (rest_thawed code true number instr)) count waits
  behind_there instr count waits w = subst (λ n. WaitsBehind body n count waits) (sym (next_waiting instr (there (slice_get body.instrs instr) refl w.0))) w
    where
      there : (o : Option Instr) → slice_get body.instrs instr ≡ o → IsSome o → suc instr ≤ length body.instrs
      there None e s = absurd (cc)
      there (Some one) e s = slice_get_within body.instrs instr one e

  -- A good frame of a body stands where what it awaits asks.
  pub stands_hold : (awaited : Awaited) (above : Above) (instr count : ℕ) → Given (is_super_at code number instr) awaited above → stands_at body above instr count ≡ true
      → Stands body awaited (next_number code number (rest_thawed code (is_waiting awaited) number instr)) count
  stands_hold Nothing above instr count g e =
      let parts = and_parts (nat_lt instr (length body.instrs)) (count == height_of body instr) (ap (λ a. stands_at body a instr count) (sym g) ∙ e) in
      let within = ltb-true instr (length body.instrs) parts.0 in
      subst (λ n. (n < length body.instrs) × (count ≡ height_of body n)) (sym (next_free instr (omega (arith, within)))) (within, eqb-true count (height_of body instr) parts.1)
  stands_hold SendValue above instr count g e =
      behind_there instr count is_send (waits_hold body above instr count is_send
      (λ one o w. sends_left one above w (ap (λ b. b && is_under_initialiser above) (sym (super_is instr one o)) ∙ g.1)) (taken_waits body above instr count g.0 e))
  stands_hold BlockValue above instr count g e =
      behind_there instr count is_send (waits_hold body above instr count is_send
      (λ one o w. sends_left one above w (and_false (is_super_part one) (is_under_initialiser above) (block_apart above g.0 g.1))) (taken_waits body above instr count g.0 e))
  stands_hold PartEnd above instr count g e =
      behind_there instr count is_super_part (waits_hold body above instr count is_super_part (λ one o w. sym (super_is instr one o) ∙ g.1) (taken_waits body above instr count g.0 e))
