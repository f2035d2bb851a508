-- No instruction of generated code has the verifier's cause BadHeight.
use Rattle.std.proofs.Common.{◌≡◌, ◌≤◌, ◌<◌, ℕ, zero, suc, ◌+◌, List, [], ◌∷◌, length, refl, ap, ◌∙◌, arith}
use Rattle.std.specs.Prelude.{Bool, true, false, ◌||◌, Option, Some, None, unwrap_or, if◌then◌else◌, nat_lt, replicate}
use Rattle.std.specs.List.{slice_set}
use Rattle.std.specs.Option.{option_map_or}
use Rattle.ns_code.specs.declared.body.BodyCode.{BodyCode}
use Rattle.ns_code.specs.declared.instruction.Instr.{Instr}
use Rattle.ns_code.specs.Table.{takes, target, goes_on, height_after, ends_wrongly}
use Rattle.ns_verify.specs.Heights.{Pass, begin, next, known_at, height_at, give_target, with_own, falls_apart, jumps_apart, known_beside, differs}
use Rattle.ns_resolved.specs.Program as m
use Rattle.ns_gen_code.specs.Code.{height_before_next, body_code}
use Rattle.ns_gen_code.specs.Stated.{FindsOperands, Within, HaveGoodHeights}
use Rattle.ns_gen_code.proofs.Heights.{body_finds}
use Rattle.ns_gen_code.proofs.WithinGreatest.{within_greatest}

not_less : (a b : ℕ) → b ≤ a → nat_lt a b ≡ false
not_less a b h = grind (arith, h)

or_false : (a b : Bool) → a ≡ false → b ≡ false → (a || b) ≡ false
or_false a b e f = ap (λ x. x || b) e ∙ f

-- ---- heights that are known

none_known : (count k : ℕ) → known_at (replicate count None) k ≡ None
none_known zero k = refl
none_known (suc count) zero = refl
none_known (suc count) (suc k) = none_known count k

set_before : (known : List (Option ℕ)) (number k : ℕ) (value : Option ℕ) → number < k →
    known_at (slice_set known number value) k ≡ known_at known k
set_before [] number k value h = refl
set_before (one ∷ known) zero zero value h = absurd (omega (h, arith))
set_before (one ∷ known) zero (suc k) value h = refl
set_before (one ∷ known) (suc number) zero value h = absurd (omega (h, arith))
set_before (one ∷ known) (suc number) (suc k) value h = set_before known number k value (omega (h, arith))

-- without a target nothing is given to one
known_next : (pass : Pass) (number : ℕ) (instr : Instr) (at : Option ℕ) (height : ℕ) → at ≡ None →
    give_target (with_own pass number) at height ≡ slice_set pass.known number (Some (height_at pass number))
known_next pass number instr at height e = ap (λ a. give_target (with_own pass number) a height) e

-- the height with which the next one begins
falls_next : (goes : Bool) (height : ℕ) → unwrap_or (if goes then Some height else None) 0 ≡ (if goes then height else 0)
falls_next true height = refl
falls_next false height = refl

-- where none is known, none differs
none_falls : (known : Option ℕ) (falls : Option ℕ) → known ≡ None → option_map_or (differs known) falls false ≡ false
none_falls known None e = refl
none_falls known (Some height) e = ap (λ k. differs k height) e

none_jumps : (pass : Pass) (number : ℕ) (instr : Instr) (at : Option ℕ) → at ≡ None →
    option_map_or (λ a. differs (known_beside pass number a) (height_after instr (height_at pass number))) at false ≡ false
none_jumps pass number instr at e =
    ap (λ a. option_map_or (λ b. differs (known_beside pass number b) (height_after instr (height_at pass number))) a false) e

good : (body : BodyCode) (instrs : List Instr) (pass : Pass) (number height : ℕ) → ((k : ℕ) → number ≤ k → known_at pass.known k ≡ None) →
    unwrap_or pass.falls 0 ≡ height → FindsOperands height instrs → Within body.height height instrs → HaveGoodHeights body pass number instrs
good body [] pass number height none falls f w = tt
good body (instr ∷ instrs) pass number height none falls f w =
    let here : height_at pass number ≡ height = ap (λ known. unwrap_or known (unwrap_or pass.falls 0)) (none number (omega arith)) ∙ falls in
    let takes_false : nat_lt (height_at pass number) (takes instr) ≡ false = ap (λ h. nat_lt h (takes instr)) here ∙ not_less height (takes instr) f.0 in
    let above_false : nat_lt body.height (height_at pass number) ≡ false = ap (nat_lt body.height) here ∙ not_less body.height height w.0 in
    let ends_false : ends_wrongly instr (height_at pass number) ≡ false = ap (ends_wrongly instr) here ∙ f.1 in
    let falls_false : falls_apart pass number ≡ false = none_falls (known_at pass.known number) pass.falls (none number (omega arith)) in
    let jumps_false : jumps_apart pass number instr ≡ false = none_jumps pass number instr (target instr) f.2 in
    let next_falls : unwrap_or (next pass number instr).falls 0 ≡ height_before_next instr height =
    falls_next (goes_on instr) (height_after instr (height_at pass number)) ∙ ap (λ h. if goes_on instr then height_after instr h else 0) here in (
      or_false _ _ takes_false (or_false _ _ above_false (or_false _ _ ends_false (or_false _ _ falls_false jumps_false))),
      good body instrs (next pass number instr) (number + 1) (height_before_next instr height)
          (λ k le. ap (λ known. known_at known k) (known_next pass number instr (target instr) (height_after instr (height_at pass number)) f.2)
          ∙ set_before pass.known number k (Some (height_at pass number)) (omega (le, arith)) ∙ none k (omega (le, arith)))
          next_falls f.3 w.1,
    )

-- the code of a body, from its first instruction on
pub body_is_good : (names : List (List ℕ)) (k : ℕ) (body : m.Body) →
    HaveGoodHeights (body_code names k body) (begin (length (body_code names k body).instrs)) 0 (body_code names k body).instrs
body_is_good names k body =
    let code = body_code names k body in
    good code code.instrs (begin (length code.instrs)) 0 0 (λ j le. none_known (length code.instrs) j) refl (body_finds names body.does k)
    (within_greatest code.instrs 0)
