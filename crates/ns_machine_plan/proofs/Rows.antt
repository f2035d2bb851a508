-- The row of each body stands at its number.
use Rattle.std.proofs.Common.{◌≡◌, ℕ, zero, suc, ◌+◌, ◌≤◌, ◌<◌, List, [], ◌∷◌, length, get_or, refl, sym, ap, subst, ◌∙◌, arith, Some}
use Rattle.std.specs.Prelude.{slice_get}
use Rattle.std.specs.Option.{option_map_or}
use Rattle.std.proofs.lemmas.Option.{none-some, same_Some}
use Rattle.ns_code.specs.declared.program.CodeProgram.{CodeProgram}
use Rattle.ns_code.specs.declared.body.BodyCode.{BodyCode}
use Rattle.ns_machine_plan.specs.declared.row.Row.{Row}
use Rattle.ns_machine_plan.specs.Rows.{row_of, all_rows, IsRowOf}
use Rattle.ns_moves.specs.Bodies.{greatest_of}

-- the body of a number that is there
pub record HasBody (bodies : List BodyCode) (number : ℕ) : Type 0 where
  pub body : BodyCode
  pub is : slice_get bodies number ≡ Some body

pub body_there : (bodies : List BodyCode) (number : ℕ) → number < length bodies → HasBody bodies number
body_there [] number lt = absurd (omega (arith, lt))
body_there (body ∷ bodies) zero lt = record { body = body; is = refl }
body_there (body ∷ bodies) (suc number) lt = let there : HasBody bodies number = body_there bodies number (omega (arith, lt)) in record { body = there.body; is = there.is }

pub rows_length : (number : ℕ) (bodies : List BodyCode) → length (all_rows number bodies) ≡ length bodies
rows_length number [] = refl
rows_length number (body ∷ bodies) = let rest : length (all_rows (number + 1) bodies) ≡ length bodies = rows_length (number + 1) bodies in omega (arith, rest)

row_there : (number : ℕ) (bodies : List BodyCode) (k : ℕ) (body : BodyCode) (n : ℕ) (d : Row) → slice_get bodies k ≡ Some body → n ≡ number + k →
    get_or (all_rows number bodies) k d ≡ row_of n body
row_there number [] k body n d is at = absurd (none-some body is)
row_there number (first ∷ bodies) zero body n d is at =
    let same : first ≡ body = same_Some first body is in
    let m : n ≡ number = omega (arith, at) in
    cc (same, m)
row_there number (first ∷ bodies) (suc k) body n d is at = row_there (number + 1) bodies k body n d is (omega (arith, at))

told : (code : CodeProgram) (number : ℕ) (body : BodyCode) → slice_get code.bodies number ≡ Some body →
    IsRowOf code number (row_of number body)
told code number body is = record {
  class = cc (is);
  params = cc (is);
  locals = cc (is);
  environment = cc (is);
  beside = cc (is);
  height = cc (is);
  side = cc (is);
  kind = cc (is);
  parent = cc (is);
  around = cc (is);
}

pub row_told : (code : CodeProgram) (rows : List Row) (number : ℕ) (d : Row) → rows ≡ all_rows 0 code.bodies →
    number < length code.bodies → IsRowOf code number (get_or rows number d)
row_told code rows number d are lt =
    let there : HasBody code.bodies number = body_there code.bodies number lt in
    let row : get_or rows number d ≡ row_of number there.body =
    ap (λ rs. get_or rs number d) are ∙ row_there 0 code.bodies number there.body number d there.is (omega arith) in
    subst (λ r. IsRowOf code number r) (sym row) (told code number there.body there.is)

-- no body has a greater frame than the greatest
pub within_greatest : (bodies : List BodyCode) (number : ℕ) →
    option_map_or (λ (b : BodyCode). b.locals) (slice_get bodies number) 0 + option_map_or (λ (b : BodyCode). b.height) (slice_get bodies number) 0 ≤ greatest_of bodies
within_greatest [] number = omega arith
within_greatest (body ∷ bodies) zero = omega arith
within_greatest (body ∷ bodies) (suc number) = let rest : option_map_or (λ (b : BodyCode). b.locals) (slice_get bodies number) 0 + option_map_or (λ (b : BodyCode). b.height) (slice_get bodies number) 0 ≤ greatest_of bodies = within_greatest bodies number in omega (arith, rest)
