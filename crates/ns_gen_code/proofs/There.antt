-- What the lines of a right body use is there.
use Rattle.std.proofs.Common.{◌≡◌, ◌≤◌, ℕ, zero, suc, ◌+◌, List, [], ◌∷◌, length, ap, arith, length-append}
use Rattle.std.specs.Prelude.{Some, None, false, slice_get, take, flat_map}
use Rattle.std.proofs.lemmas.Option.{same_Some}
use Rattle.ns_resolved.specs.Program as m
use Rattle.ns_resolved.specs.Tables.{body_texts, texts_of, kind_of}
use Rattle.ns_resolved.specs.There.{IsThere, IsRightBody}
use Rattle.ns_gen_code.specs.Code.{body_lines}
use Rattle.ns_gen_code.specs.Stated.{first_text}
use Rattle.ns_gen_code.specs.Uses.{LinesHave}
use Rattle.ns_gen_code.proofs.Uses.{body_has}

-- the literal texts of a body end within those of all
texts_within : (bodies : List m.Body) (n : ℕ) (body : m.Body) → slice_get bodies n ≡ Some body →
    first_text bodies n + length (body_texts body) ≤ length (flat_map body_texts bodies)
texts_within [] n body h = absurd (let f : None ≡ Some body = h in cc)
texts_within (first ∷ bodies) zero body h =
    let same = ap (λ b. length (body_texts b)) (same_Some first body h) in
    omega (same, length-append (body_texts first) (flat_map body_texts bodies), arith)
texts_within (first ∷ bodies) (suc n) body h =
    omega (
      texts_within bodies n body h,
      length-append (body_texts first) (flat_map body_texts bodies),
      length-append (body_texts first) (flat_map body_texts (take n bodies)),
      arith,
    )

pub lines_there : (meant : m.Meant) (number : ℕ) (body : m.Body) → slice_get meant.bodies number ≡ Some body →
    IsRightBody meant number body →
    LinesHave (IsThere meant number body) (length (texts_of meant)) (kind_of body.does) false (body_lines (first_text meant.bodies number) body.does)
lines_there meant number body e right =
    body_has (IsThere meant number body) (length (texts_of meant)) body.does (first_text meant.bodies number) right.uses
    (texts_within meant.bodies number body e)
