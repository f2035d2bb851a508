-- Lines that are put behind others, of which no more are kept than tell that a body has too many.
use Rattle.std.proofs.Common.{◌≡◌, ◌<◌, ◌≤◌, ℕ, zero, suc, ◌+◌, ◌-◌, List, [], ◌∷◌, ◌++◌, length, take, refl, ap, ◌∙◌, append-nil, append_assoc, length-append, take_all, arith}
use Rattle.std.proofs.Math.Seq.{take-nil}
use Rattle.std.proofs.lemmas.List.{length-take-le}
use Rattle.ns_gen_code.specs.Code.{CodeLine}
use Rattle.ns_gen_code.specs.Sizes.{most}
use Rattle.ns_gen_draft.specs.Drafts.{filled}

-- No lines behind others change nothing.
pub filled_none : (lines : List CodeLine) → filled lines [] ≡ lines
unfolding filled
filled_none lines = ap (lines ++◌) (take-nil (most + 1 - length lines)) ∙ append-nil lines

-- a front of lines, and then of further ones what room is left for
taken_more : (room : ℕ) (lines more : List CodeLine) → take room lines ++ take (room - length (take room lines)) more ≡ take room (lines ++ more)
taken_more zero lines more = refl
taken_more (suc room) [] more =
    let whole : suc room - 0 ≡ suc room = omega arith in
    ap (λ n. take n more) whole
taken_more (suc room) (line ∷ lines) more =
    let left : suc room - length (line ∷ take room lines) ≡ room - length (take room lines) = omega arith in
    ap (λ n. line ∷ (take room lines ++ take n more)) left ∙ ap (line ∷◌) (taken_more room lines more)

-- Lines behind lines that are put behind others are all of them in one.
pub filled_more : (lines one other : List CodeLine) → filled (filled lines one) other ≡ filled lines (one ++ other)
unfolding filled
filled_more lines one other =
    let room = most + 1 - length lines in
    let left : most + 1 - length (lines ++ take room one) ≡ room - length (take room one) = omega (length-append lines (take room one), arith) in
    ap (λ n. (lines ++ take room one) ++ take n other) left
    ∙ append_assoc lines (take room one) (take (room - length (take room one)) other)
    ∙ ap (lines ++◌) (taken_more room one other)

-- ---- a line, where there are few before it, and where there are too many

pub filled_one : (lines : List CodeLine) (line : CodeLine) → length lines ≤ most → filled lines (line ∷ []) ≡ lines ++ line ∷ []
unfolding filled
filled_one lines line few = ap (lines ++◌) (take_all (most + 1 - length lines) (line ∷ []) (omega (few, arith)))

pub filled_full : (lines more : List CodeLine) → most < length lines → filled lines more ≡ lines
unfolding filled
filled_full lines more many =
    let none : most + 1 - length lines ≡ 0 = omega (many, arith) in
    ap (λ n. lines ++ take n more) none ∙ append-nil lines

-- ---- the lines of a body

-- Where they aren't too many, all are kept.
pub filled_few : (lines : List CodeLine) → length lines ≤ most → filled [] lines ≡ lines
unfolding filled
filled_few lines few = take_all (most + 1 - 0) lines (omega (few, arith))

-- Where they are too many, so are those that are kept.
pub filled_many : (lines : List CodeLine) → most < length lines → most < length (filled [] lines)
unfolding filled
filled_many lines many = omega (length-take-le (most + 1 - 0) lines (omega (many, arith)), arith)
