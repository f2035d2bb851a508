-- Which text is a gap between tokens.
use Rattle.std.specs.Prelude.{◌≡◌, ℕ, ◌==◌, ◌⊎◌, true, not, List, [], ◌∷◌, ◌++◌}
use Rattle.ns_lex.specs.Bytes.{is_blank}
use Rattle.ns_lex.specs.Piece.{Text}
use Rattle.ns_lex.specs.Spells.{AllOf}

-- what stands in a comment behind its opening mark: bytes and comments, up to its closing mark
pub data Inside : Type 0 where
  closes : Inside
  byte : ℕ → Inside → Inside
  nested : Inside → Inside → Inside

-- the text of what stands in a comment, with the closing mark
abbrev pub inside : Inside → Text
inside closes = 42 ∷ 41 ∷ []
inside (byte b i) = b ∷ inside i
inside (nested j i) = 40 ∷ 42 ∷ (inside j ++ inside i)

-- The text begins with an opening mark or a closing one.
abbrev pub BeginsMark : Text → Type 0
BeginsMark z = (q : Text) × ((z ≡ 40 ∷ 42 ∷ q) ⊎ (z ≡ 42 ∷ 41 ∷ q))

-- No mark begins at a byte that stands for itself: marks are read from left to right, and no byte belongs to two.
abbrev pub Marked : Inside → Type 0
Marked closes = Unit {0}
Marked (byte b i) = (BeginsMark (b ∷ inside i) → ⊥) × Marked i
Marked (nested j i) = Marked j × Marked i

-- The text is a nested comment.
abbrev pub IsComment : Text → Type 0
IsComment t = (i : Inside) × Marked i × (t ≡ 40 ∷ 42 ∷ inside i)

-- The text stands between two double quotes, with none in it.
abbrev pub IsRemark : Text → Type 0
IsRemark t = (s : Text) × AllOf (λ b. not (b == 34)) s × (t ≡ 34 ∷ (s ++ 34 ∷ []))

-- The text is a blank.
abbrev pub IsBlank : Text → Type 0
IsBlank t = (b : ℕ) × (is_blank b ≡ true) × (t ≡ b ∷ [])

-- The text is a blank, a nested comment or a remark.
abbrev pub IsGapPart : Text → Type 0
IsGapPart t = IsBlank t ⊎ IsComment t ⊎ IsRemark t

-- The text is a gap of these parts.
abbrev pub IsGapOf : Text → List Text → Type 0
IsGapOf t [] = t ≡ []
IsGapOf t (p ∷ ps) = IsGapPart p × ((u : Text) × (t ≡ p ++ u) × IsGapOf u ps)

-- The text is a run of blanks and comments.
abbrev pub IsGap : Text → Type 0
IsGap t = (ps : List Text) × IsGapOf t ps

-- No blank and no comment stands at the front.
abbrev pub BeginsNoGap : Text → Type 0
BeginsNoGap z = (p q : Text) → z ≡ p ++ q → IsGapPart p → ⊥
