-- A source whose lines are laid out.
use Rattle.std.specs.Prelude.{ℕ, Bool, false, List, [], ◌∷◌, ◌++◌, replicate}
use Rattle.ns_lex.specs.Piece.{Text}
use Rattle.ns_format.specs.declared.piece.Gap.{Gap}
use Rattle.ns_format.specs.declared.piece.Gap.TheVariants as gap
use Rattle.ns_format.specs.declared.piece.Piece.{Piece}
use Rattle.ns_format.specs.Pieces.{pieces}
use Rattle.ns_format.specs.Leads.{role_in, lead_behind, closed_at, open_behind, side_behind}

-- what is written for a gap, where its line would have that lead
abbrev pub spaced : Gap → ℕ → Text
spaced gap.First lead = []
spaced gap.Nothing lead = []
spaced gap.Blanks lead = 32 ∷ []
spaced gap.Line lead = 10 ∷ replicate lead 32
spaced gap.Lines lead = 10 ∷ 10 ∷ replicate lead 32

-- what is written for pieces, by what is open before them, and whether a `(` there is a side of a class
abbrev pub laid_from : List ℕ → Bool → List Piece → Text
laid_from leads side [] = 10 ∷ []
laid_from leads side (p ∷ ps) =
    spaced p.gap (lead_behind (closed_at (role_in p.mark) ps) leads)
    ++ (p.text ++ laid_from (open_behind (role_in p.mark) side leads) (side_behind (role_in p.mark) side) ps)

-- what is written for pieces
abbrev pub laid : List Piece → Text
laid = laid_from (0 ∷ []) false

-- the source with its lines laid out
abbrev pub formatted : Text → Text
formatted source = laid (pieces source)
