-- The pieces of a source: its tokens and comments, byte for byte, each with what stands before it.
use Rattle.std.specs.Prelude.{ℕ, zero, suc, ◌-◌, ◌==◌, if◌then◌else◌, List, [], ◌∷◌, ◌++◌, take, slice_index}
use Rattle.ns_lex.specs.Bytes.{is_blank}
use Rattle.ns_lex.specs.Next.{next_piece}
use Rattle.ns_lex.specs.Piece.{Text}
use Rattle.ns_lex.specs.declared.piece.Piece as lex
use Rattle.ns_lex.specs.declared.piece.Piece.TheVariants as lexed
use Rattle.ns_format.specs.declared.piece.Gap.{Gap}
use Rattle.ns_format.specs.declared.piece.Gap.TheVariants as gap
use Rattle.ns_format.specs.declared.piece.Mark.{Mark}
use Rattle.ns_format.specs.declared.piece.Mark.TheVariants as mark
use Rattle.ns_format.specs.declared.piece.Piece.{Piece}

-- a gap, and a line feed behind it
abbrev pub fed : Gap → Gap
fed gap.First = gap.First
fed gap.Nothing = gap.Line
fed gap.Blanks = gap.Line
fed gap.Line = gap.Lines
fed gap.Lines = gap.Lines

-- a gap in which something stands
abbrev pub apart : Gap → Gap
apart gap.First = gap.First
apart gap.Nothing = gap.Blanks
apart gap.Blanks = gap.Blanks
apart gap.Line = gap.Line
apart gap.Lines = gap.Lines

-- a gap, and a blank byte behind it
abbrev pub with_blank : ℕ → Gap → Gap
with_blank b before = if b == 10 then fed before else apart before

abbrev pub piece_of : Gap → Mark → Text → Piece
piece_of before what text = record { gap = before; mark = what; text = text }

-- the comment that these bytes are, behind a gap; a blank is none
abbrev pub comment_in : Text → Gap → List Piece
comment_in part before = if is_blank (slice_index part 0) then [] else piece_of (apart before) mark.Comment part ∷ []

-- the gap behind these bytes, which are a blank behind a gap or a comment
abbrev pub behind_part : Text → Gap → Gap
behind_part part before = if is_blank (slice_index part 0) then with_blank (slice_index part 0) before else gap.Blanks

-- what stands first in a text behind a gap, where `rest n` is what comes n bytes further on; nothing is behind a fault
abbrev pub step : lex.Piece → Text → Gap → (ℕ → Gap → List Piece) → List Piece
step (lexed.Gap n) z before rest = comment_in (take n z) before ++ rest n (behind_part (take n z) before)
step (lexed.Token kind n) z before rest = piece_of before (mark.Token kind) (take n z) ∷ rest n gap.Nothing
step (lexed.Fault cause n) z before rest = []

-- the pieces of a text behind a gap, but for its first bytes, which an earlier piece takes
unfoldable pub pieces_from : ℕ → Gap → Text → List Piece
pieces_from skip before [] = []
pieces_from zero before (b ∷ z) = step (next_piece (b ∷ z)) (b ∷ z) before (λ n behind. pieces_from (n - 1) behind z)
pieces_from (suc skip) before (b ∷ z) = pieces_from skip before z

-- the pieces of a source
abbrev pub pieces : Text → List Piece
pieces = pieces_from 0 gap.First
