-- Comments.
use Rattle.std.specs.Prelude.{ℕ, ◌+◌, ◌-◌, ◌==◌, not, if◌then◌else◌, [], ◌∷◌, drop, slice_index, Option, Some, None}
use Rattle.std.specs.List.{prefix_len}
use Rattle.ns_lex.specs.declared.piece.Piece.{Piece}
use Rattle.ns_lex.specs.declared.piece.Piece.TheVariants.{Gap, Fault}
use Rattle.ns_lex.specs.declared.piece.Cause.TheVariants as cause
use Rattle.ns_lex.specs.declared.comment.Last.{Last}
use Rattle.ns_lex.specs.declared.comment.Last.TheVariants as last
use Rattle.ns_lex.specs.Piece.{Text}

-- what a byte may begin
abbrev pub after : ℕ → Last
after b = if b == 40 then last.Paren else (if b == 42 then last.Star else last.Plain)

-- Where a comment ends, read on from a place in it: how many comments within it are open there, and what the byte before may
-- begin. Marks are read from left to right, and no byte belongs to two of them.
abbrev pub comment_from : ℕ → Last → ℕ → Text → Option ℕ
comment_from depth l at [] = None
comment_from depth last.Paren at (b ∷ z) = if b == 42 then comment_from (depth + 1) last.Plain (at + 1) z else comment_from depth (after b) (at + 1) z
comment_from depth last.Star at (b ∷ z) =
    if b == 41 then (if depth == 0 then Some (at + 1) else comment_from (depth - 1) last.Plain (at + 1) z)
    else comment_from depth (after b) (at + 1) z
comment_from depth last.Plain at (b ∷ z) = comment_from depth (after b) (at + 1) z

-- a part of a gap, or that the comment has no end
abbrev pub closed : Option ℕ → Piece
closed None = Fault cause.UnclosedComment 0
closed (Some n) = Gap n

-- the nested comment at the front, read behind its first mark
unfoldable pub comment : Text → Piece
comment z = closed (comment_from 0 last.Plain 2 (drop 2 z))

-- how many bytes come before the next double quote
abbrev pub remark_len : Text → ℕ
remark_len = prefix_len (λ b. not (b == 34))

-- the text between two double quotes at the front
unfoldable pub remark : Text → Piece
remark z =
    let n = remark_len (drop 1 z) in
    if slice_index z (n + 1) == 34 then Gap (n + 2) else Fault cause.UnclosedComment 0
