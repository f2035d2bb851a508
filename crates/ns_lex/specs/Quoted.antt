-- Strings.
use Rattle.std.specs.Prelude.{ℕ, ◌+◌, Bool, true, false, ◌==◌, if◌then◌else◌, [], ◌∷◌, ◌++◌, drop, Option, Some, None}
use Rattle.ns_tree.specs.declared.token.Kind.TheVariants as k
use Rattle.ns_lex.specs.declared.piece.Piece.{Piece}
use Rattle.ns_lex.specs.declared.piece.Piece.TheVariants.{Token, Fault}
use Rattle.ns_lex.specs.declared.piece.Cause.TheVariants as cause
use Rattle.ns_lex.specs.Piece.{Text}

-- What a string holds and where it ends, read on from a place in it: whether an unpaired quote stands just before, and what
-- the string holds so far. A quote ends the string where no quote follows it; two of them stand for one.
abbrev pub quoted_from : Bool → Text → ℕ → Text → Option (Text × ℕ)
quoted_from false held at [] = None
quoted_from true held at [] = Some (held, at)
quoted_from true held at (b ∷ z) = if b == 39 then quoted_from false (held ++ b ∷ []) (at + 1) z else Some (held, at)
quoted_from false held at (b ∷ z) = if b == 39 then quoted_from true held (at + 1) z else quoted_from false (held ++ b ∷ []) (at + 1) z

-- the token of a string, or that it has no end
abbrev pub closed : Option (Text × ℕ) → Piece
closed None = Fault cause.UnclosedString 0
closed (Some p) = Token (k.Str p.0) p.1

-- the string at the front, read behind its first quote
unfoldable pub quoted : Text → Piece
quoted z = closed (quoted_from false [] 1 (drop 1 z))
