-- Symbols.
use Rattle.std.specs.Prelude.{ℕ, ◌+◌, Bool, true, false, ◌==◌, if◌then◌else◌, [], ◌∷◌, take, drop, slice_index}
use Rattle.ns_base.specs.Spelling.{begins_name, goes_on_name, is_operator_byte}
use Rattle.ns_tree.specs.declared.token.Kind.TheVariants as k
use Rattle.ns_lex.specs.declared.piece.Piece.{Piece}
use Rattle.ns_lex.specs.declared.piece.Piece.TheVariants.{Token, Fault}
use Rattle.ns_lex.specs.declared.piece.Cause.TheVariants as cause
use Rattle.ns_lex.specs.Piece.{Text}
use Rattle.ns_lex.specs.Word.{name_len}
use Rattle.ns_lex.specs.Operator.{operator_len}

-- Where the keys at the front end, read on from a place among them: where the last whole key ended, and whether a name has
-- begun behind it.
abbrev pub keys_from : ℕ → Bool → ℕ → Text → ℕ
keys_from far inside at [] = far
keys_from far true at (b ∷ z) = if b == 58 then keys_from (at + 1) false (at + 1) z else (if goes_on_name b then keys_from far true (at + 1) z else far)
keys_from far false at (b ∷ z) = if begins_name b then keys_from far true (at + 1) z else far

-- how long the selector at the front is: keys, else a name; or an operator; 0 for none
unfoldable pub selector_len : Text → ℕ
selector_len z =
    if is_operator_byte (slice_index z 0) then operator_len z
    else (if begins_name (slice_index z 0) then (if keys_from 0 false 0 z == 0 then name_len z else keys_from 0 false 0 z) else 0)

-- the symbol of the first n bytes behind its `#`
abbrev pub symbol_of : ℕ → Text → Piece
symbol_of n z = if n == 0 then Fault cause.BadByte 0 else Token (k.Symbol (take n z)) (n + 1)

-- the symbol at the front
unfoldable pub symbol : Text → Piece
symbol z = symbol_of (selector_len (drop 1 z)) (drop 1 z)
