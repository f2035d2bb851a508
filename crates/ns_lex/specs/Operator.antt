-- Operators.
use Rattle.std.specs.Prelude.{ℕ, ◌==◌, ◌&&◌, if◌then◌else◌, take, slice_index}
use Rattle.std.specs.List.{prefix_len}
use Rattle.ns_tree.specs.declared.token.Kind.TheVariants as k
use Rattle.ns_lex.specs.Bytes.{is_in}
use Rattle.ns_lex.specs.declared.bytes.ByteClass.TheVariants as class
use Rattle.ns_lex.specs.declared.piece.Piece.{Piece}
use Rattle.ns_lex.specs.declared.piece.Piece.TheVariants.{Token}
use Rattle.ns_lex.specs.Piece.{Text}

-- how long the operator at the front is: the two of `<:`, else the run of its characters
unfoldable pub operator_len : Text → ℕ
operator_len z =
    if slice_index z 0 == 60 && slice_index z 1 == 58 then 2 else prefix_len (is_in class.Operator) z

-- the operator at the front
unfoldable pub operator : Text → Piece
operator z = Token (k.Oper (take (operator_len z) z)) (operator_len z)
