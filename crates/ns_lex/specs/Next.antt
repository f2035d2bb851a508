-- What stands first in a text.
use Rattle.std.specs.Prelude.{◌==◌, ◌&&◌, if◌then◌else◌, slice_index}
use Rattle.ns_base.specs.Spelling.{is_digit, begins_name, is_operator_byte}
use Rattle.ns_lex.specs.declared.piece.Piece.{Piece}
use Rattle.ns_lex.specs.declared.piece.Piece.TheVariants.{Gap}
use Rattle.ns_lex.specs.Piece.{Text}
use Rattle.ns_lex.specs.Bytes.{is_blank}
use Rattle.ns_lex.specs.Word.{word}
use Rattle.ns_lex.specs.Number.{number}
use Rattle.ns_lex.specs.Quoted.{quoted}
use Rattle.ns_lex.specs.Comment.{comment, remark}
use Rattle.ns_lex.specs.Operator.{operator}
use Rattle.ns_lex.specs.Symbol.{symbol}
use Rattle.ns_lex.specs.Single.{single}

-- the piece at the front of a text that is not empty
unfoldable pub next_piece : Text → Piece
next_piece z =
    let b = slice_index z 0 in
    if is_blank b then Gap 1
    else (if b == 34 then remark z
    else (if b == 40 && slice_index z 1 == 42 then comment z
    else (if begins_name b then word z
    else (if is_digit b then number z
    else (if b == 39 then quoted z
    else (if b == 35 then symbol z
    else (if is_operator_byte b then operator z
    else single z)))))))
