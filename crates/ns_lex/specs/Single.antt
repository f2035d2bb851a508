-- Tokens of one spelling.
use Rattle.std.specs.Prelude.{◌==◌, ◌&&◌, if◌then◌else◌, slice_index}
use Rattle.ns_tree.specs.declared.token.Kind.TheVariants as k
use Rattle.ns_lex.specs.declared.piece.Piece.{Piece}
use Rattle.ns_lex.specs.declared.piece.Piece.TheVariants.{Token, Fault}
use Rattle.ns_lex.specs.declared.piece.Cause.TheVariants as cause
use Rattle.ns_lex.specs.Piece.{Text}

-- ( ) [ ] { } . ; ^ ::= and : by their first byte; any other byte begins no token
unfoldable pub single : Text → Piece
single z =
    let b = slice_index z 0 in
    if b == 40 then Token k.Open 1
    else (if b == 41 then Token k.Close 1
    else (if b == 91 then Token k.OpenBlock 1
    else (if b == 93 then Token k.CloseBlock 1
    else (if b == 123 then Token k.OpenTuple 1
    else (if b == 125 then Token k.CloseTuple 1
    else (if b == 46 then Token k.Stop 1
    else (if b == 59 then Token k.Semi 1
    else (if b == 94 then Token k.Caret 1
    else (if b == 58 then (if slice_index z 1 == 58 && slice_index z 2 == 61 then Token k.SlotSet 3 else Token k.Colon 1)
    else Fault cause.BadByte 0)))))))))
