-- Identifiers, reserved words and keys.
use Rattle.std.specs.Prelude.{ℕ, ◌+◌, Bool, ◌==◌, ◌&&◌, not, if◌then◌else◌, take, slice_index, Option, Some, None, codes}
use Rattle.std.specs.List.{prefix_len}
use Rattle.std.specs.Str.{bytes_eq}
use Rattle.ns_tree.specs.declared.token.Kind.{Kind}
use Rattle.ns_tree.specs.declared.token.Kind.TheVariants as k
use Rattle.ns_tree.specs.declared.token.Reserved.{Reserved}
use Rattle.ns_tree.specs.declared.token.Reserved.TheVariants as w
use Rattle.ns_lex.specs.Bytes.{is_in}
use Rattle.ns_lex.specs.declared.bytes.ByteClass.TheVariants as class
use Rattle.ns_lex.specs.declared.piece.Piece.{Piece}
use Rattle.ns_lex.specs.declared.piece.Piece.TheVariants.{Token}
use Rattle.ns_lex.specs.Piece.{Text}

-- the reserved word of that text
abbrev pub reserved : Text → Option Reserved
reserved t =
    if bytes_eq t (codes "class") then Some w.Class
    else (if bytes_eq t (codes "public") then Some w.Public
    else (if bytes_eq t (codes "protected") then Some w.Protected
    else (if bytes_eq t (codes "private") then Some w.Private
    else (if bytes_eq t (codes "self") then Some w.SelfWord
    else (if bytes_eq t (codes "super") then Some w.Super
    else (if bytes_eq t (codes "outer") then Some w.Outer
    else (if bytes_eq t (codes "true") then Some w.True
    else (if bytes_eq t (codes "false") then Some w.False
    else (if bytes_eq t (codes "nil") then Some w.Nil else None)))))))))

-- a name is the reserved word of its text, or an identifier
abbrev pub named : Text → Option Reserved → Kind
named t None = k.Ident t
named t (Some r) = k.Word r

-- how long the name at the front is
abbrev pub name_len : Text → ℕ
name_len = prefix_len (is_in class.Name)

-- The first n bytes are a name. Behind it stands a colon or not, then a second one or not, and then an equals sign or not.
abbrev pub word_by : Bool → Bool → Bool → ℕ → Text → Piece
word_by colon second equals n z =
    if colon && not (second && equals) then
    (if second then Token (k.SetKey (take n z)) (n + 2) else Token (k.Key (take (n + 1) z)) (n + 1))
    else Token (named (take n z) (reserved (take n z))) n

-- A name with a colon is a key, with two colons a set key; but the colons of `::=` don't belong to the name before it.
unfoldable pub word : Text → Piece
word z =
    let n = name_len z in
    word_by (slice_index z n == 58) (slice_index z (n + 1) == 58) (slice_index z (n + 2) == 61) n z
