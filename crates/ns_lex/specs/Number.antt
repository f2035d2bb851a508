-- Numbers.
use Rattle.std.specs.Prelude.{ℕ, ◌+◌, ◌-◌, ◌*◌, ◌==◌, ◌&&◌, nat_lt, if◌then◌else◌, fold, take, slice_index, Option, Some, None}
use Rattle.std.specs.List.{prefix_len}
use Rattle.ns_base.specs.Spelling.{is_digit, begins_name}
use Rattle.ns_tree.specs.declared.token.Kind.TheVariants as k
use Rattle.ns_lex.specs.Bytes.{is_in}
use Rattle.ns_lex.specs.declared.bytes.ByteClass.TheVariants as class
use Rattle.ns_lex.specs.declared.piece.Piece.{Piece}
use Rattle.ns_lex.specs.declared.piece.Piece.TheVariants.{Token, Fault}
use Rattle.ns_lex.specs.declared.piece.Cause.TheVariants as cause
use Rattle.ns_lex.specs.Piece.{Text}

-- the greatest number that a source can hold
abbrev pub greatest : ℕ
greatest = 9223372036854775808

-- a number with one more digit behind it
abbrev pub with_digit : ℕ → ℕ → ℕ
with_digit n b = 10 * n + (b - 48)

-- the number that these digits write
abbrev pub value : Text → ℕ
value = fold with_digit 0

-- the number, if it is not above the greatest
abbrev pub at_most_greatest : ℕ → Option ℕ
at_most_greatest v = if nat_lt greatest v then None else Some v

-- the token of n digits, or that their number is above the greatest
abbrev pub sized : ℕ → Option ℕ → Piece
sized n None = Fault cause.BigNumber 0
sized n (Some v) = Token (k.Number v) n

-- A run of digits is a number, unless a letter, or a full stop and a digit, stand behind it: these are faults where they stand.
unfoldable pub number : Text → Piece
number z =
    let n = prefix_len (is_in class.Digit) z in
    if begins_name (slice_index z n) then Fault cause.BadByte n
    else (if slice_index z n == 46 && is_digit (slice_index z (n + 1)) then Fault cause.BadByte n
    else sized n (at_most_greatest (value (take n z))))
