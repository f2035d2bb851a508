-- The definitions at worked examples.
use Rattle.std.proofs.Common.{◌≡◌, [], ◌∷◌, ◌++◌, Ok, Err, refl, codes}
use Rattle.ns_tree.specs.declared.token.Kind.TheVariants as k
use Rattle.ns_tree.specs.declared.token.Reserved.TheVariants as w
use Rattle.ns_lex.specs.declared.fault.LexFault.TheVariants as fault
use Rattle.ns_lex.specs.Scan.{scan, scan_from}
use Rattle.ns_lex.specs.Next.{next_piece}
use Rattle.ns_lex.specs.Word.{word}
use Rattle.ns_lex.specs.Number.{number}
use Rattle.ns_lex.specs.Quoted.{quoted}
use Rattle.ns_lex.specs.Comment.{comment, remark}
use Rattle.ns_lex.specs.Operator.{operator, operator_len}
use Rattle.ns_lex.specs.Symbol.{symbol, selector_len}
use Rattle.ns_lex.specs.Single.{single}
use Rattle.ns_base.specs.Quoted.{doubled}
use Rattle.ns_lex.specs.Gap.{closes, byte, nested, inside}

-- An identifier stands before `::=`.
slot_set : scan (codes "a::=1") ≡ Ok (record { kind = k.Ident (codes "a"); start = 0; «end» = 1 } ∷ record { kind = k.SlotSet; start = 1; «end» = 4 } ∷ record { kind = k.Number 1; start = 4; «end» = 5 } ∷ [])
unfolding scan_from next_piece word number quoted comment remark operator operator_len symbol selector_len single
slot_set = refl

-- Colons belong to the name before them.
set_key : scan (codes "a::b:") ≡ Ok (record { kind = k.SetKey (codes "a"); start = 0; «end» = 3 } ∷ record { kind = k.Key (codes "b:"); start = 3; «end» = 5 } ∷ [])
unfolding scan_from next_piece word number quoted comment remark operator operator_len symbol selector_len single
set_key = refl

-- A reserved word with a colon is a key.
word_key : scan (codes "nil nil:") ≡ Ok (record { kind = k.Word w.Nil; start = 0; «end» = 3 } ∷ record { kind = k.Key (codes "nil:"); start = 4; «end» = 8 } ∷ [])
unfolding scan_from next_piece word number quoted comment remark operator operator_len symbol selector_len single
word_key = refl

-- `<:` is a token only where no longer run begins.
mixin : scan (codes "<:=<<:") ≡ Ok (record { kind = k.Oper (codes "<:"); start = 0; «end» = 2 } ∷ record { kind = k.Oper (codes "=<<"); start = 2; «end» = 5 } ∷ record { kind = k.Colon; start = 5; «end» = 6 } ∷ [])
unfolding scan_from next_piece word number quoted comment remark operator operator_len symbol selector_len single
mixin = refl

-- Two quotes stand for one.
quotes : scan (39 ∷ (codes "it" ++ 39 ∷ 39 ∷ codes "s" ++ 39 ∷ [])) ≡ Ok (record { kind = k.Str (codes "it" ++ 39 ∷ codes "s"); start = 0; «end» = 7 } ∷ [])
unfolding scan_from next_piece word number quoted comment remark operator operator_len symbol selector_len single
quotes = refl

-- A doubled quote ends no string.
open_string : scan (39 ∷ (codes "ab" ++ 39 ∷ 39 ∷ [])) ≡ Err (fault.UnclosedString 0)
unfolding scan_from next_piece word number quoted comment remark operator operator_len symbol selector_len single
open_string = refl

-- Comments nest, and no byte belongs to two marks.
nested_comment : scan (codes "(*(*)*)*)#at:put:") ≡ Ok (record { kind = k.Symbol (codes "at:put:"); start = 9; «end» = 17 } ∷ [])
unfolding scan_from next_piece word number quoted comment remark operator operator_len symbol selector_len single
nested_comment = refl

-- A mark that opens a comment doesn't close it.
open_comment : scan (codes "a (*)") ≡ Err (fault.UnclosedComment 2)
unfolding scan_from next_piece word number quoted comment remark operator operator_len symbol selector_len single
open_comment = refl

-- A digit run before a full stop and a digit is a fault.
fraction : scan (codes "1.5") ≡ Err (fault.BadByte 1)
unfolding scan_from next_piece word number quoted comment remark operator operator_len symbol selector_len single
fraction = refl

-- A number is at most the greatest.
great : scan (codes "9223372036854775809") ≡ Err (fault.BigNumber 0)
unfolding scan_from next_piece word number quoted comment remark operator operator_len symbol selector_len single
great = refl

-- `#` alone is a fault.
alone : scan (codes "a #") ≡ Err (fault.BadByte 2)
unfolding scan_from next_piece word number quoted comment remark operator operator_len symbol selector_len single
alone = refl

-- A text spells a string with its quotes doubled.
string_spelled : doubled (39 ∷ codes "s") ≡ 39 ∷ 39 ∷ codes "s"
string_spelled = refl

-- A comment may hold a bracket that is part of no mark.
comment_text : 40 ∷ 42 ∷ inside (nested (byte 41 closes) closes) ≡ codes "(*(*)*)*)"
comment_text = refl
