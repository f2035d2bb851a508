-- Tokens of one spelling: signs, and words and names with a meaning of their own.
use Rattle.std.specs.Prelude.{ℕ, ◌+◌, List, [], ◌∷◌, Option, Bool, true, false, cond, codes}
use Rattle.std.specs.Str.{bytes_eq}
use Rattle.ns_tree.specs.declared.token.Kind.{Kind}
use Rattle.ns_tree.specs.declared.token.Kind.TheVariants as k
use Rattle.ns_tree.specs.declared.token.Reserved.{Reserved}
use Rattle.ns_tree.specs.declared.token.Reserved.TheVariants as r
use Rattle.ns_parse_tokens.specs.declared.mark.Mark.{Mark}
use Rattle.ns_parse_tokens.specs.declared.mark.Mark.TheVariants as m
use Rattle.ns_parse_tokens.specs.Read.{Reader, got, fault, read_flag, read_maybe}

-- the operator of that text
abbrev pub is_sign_of : Mark → List ℕ → Bool
is_sign_of m.Bar text = bytes_eq text (codes "|")
is_sign_of m.Equals text = bytes_eq text (codes "=")
is_sign_of m.Over text = bytes_eq text (codes "<:")
is_sign_of m.Minus text = bytes_eq text (codes "-")
is_sign_of _ text = false

abbrev is_class_word : Mark → Bool
is_class_word m.ClassWord = true
is_class_word _ = false

abbrev is_super_word : Mark → Bool
is_super_word m.SuperWord = true
is_super_word _ = false

abbrev is_outer_word : Mark → Bool
is_outer_word m.OuterWord = true
is_outer_word _ = false

-- the reserved word
abbrev pub is_word_of : Mark → Reserved → Bool
is_word_of mark r.Class = is_class_word mark
is_word_of mark r.Super = is_super_word mark
is_word_of mark r.Outer = is_outer_word mark
is_word_of mark _ = false

-- the identifier of that text
abbrev pub is_ident_of : Mark → List ℕ → Bool
is_ident_of m.Newspeak3 text = bytes_eq text (codes "Newspeak3")
is_ident_of _ text = false

abbrev is_open : Mark → Bool
is_open m.Open = true
is_open _ = false

abbrev is_close : Mark → Bool
is_close m.Close = true
is_close _ = false

abbrev is_open_block : Mark → Bool
is_open_block m.OpenBlock = true
is_open_block _ = false

abbrev is_close_block : Mark → Bool
is_close_block m.CloseBlock = true
is_close_block _ = false

abbrev is_open_tuple : Mark → Bool
is_open_tuple m.OpenTuple = true
is_open_tuple _ = false

abbrev is_close_tuple : Mark → Bool
is_close_tuple m.CloseTuple = true
is_close_tuple _ = false

abbrev is_stop : Mark → Bool
is_stop m.Stop = true
is_stop _ = false

abbrev is_semi : Mark → Bool
is_semi m.Semi = true
is_semi _ = false

abbrev is_caret : Mark → Bool
is_caret m.Caret = true
is_caret _ = false

abbrev is_colon : Mark → Bool
is_colon m.Colon = true
is_colon _ = false

abbrev is_slot_set : Mark → Bool
is_slot_set m.SlotSet = true
is_slot_set _ = false

-- The token is that mark.
abbrev pub is_mark : Mark → Kind → Bool
is_mark mark (k.Oper text) = is_sign_of mark text
is_mark mark (k.Word word) = is_word_of mark word
is_mark mark (k.Ident text) = is_ident_of mark text
is_mark mark k.Open = is_open mark
is_mark mark k.Close = is_close mark
is_mark mark k.OpenBlock = is_open_block mark
is_mark mark k.CloseBlock = is_close_block mark
is_mark mark k.OpenTuple = is_open_tuple mark
is_mark mark k.CloseTuple = is_close_tuple mark
is_mark mark k.Stop = is_stop mark
is_mark mark k.Semi = is_semi mark
is_mark mark k.Caret = is_caret mark
is_mark mark k.Colon = is_colon mark
is_mark mark k.SlotSet = is_slot_set mark
is_mark mark _ = false

-- the mark, of which nothing is kept
abbrev pub skip : Mark → Reader (Unit {0})
skip mark n [] = fault n
skip mark n (kind ∷ ts) = cond (is_mark mark kind) (got tt (n + 1) ts) (fault n)

-- the mark, of which the number is kept
abbrev pub place : Mark → Reader ℕ
place mark n [] = fault n
place mark n (kind ∷ ts) = cond (is_mark mark kind) (got n (n + 1) ts) (fault n)

-- whether the mark is there; it is read if it is
abbrev pub flag : Mark → Reader Bool
flag mark = read_flag (is_mark mark) (skip mark)

-- the number of the mark, if it is there
abbrev pub maybe_place : Mark → Reader (Option ℕ)
maybe_place mark = read_maybe (is_mark mark) (place mark)
