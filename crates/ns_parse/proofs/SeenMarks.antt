-- Which tokens the marks are, and which sets of what is seen operators and names are in.
use Rattle.std.proofs.Common.{◌≡◌, List, [], ◌∷◌, Bool, true, false, cond, refl, sym, ap, ◌∙◌}
use Rattle.std.specs.Prelude.{ℕ, codes, not}
use Rattle.std.specs.Str.{bytes_eq}
use Rattle.std.proofs.lemmas.Slice.Eq.{bytes_eq-Decides}
use Rattle.ns_tree.specs.declared.token.Kind.{Kind}
use Rattle.ns_tree.specs.declared.token.Kind.TheVariants as k
use Rattle.ns_tree.specs.declared.token.Reserved.{Reserved}
use Rattle.ns_tree.specs.declared.token.Reserved.TheVariants as r
use Rattle.ns_parse_tokens.specs.declared.mark.Mark.{Mark}
use Rattle.ns_parse_tokens.specs.declared.mark.Mark.TheVariants as m
use Rattle.ns_parse_tokens.specs.Mark.{is_mark, is_sign_of}
use Rattle.ns_parse.proofs.Seen as v
use Rattle.ns_parse.proofs.Seen.{Seen, Sees, shows, among, place, sign_seen}

-- ---- operators and names, by their texts

-- what is seen of each operator is in the set, or of none
same_sign : (cs : List Seen) (is : Bool) → among cs (place v.bar) ≡ is → among cs (place v.equals) ≡ is → among cs (place v.over) ≡ is → among cs (place v.minus) ≡ is → among cs (place v.oper) ≡ is
    → (b e o m : Bool) → is ≡ among cs (place (sign_seen b e o m))
same_sign cs is hb he ho hm h true e o m = sym hb
same_sign cs is hb he ho hm h false true o m = sym he
same_sign cs is hb he ho hm h false false true m = sym ho
same_sign cs is hb he ho hm h false false false true = sym hm
same_sign cs is hb he ho hm h false false false false = sym h

same_ident : (cs : List Seen) (is : Bool) → among cs (place v.marker) ≡ is → among cs (place v.name) ≡ is → (b : Bool) → is ≡ among cs (place (cond b v.marker v.name))
same_ident cs is hm hn true = sym hm
same_ident cs is hm hn false = sym hn

-- An operator that is one sign isn't another.
another : (text u w : List ℕ) → bytes_eq u w ≡ false → bytes_eq text u ≡ true → bytes_eq text w ≡ false
another text u w h e = ap (λ x. bytes_eq x w) ((bytes_eq-Decides text u).0 e) ∙ h

bar_seen : (b e o m : Bool) → b ≡ among (v.bar ∷ []) (place (sign_seen b e o m))
bar_seen true e o m = refl
bar_seen false true o m = refl
bar_seen false false true m = refl
bar_seen false false false true = refl
bar_seen false false false false = refl

equals_seen : (b e o m : Bool) → (b ≡ true → e ≡ false) → e ≡ among (v.equals ∷ []) (place (sign_seen b e o m))
equals_seen true e o m h = h refl
equals_seen false true o m h = refl
equals_seen false false true m h = refl
equals_seen false false false true h = refl
equals_seen false false false false h = refl

over_seen : (b e o m : Bool) → (b ≡ true → o ≡ false) → (e ≡ true → o ≡ false) → o ≡ among (v.over ∷ []) (place (sign_seen b e o m))
over_seen true e o m h i = h refl
over_seen false true o m h i = i refl
over_seen false false true m h i = refl
over_seen false false false true h i = refl
over_seen false false false false h i = refl

minus_seen : (b e o m : Bool) → (b ≡ true → m ≡ false) → (e ≡ true → m ≡ false) → (o ≡ true → m ≡ false) → m ≡ among (v.minus ∷ []) (place (sign_seen b e o m))
minus_seen true e o m h i j = h refl
minus_seen false true o m h i j = i refl
minus_seen false false true m h i j = j refl
minus_seen false false false true h i j = refl
minus_seen false false false false h i j = refl

pub but_bar_seen : (b e o m : Bool) → not b ≡ among (v.equals ∷ v.over ∷ v.minus ∷ v.oper ∷ []) (place (sign_seen b e o m))
but_bar_seen true e o m = refl
but_bar_seen false true o m = refl
but_bar_seen false false true m = refl
but_bar_seen false false false true = refl
but_bar_seen false false false false = refl

module _ (text : List ℕ) where
  abbrev pub is_bar : Bool
  is_bar = bytes_eq text (codes "|")

  abbrev pub is_equals : Bool
  is_equals = bytes_eq text (codes "=")

  abbrev pub is_over : Bool
  is_over = bytes_eq text (codes "<:")

  abbrev pub is_minus : Bool
  is_minus = bytes_eq text (codes "-")

  -- an operator is in all of a set or in none
  pub each_sign : (cs : List Seen) (is : Bool) → among cs (place v.bar) ≡ is → among cs (place v.equals) ≡ is → among cs (place v.over) ≡ is → among cs (place v.minus) ≡ is → among cs (place v.oper) ≡ is → is ≡ shows cs (k.Oper text)
  each_sign cs is hb he ho hm h = same_sign cs is hb he ho hm h is_bar is_equals is_over is_minus

  pub each_ident : (cs : List Seen) (is : Bool) → among cs (place v.marker) ≡ is → among cs (place v.name) ≡ is → is ≡ shows cs (k.Ident text)
  each_ident cs is hm hn = same_ident cs is hm hn (bytes_eq text (codes "Newspeak3"))

-- ---- marks

abbrev pub seen_mark : Mark → Seen
seen_mark m.Open = v.open_paren
seen_mark m.Close = v.close_paren
seen_mark m.OpenBlock = v.open_block
seen_mark m.CloseBlock = v.close_block
seen_mark m.OpenTuple = v.open_tuple
seen_mark m.CloseTuple = v.close_tuple
seen_mark m.Stop = v.stop
seen_mark m.Semi = v.semi
seen_mark m.Caret = v.caret
seen_mark m.Colon = v.colon
seen_mark m.SlotSet = v.slot_set
seen_mark m.Bar = v.bar
seen_mark m.Equals = v.equals
seen_mark m.Over = v.over
seen_mark m.Minus = v.minus
seen_mark m.ClassWord = v.class_word
seen_mark m.SuperWord = v.super_word
seen_mark m.OuterWord = v.outer_word
seen_mark m.Newspeak3 = v.marker

sees_sign : (mark : Mark) (text : List ℕ) → is_sign_of mark text ≡ shows (seen_mark mark ∷ []) (k.Oper text)
sees_sign m.Bar text = bar_seen (is_bar text) (is_equals text) (is_over text) (is_minus text)
sees_sign m.Equals text = equals_seen (is_bar text) (is_equals text) (is_over text) (is_minus text) (another text (codes "|") (codes "=") refl)
sees_sign m.Over text = over_seen (is_bar text) (is_equals text) (is_over text) (is_minus text) (another text (codes "|") (codes "<:") refl) (another text (codes "=") (codes "<:") refl)
sees_sign m.Minus text = minus_seen (is_bar text) (is_equals text) (is_over text) (is_minus text) (another text (codes "|") (codes "-") refl) (another text (codes "=") (codes "-") refl) (another text (codes "<:") (codes "-") refl)
sees_sign m.Open text = each_sign text (v.open_paren ∷ []) false refl refl refl refl refl
sees_sign m.Close text = each_sign text (v.close_paren ∷ []) false refl refl refl refl refl
sees_sign m.OpenBlock text = each_sign text (v.open_block ∷ []) false refl refl refl refl refl
sees_sign m.CloseBlock text = each_sign text (v.close_block ∷ []) false refl refl refl refl refl
sees_sign m.OpenTuple text = each_sign text (v.open_tuple ∷ []) false refl refl refl refl refl
sees_sign m.CloseTuple text = each_sign text (v.close_tuple ∷ []) false refl refl refl refl refl
sees_sign m.Stop text = each_sign text (v.stop ∷ []) false refl refl refl refl refl
sees_sign m.Semi text = each_sign text (v.semi ∷ []) false refl refl refl refl refl
sees_sign m.Caret text = each_sign text (v.caret ∷ []) false refl refl refl refl refl
sees_sign m.Colon text = each_sign text (v.colon ∷ []) false refl refl refl refl refl
sees_sign m.SlotSet text = each_sign text (v.slot_set ∷ []) false refl refl refl refl refl
sees_sign m.ClassWord text = each_sign text (v.class_word ∷ []) false refl refl refl refl refl
sees_sign m.SuperWord text = each_sign text (v.super_word ∷ []) false refl refl refl refl refl
sees_sign m.OuterWord text = each_sign text (v.outer_word ∷ []) false refl refl refl refl refl
sees_sign m.Newspeak3 text = each_sign text (v.marker ∷ []) false refl refl refl refl refl

marker_seen : (b : Bool) → b ≡ among (v.marker ∷ []) (place (cond b v.marker v.name))
marker_seen true = refl
marker_seen false = refl

sees_ident : (mark : Mark) (text : List ℕ) → is_mark mark (k.Ident text) ≡ shows (seen_mark mark ∷ []) (k.Ident text)
sees_ident m.Newspeak3 text = marker_seen (bytes_eq text (codes "Newspeak3"))
sees_ident m.Open text = each_ident text (v.open_paren ∷ []) false refl refl
sees_ident m.Close text = each_ident text (v.close_paren ∷ []) false refl refl
sees_ident m.OpenBlock text = each_ident text (v.open_block ∷ []) false refl refl
sees_ident m.CloseBlock text = each_ident text (v.close_block ∷ []) false refl refl
sees_ident m.OpenTuple text = each_ident text (v.open_tuple ∷ []) false refl refl
sees_ident m.CloseTuple text = each_ident text (v.close_tuple ∷ []) false refl refl
sees_ident m.Stop text = each_ident text (v.stop ∷ []) false refl refl
sees_ident m.Semi text = each_ident text (v.semi ∷ []) false refl refl
sees_ident m.Caret text = each_ident text (v.caret ∷ []) false refl refl
sees_ident m.Colon text = each_ident text (v.colon ∷ []) false refl refl
sees_ident m.SlotSet text = each_ident text (v.slot_set ∷ []) false refl refl
sees_ident m.Bar text = each_ident text (v.bar ∷ []) false refl refl
sees_ident m.Equals text = each_ident text (v.equals ∷ []) false refl refl
sees_ident m.Over text = each_ident text (v.over ∷ []) false refl refl
sees_ident m.Minus text = each_ident text (v.minus ∷ []) false refl refl
sees_ident m.ClassWord text = each_ident text (v.class_word ∷ []) false refl refl
sees_ident m.SuperWord text = each_ident text (v.super_word ∷ []) false refl refl
sees_ident m.OuterWord text = each_ident text (v.outer_word ∷ []) false refl refl

-- the mark is seen of that token, where its text doesn't matter
abbrev Marks : Kind → Type 0
Marks kind = (mark : Mark) → is_mark mark kind ≡ shows (seen_mark mark ∷ []) kind

sees_class : Marks (k.Word r.Class)
sees_class m.ClassWord = refl
sees_class _ = refl

sees_public : Marks (k.Word r.Public)
sees_public m.Open = refl
sees_public _ = refl

sees_protected : Marks (k.Word r.Protected)
sees_protected m.Open = refl
sees_protected _ = refl

sees_private : Marks (k.Word r.Private)
sees_private m.Open = refl
sees_private _ = refl

sees_selfword : Marks (k.Word r.SelfWord)
sees_selfword m.Open = refl
sees_selfword _ = refl

sees_super : Marks (k.Word r.Super)
sees_super m.SuperWord = refl
sees_super _ = refl

sees_outer : Marks (k.Word r.Outer)
sees_outer m.OuterWord = refl
sees_outer _ = refl

sees_true : Marks (k.Word r.True)
sees_true m.Open = refl
sees_true _ = refl

sees_false : Marks (k.Word r.False)
sees_false m.Open = refl
sees_false _ = refl

sees_nil : Marks (k.Word r.Nil)
sees_nil m.Open = refl
sees_nil _ = refl

sees_word : (mark : Mark) (word : Reserved) → is_mark mark (k.Word word) ≡ shows (seen_mark mark ∷ []) (k.Word word)
sees_word mark r.Class = sees_class mark
sees_word mark r.Public = sees_public mark
sees_word mark r.Protected = sees_protected mark
sees_word mark r.Private = sees_private mark
sees_word mark r.SelfWord = sees_selfword mark
sees_word mark r.Super = sees_super mark
sees_word mark r.Outer = sees_outer mark
sees_word mark r.True = sees_true mark
sees_word mark r.False = sees_false mark
sees_word mark r.Nil = sees_nil mark

sees_open : Marks k.Open
sees_open m.Open = refl
sees_open _ = refl

sees_close : Marks k.Close
sees_close m.Close = refl
sees_close _ = refl

sees_open_block : Marks k.OpenBlock
sees_open_block m.OpenBlock = refl
sees_open_block _ = refl

sees_close_block : Marks k.CloseBlock
sees_close_block m.CloseBlock = refl
sees_close_block _ = refl

sees_open_tuple : Marks k.OpenTuple
sees_open_tuple m.OpenTuple = refl
sees_open_tuple _ = refl

sees_close_tuple : Marks k.CloseTuple
sees_close_tuple m.CloseTuple = refl
sees_close_tuple _ = refl

sees_stop : Marks k.Stop
sees_stop m.Stop = refl
sees_stop _ = refl

sees_semi : Marks k.Semi
sees_semi m.Semi = refl
sees_semi _ = refl

sees_caret : Marks k.Caret
sees_caret m.Caret = refl
sees_caret _ = refl

sees_colon : Marks k.Colon
sees_colon m.Colon = refl
sees_colon _ = refl

sees_slot_set : Marks k.SlotSet
sees_slot_set m.SlotSet = refl
sees_slot_set _ = refl

sees_key : (text : List ℕ) → Marks (k.Key text)
sees_key text m.Open = refl
sees_key text _ = refl

sees_set_key : (text : List ℕ) → Marks (k.SetKey text)
sees_set_key text m.Open = refl
sees_set_key text _ = refl

sees_number : (size : ℕ) → Marks (k.Number size)
sees_number size m.Open = refl
sees_number size _ = refl

sees_str : (text : List ℕ) → Marks (k.Str text)
sees_str text m.Open = refl
sees_str text _ = refl

sees_symbol : (text : List ℕ) → Marks (k.Symbol text)
sees_symbol text m.Open = refl
sees_symbol text _ = refl

-- a mark is seen of its tokens and of no others
pub sees_mark : (mark : Mark) → Sees (is_mark mark) (seen_mark mark ∷ [])
sees_mark mark (k.Oper text) = sees_sign mark text
sees_mark mark (k.Word word) = sees_word mark word
sees_mark mark (k.Ident text) = sees_ident mark text
sees_mark mark (k.Key text) = sees_key text mark
sees_mark mark (k.SetKey text) = sees_set_key text mark
sees_mark mark (k.Number size) = sees_number size mark
sees_mark mark (k.Str text) = sees_str text mark
sees_mark mark (k.Symbol text) = sees_symbol text mark
sees_mark mark k.Open = sees_open mark
sees_mark mark k.Close = sees_close mark
sees_mark mark k.OpenBlock = sees_open_block mark
sees_mark mark k.CloseBlock = sees_close_block mark
sees_mark mark k.OpenTuple = sees_open_tuple mark
sees_mark mark k.CloseTuple = sees_close_tuple mark
sees_mark mark k.Stop = sees_stop mark
sees_mark mark k.Semi = sees_semi mark
sees_mark mark k.Caret = sees_caret mark
sees_mark mark k.Colon = sees_colon mark
sees_mark mark k.SlotSet = sees_slot_set mark
