-- Marks are spelled by their tokens.
use Rattle.std.proofs.Common.{◌≡◌, ℕ, ◌+◌, List, [], ◌∷◌, Bool, true, false, cond, refl, sym, ap, ◌∙◌}
use Rattle.std.specs.Prelude.{codes}
use Rattle.std.proofs.lemmas.Slice.Eq.{bytes_eq-Decides}
use Rattle.ns_tree.specs.declared.token.Kind.{Kind}
use Rattle.ns_tree.specs.declared.token.Kind.TheVariants as k
use Rattle.ns_tree.specs.declared.token.Reserved.{Reserved}
use Rattle.ns_tree.specs.declared.token.Reserved.TheVariants as words
use Rattle.ns_tree.specs.Grammar as g
use Rattle.ns_tree.specs.Rule.{Rule, token, maybe, flag}
use Rattle.ns_parse_tokens.specs.declared.mark.Mark.{Mark}
use Rattle.ns_parse_tokens.specs.declared.mark.Mark.TheVariants as m
use Rattle.ns_parse_tokens.specs.Read.{got, fault}
use Rattle.ns_parse_tokens.specs.Mark as marks
use Rattle.ns_parse_tokens.specs.laws.Sound.{Spelled, Sound, single, sound_none, sound_mapped, sound_or, sound_maybe}

-- ---- marks

-- the token that is a mark
abbrev pub kind_of : Mark → Kind
kind_of m.Open = k.Open
kind_of m.Close = k.Close
kind_of m.OpenBlock = k.OpenBlock
kind_of m.CloseBlock = k.CloseBlock
kind_of m.OpenTuple = k.OpenTuple
kind_of m.CloseTuple = k.CloseTuple
kind_of m.Stop = k.Stop
kind_of m.Semi = k.Semi
kind_of m.Caret = k.Caret
kind_of m.Colon = k.Colon
kind_of m.SlotSet = k.SlotSet
kind_of m.Bar = k.Oper (codes "|")
kind_of m.Equals = k.Oper (codes "=")
kind_of m.Over = k.Oper (codes "<:")
kind_of m.Minus = k.Oper (codes "-")
kind_of m.ClassWord = k.Word words.Class
kind_of m.SuperWord = k.Word words.Super
kind_of m.OuterWord = k.Word words.Outer
kind_of m.Newspeak3 = k.Ident (codes "Newspeak3")

sign_is : (mark : Mark) (text : List ℕ) → marks.is_sign_of mark text ≡ true → k.Oper text ≡ kind_of mark
sign_is m.Bar text h = ap k.Oper ((bytes_eq-Decides text (codes "|")).0 h)
sign_is m.Equals text h = ap k.Oper ((bytes_eq-Decides text (codes "=")).0 h)
sign_is m.Over text h = ap k.Oper ((bytes_eq-Decides text (codes "<:")).0 h)
sign_is m.Minus text h = ap k.Oper ((bytes_eq-Decides text (codes "-")).0 h)
sign_is _ text h = absurd cc

ident_is : (mark : Mark) (text : List ℕ) → marks.is_ident_of mark text ≡ true → k.Ident text ≡ kind_of mark
ident_is m.Newspeak3 text h = ap k.Ident ((bytes_eq-Decides text (codes "Newspeak3")).0 h)
ident_is _ text h = absurd cc

-- the mark of a token that is one of its own spelling
abbrev is_that : Kind → Mark → Type 0
is_that kind mark = marks.is_mark mark kind ≡ true → kind ≡ kind_of mark

class_is : (mark : Mark) → is_that (k.Word words.Class) mark
class_is m.ClassWord h = refl
class_is _ h = absurd cc

super_is : (mark : Mark) → is_that (k.Word words.Super) mark
super_is m.SuperWord h = refl
super_is _ h = absurd cc

outer_is : (mark : Mark) → is_that (k.Word words.Outer) mark
outer_is m.OuterWord h = refl
outer_is _ h = absurd cc

word_is : (mark : Mark) (word : Reserved) → is_that (k.Word word) mark
word_is mark words.Class h = class_is mark h
word_is mark words.Super h = super_is mark h
word_is mark words.Outer h = outer_is mark h
word_is mark _ h = absurd cc

open_is : (mark : Mark) → is_that k.Open mark
open_is m.Open h = refl
open_is _ h = absurd cc

close_is : (mark : Mark) → is_that k.Close mark
close_is m.Close h = refl
close_is _ h = absurd cc

open_block_is : (mark : Mark) → is_that k.OpenBlock mark
open_block_is m.OpenBlock h = refl
open_block_is _ h = absurd cc

close_block_is : (mark : Mark) → is_that k.CloseBlock mark
close_block_is m.CloseBlock h = refl
close_block_is _ h = absurd cc

open_tuple_is : (mark : Mark) → is_that k.OpenTuple mark
open_tuple_is m.OpenTuple h = refl
open_tuple_is _ h = absurd cc

close_tuple_is : (mark : Mark) → is_that k.CloseTuple mark
close_tuple_is m.CloseTuple h = refl
close_tuple_is _ h = absurd cc

stop_is : (mark : Mark) → is_that k.Stop mark
stop_is m.Stop h = refl
stop_is _ h = absurd cc

semi_is : (mark : Mark) → is_that k.Semi mark
semi_is m.Semi h = refl
semi_is _ h = absurd cc

caret_is : (mark : Mark) → is_that k.Caret mark
caret_is m.Caret h = refl
caret_is _ h = absurd cc

colon_is : (mark : Mark) → is_that k.Colon mark
colon_is m.Colon h = refl
colon_is _ h = absurd cc

slot_set_is : (mark : Mark) → is_that k.SlotSet mark
slot_set_is m.SlotSet h = refl
slot_set_is _ h = absurd cc

pub mark_is : (mark : Mark) (kind : Kind) → is_that kind mark
mark_is mark (k.Oper text) h = sign_is mark text h
mark_is mark (k.Word word) h = word_is mark word h
mark_is mark (k.Ident text) h = ident_is mark text h
mark_is mark k.Open h = open_is mark h
mark_is mark k.Close h = close_is mark h
mark_is mark k.OpenBlock h = open_block_is mark h
mark_is mark k.CloseBlock h = close_block_is mark h
mark_is mark k.OpenTuple h = open_tuple_is mark h
mark_is mark k.CloseTuple h = close_tuple_is mark h
mark_is mark k.Stop h = stop_is mark h
mark_is mark k.Semi h = semi_is mark h
mark_is mark k.Caret h = caret_is mark h
mark_is mark k.Colon h = colon_is mark h
mark_is mark k.SlotSet h = slot_set_is mark h
mark_is mark _ h = absurd cc

-- a value of one token, which is a mark
module _ {A : Type 0} (r : Rule A) (mark : Mark) (n : ℕ) (a : A) (good : r.Good n a) (flat : r.flat a ≡ kind_of mark ∷ []) where
  marked : (kind : Kind) (ts : List Kind) (test : Bool) → (test ≡ true → kind ≡ kind_of mark) → Spelled r n (kind ∷ ts) (cond test (got a (n + 1) ts) (fault n))
  marked kind ts true e = single r n kind ts a good (flat ∙ ap (λ j. j ∷ []) (sym (e refl)))
  marked kind ts false e = tt

skip_spelled : (mark : Mark) (n : ℕ) (ts : List Kind) → Spelled (token (kind_of mark)) n ts (marks.skip mark n ts)
skip_spelled mark n [] = tt
skip_spelled mark n (kind ∷ ts) = marked (token (kind_of mark)) mark n tt tt refl kind ts (marks.is_mark mark kind) (mark_is mark kind)

pub sound_skip : (mark : Mark) → Sound (marks.skip mark) (token (kind_of mark))
sound_skip mark = record { reads = λ n ts h. skip_spelled mark n ts }

module _ (r : Rule ℕ) (mark : Mark) (good : (n : ℕ) → r.Good n n) (flat : (n : ℕ) → r.flat n ≡ kind_of mark ∷ []) where
  place_spelled : (n : ℕ) (ts : List Kind) → Spelled r n ts (marks.place mark n ts)
  place_spelled n [] = tt
  place_spelled n (kind ∷ ts) = marked r mark n n (good n) (flat n) kind ts (marks.is_mark mark kind) (mark_is mark kind)

  pub sound_place : Sound (marks.place mark) r
  sound_place = record { reads = λ n ts h. place_spelled n ts }

pub sound_semi : Sound (marks.place m.Semi) g.semi
sound_semi = sound_place g.semi m.Semi (λ n. refl) (λ n. refl)

pub sound_caret : Sound (marks.maybe_place m.Caret) (maybe g.caret)
sound_caret = sound_maybe (marks.is_mark m.Caret) (sound_place g.caret m.Caret (λ n. refl) (λ n. refl))

pub sound_flag : (mark : Mark) → Sound (marks.flag mark) (flag (kind_of mark))
sound_flag mark = sound_or (marks.is_mark mark) (sound_mapped (λ _. true) (flag (kind_of mark)) (sound_skip mark) (λ n a good. (good, refl)))
    (sound_none (flag (kind_of mark)) false (λ n. tt) refl)
