-- A text spells at most one token: from its first byte on it says which.
use Rattle.std.proofs.Common.{◌≡◌, ℕ, ◌<◌, ◌==◌, inl, inr, [], ◌∷◌, ◌++◌, length, Bool, true, false, cond, ◌||◌, if◌then◌else◌, refl, sym, ap, subst, ◌∙◌, arith}
use Rattle.std.proofs.lemmas.Bool.{eqb-true}
use Rattle.std.proofs.lemmas.Bool.Decides.{nat_tests}
use Rattle.ns_lex.specs.Number.{value}
use Rattle.ns_lex.specs.Piece.{Text}
use Rattle.ns_lex.specs.Spells.{AllOf, IsIdentifierText, IsOperator, SpellsToken}
use Rattle.ns_base.specs.Quoted.{doubled}
use Rattle.ns_base.specs.Spelling.{is_digit, begins_name, goes_on_name, is_operator_byte}
use Rattle.ns_lex.specs.Word.{reserved, named}
use Rattle.ns_tree.specs.declared.token.Kind.{Kind}
use Rattle.ns_tree.specs.declared.token.Kind.TheVariants as k

-- ---- the token that a text can only spell

-- the name at the front, and what stands behind it
abbrev name_part : Text → Text
name_part [] = []
name_part (b ∷ t) = if goes_on_name b then b ∷ name_part t else []

abbrev behind_name : Text → Text
behind_name [] = []
behind_name (b ∷ t) = if goes_on_name b then behind_name t else b ∷ t

abbrev word_by : Text → Text → Kind
word_by [] w = named w (reserved w)
word_by (b ∷ []) w = k.Key w
word_by (b ∷ c ∷ t) w = k.SetKey (name_part w)

-- what stands in quotes, where a quote stood before or not
abbrev undoubled : Bool → Text → Text
undoubled quote [] = []
undoubled false (b ∷ t) = if b == 39 then undoubled true t else b ∷ undoubled false t
undoubled true (b ∷ t) = 39 ∷ undoubled false t

abbrev colons : Text → Kind
colons [] = k.Colon
colons (b ∷ t) = k.SlotSet

abbrev single : ℕ → Text → Kind
single b t =
    if b == 39 then k.Str (undoubled false t)
    else (if b == 35 then k.Symbol t
    else (if b == 40 then k.Open
    else (if b == 41 then k.Close
    else (if b == 91 then k.OpenBlock
    else (if b == 93 then k.CloseBlock
    else (if b == 123 then k.OpenTuple
    else (if b == 125 then k.CloseTuple
    else (if b == 46 then k.Stop
    else (if b == 59 then k.Semi
    else (if b == 94 then k.Caret else colons t))))))))))

abbrev kind_by : Bool → Bool → Bool → ℕ → Text → Kind
kind_by true oper digit b t = word_by (behind_name (b ∷ t)) (b ∷ t)
kind_by false true digit b t = k.Oper (b ∷ t)
kind_by false false true b t = k.Number (value (b ∷ t))
kind_by false false false b t = single b t

abbrev kind_of : Text → Kind
kind_of [] = k.Stop
kind_of (b ∷ t) = kind_by (begins_name b) (is_operator_byte b) (is_digit b) b t

-- ---- names

starts_in : (b : ℕ) → begins_name b ≡ true → goes_on_name b ≡ true
starts_in b h = ap (λ v. v || is_digit b) h

pub all_in : (n : Text) → IsIdentifierText n → AllOf goes_on_name n
all_in [] h = absurd h
all_in (b ∷ t) h = (starts_in b h.0, h.1)

behind_all : (n z : Text) → AllOf goes_on_name n → behind_name (n ++ z) ≡ behind_name z
behind_all [] z h = refl
behind_all (b ∷ n) z h = ap (λ v. if v then behind_name (n ++ z) else b ∷ (n ++ z)) h.0 ∙ behind_all n z h.1

behind_alone : (n : Text) → AllOf goes_on_name n → behind_name n ≡ []
behind_alone [] h = refl
behind_alone (b ∷ n) h = ap (λ v. if v then behind_name n else b ∷ n) h.0 ∙ behind_alone n h.1

part_all : (n z : Text) → AllOf goes_on_name n → name_part (n ++ 58 ∷ z) ≡ n
part_all [] z h = refl
part_all (b ∷ n) z h = ap (λ v. if v then b ∷ name_part (n ++ 58 ∷ z) else []) h.0 ∙ ap (λ w. b ∷ w) (part_all n z h.1)

-- a text that begins as a name
word_kind : (n z : Text) → IsIdentifierText n → kind_of (n ++ z) ≡ word_by (behind_name (n ++ z)) (n ++ z)
word_kind [] z h = absurd h
word_kind (b ∷ n) z h = ap (λ v. kind_by v (is_operator_byte b) (is_digit b) b (n ++ z)) h.0

name_kind : (n : Text) → IsIdentifierText n → kind_of n ≡ named n (reserved n)
name_kind [] h = absurd h
name_kind (b ∷ n) h = ap (λ v. kind_by v (is_operator_byte b) (is_digit b) b n) h.0 ∙ ap (λ v. word_by v (b ∷ n)) (behind_alone (b ∷ n) (all_in (b ∷ n) h))

key_kind : (n : Text) → IsIdentifierText n → kind_of (n ++ 58 ∷ []) ≡ k.Key (n ++ 58 ∷ [])
key_kind n h = word_kind n (58 ∷ []) h ∙ ap (λ v. word_by v (n ++ 58 ∷ [])) (behind_all n (58 ∷ []) (all_in n h))

set_key_kind : (n : Text) → IsIdentifierText n → kind_of (n ++ 58 ∷ 58 ∷ []) ≡ k.SetKey n
set_key_kind n h =
    word_kind n (58 ∷ 58 ∷ []) h ∙ ap (λ v. word_by v (n ++ 58 ∷ 58 ∷ [])) (behind_all n (58 ∷ 58 ∷ []) (all_in n h)) ∙ ap k.SetKey (part_all n (58 ∷ []) (all_in n h))

-- ---- operators, numbers and strings

operator_starts : (b : ℕ) → is_operator_byte b ≡ true → begins_name b ≡ false
operator_starts b h = grind (arith, nat_tests)

digit_starts : (b : ℕ) → is_digit b ≡ true → begins_name b ≡ false
digit_starts b h = grind (arith, nat_tests)

digit_operator : (b : ℕ) → is_digit b ≡ true → is_operator_byte b ≡ false
digit_operator b h = grind (arith, nat_tests)

oper_kind : (s : Text) → IsOperator s → kind_of s ≡ k.Oper s
oper_kind [] (inl h) = absurd (omega (arith, h.0))
oper_kind (b ∷ t) (inl h) =
    ap (λ v. kind_by v (is_operator_byte b) (is_digit b) b t) (operator_starts b h.1.0) ∙ ap (λ v. kind_by false v (is_digit b) b t) h.1.0
oper_kind s (inr e) = ap kind_of e ∙ ap k.Oper (sym e)

number_kind : (s : Text) → 0 < length s → AllOf is_digit s → kind_of s ≡ k.Number (value s)
number_kind [] some h = absurd (omega (arith, some))
number_kind (b ∷ t) some h =
    ap (λ v. kind_by v (is_operator_byte b) (is_digit b) b t) (digit_starts b h.0) ∙ ap (λ v. kind_by false v (is_digit b) b t) (digit_operator b h.0) ∙ ap (λ v. kind_by false false v b t) h.0

undouble_by : (b : ℕ) (s : Text) (quote : Bool) → (b == 39) ≡ quote → undoubled false (doubled s ++ 39 ∷ []) ≡ s → undoubled false (cond quote (39 ∷ 39 ∷ doubled s) (b ∷ doubled s) ++ 39 ∷ []) ≡ b ∷ s
undouble_by b s true e after = ap (λ w. 39 ∷ w) after ∙ ap (λ c. c ∷ s) (sym (eqb-true b 39 e))
undouble_by b s false e after = ap (λ v. if v then undoubled true (doubled s ++ 39 ∷ []) else b ∷ undoubled false (doubled s ++ 39 ∷ [])) e ∙ ap (λ w. b ∷ w) after

undouble : (s : Text) → undoubled false (doubled s ++ 39 ∷ []) ≡ s
undouble [] = refl
undouble (b ∷ s) = undouble_by b s (b == 39) refl (undouble s)

-- ---- each kind

-- The token that a text spells is the one that it can only spell.
pub spelled_kind : (w : Text) (t : Kind) → SpellsToken w t → t ≡ kind_of w
spelled_kind w (k.Ident s) h = sym (ap kind_of h.1 ∙ name_kind s h.0 ∙ ap (named s) h.2)
spelled_kind w (k.Word r) h = sym (name_kind w h.0 ∙ ap (named w) h.1)
spelled_kind w (k.Key s) ((n, name, cut), e) = sym (ap kind_of (e ∙ cut) ∙ key_kind n name ∙ ap k.Key (sym cut))
spelled_kind w (k.SetKey s) h = sym (ap kind_of h.1 ∙ set_key_kind s h.0)
spelled_kind w (k.Oper s) h = sym (ap kind_of h.1 ∙ oper_kind s h.0)
spelled_kind w (k.Number v) h = sym (number_kind w h.0 h.1 ∙ ap k.Number h.2)
spelled_kind w (k.Str s) h = sym (ap kind_of h ∙ ap k.Str (undouble s))
spelled_kind w (k.Symbol s) h = sym (ap kind_of h.1)
spelled_kind w k.Open h = sym (ap kind_of h)
spelled_kind w k.Close h = sym (ap kind_of h)
spelled_kind w k.OpenBlock h = sym (ap kind_of h)
spelled_kind w k.CloseBlock h = sym (ap kind_of h)
spelled_kind w k.OpenTuple h = sym (ap kind_of h)
spelled_kind w k.CloseTuple h = sym (ap kind_of h)
spelled_kind w k.Stop h = sym (ap kind_of h)
spelled_kind w k.Semi h = sym (ap kind_of h)
spelled_kind w k.Caret h = sym (ap kind_of h)
spelled_kind w k.Colon h = sym (ap kind_of h)
spelled_kind w k.SlotSet h = sym (ap kind_of h)

name_some : (w : Text) → IsIdentifierText w → 0 < length w
name_some [] h = absurd h
name_some (b ∷ t) h = omega arith

operator_some : (w : Text) → IsOperator w → 0 < length w
operator_some w (inl h) = h.0
operator_some w (inr e) = omega (arith, ap length e)

-- no token has an empty text
pub spelled_some : (w : Text) (t : Kind) → SpellsToken w t → 0 < length w
spelled_some w (k.Ident s) h = subst (λ v. 0 < length v) (sym h.1) (name_some s h.0)
spelled_some w (k.Word r) h = name_some w h.0
spelled_some w (k.Key s) ((n, name, cut), e) = longer n (58 ∷ []) (name_some n name) (e ∙ cut)
  where
    longer : (n z : Text) → 0 < length n → w ≡ n ++ z → 0 < length w
    longer [] z h e = absurd (omega (arith, h))
    longer (b ∷ n) z h e = omega (arith, ap length e)
spelled_some w (k.SetKey s) h = longer s (58 ∷ 58 ∷ []) (name_some s h.0) h.1
  where
    longer : (n z : Text) → 0 < length n → w ≡ n ++ z → 0 < length w
    longer [] z h e = absurd (omega (arith, h))
    longer (b ∷ n) z h e = omega (arith, ap length e)
spelled_some w (k.Oper s) h = subst (λ v. 0 < length v) (sym h.1) (operator_some s h.0)
spelled_some w (k.Number v) h = h.0
spelled_some w (k.Str s) h = omega (arith, ap length h)
spelled_some w (k.Symbol s) h = omega (arith, ap length h.1)
spelled_some w _ h = omega (arith, ap length h)
