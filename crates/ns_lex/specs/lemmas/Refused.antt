-- Where the piece at a byte that begins no gap is a fault, it is named there.
use Rattle.std.proofs.Common.{◌≡◌, ℕ, suc, ◌+◌, ◌≤◌, ◌<◌, inl, inr, Bool, true, false, ◌==◌, ◌&&◌, cond, if◌then◌else◌, [], ◌∷◌, ◌++◌, length, take, drop, get_or, Option, Some, None, refl, sym, ap, subst, ◌∙◌, append_assoc, arith}
use Rattle.std.specs.Prelude.{nat_lt}
use Rattle.std.proofs.lemmas.Bool.{eqb-true, eq-eqb}
use Rattle.std.proofs.lemmas.Bool.Decides.{nat_tests}
use Rattle.std.proofs.lemmas.List.{append-nil, take-append-drop}
use Rattle.std.specs.List.{prefix_len}
use Rattle.std.proofs.lemmas.List.Sums.{prefix_len-le-length}
use Rattle.ns_tree.specs.declared.token.Kind.{Kind}
use Rattle.ns_tree.specs.declared.token.Kind.TheVariants as k
use Rattle.ns_lex.specs.Bytes.{is_blank, is_in}
use Rattle.ns_lex.specs.declared.bytes.ByteClass.TheVariants as class
use Rattle.ns_lex.specs.Piece.{Text}
use Rattle.ns_lex.specs.Number.{number, sized, at_most_greatest, value, greatest}
use Rattle.ns_lex.specs.Quoted.{quoted, quoted_from, closed}
use Rattle.ns_lex.specs.Symbol.{symbol, selector_len}
use Rattle.ns_lex.specs.Single.{single}
use Rattle.ns_lex.specs.declared.piece.Piece.TheVariants.{Token, Fault}
use Rattle.ns_lex.specs.declared.piece.Cause.{Cause}
use Rattle.ns_lex.specs.declared.piece.Cause.TheVariants as cause
use Rattle.ns_lex.specs.Spells.{IsIdentifierText, SpellsToken}
use Rattle.ns_base.specs.Quoted.{doubled}
use Rattle.ns_base.specs.Spelling.{is_digit, begins_name, is_operator_byte}
use Rattle.ns_lex.specs.Gap.{IsGapPart, inside}
use Rattle.ns_lex.specs.Lexes.{SpellsInText, IsDigits, BeginsNothing, IsFault}
use Rattle.ns_lex.specs.laws.Words.{run_of, length_taken, at_end}
use Rattle.ns_lex.specs.laws.Singles.{clash, same_first, split, no_name, no_operator}
use Rattle.ns_lex.specs.lemmas.Numbers.{run}
use Rattle.ns_lex.specs.lemmas.Strings.{finds, found}
use Rattle.ns_lex.specs.laws.Symbols.{IsSelector, selector_longest}

-- a fault that is another's by its cause and place
moved : (z : Text) (c d : Cause) (n m : ℕ) → Fault c n ≡ Fault d m → IsFault z c n → IsFault z d m
moved z c d n m f x =
    let e : c ≡ d = cc in
    let g : n ≡ m = cc in
    subst (λ i. IsFault z d i) g (subst (λ v. IsFault z v n) e x)

same_tail : (b c : ℕ) (p q : Text) → b ∷ p ≡ c ∷ q → p ≡ q
same_tail b c p q e = cc

-- ---- numbers

above : (v : ℕ) → nat_lt greatest v ≡ true → greatest < v
above v h = grind (arith, nat_tests)

stops_by : (p : ℕ → Bool) (c : ℕ) (z : Text) (v : Bool) → p c ≡ v → p (get_or z (prefix_len p z) 0) ≡ false → p (get_or (c ∷ z) (cond v (1 + prefix_len p z) 0) 0) ≡ false
stops_by p c z true h later = let e : 1 + prefix_len p z ≡ suc (prefix_len p z) = omega arith in ap (λ i. p (get_or (c ∷ z) i 0)) e ∙ later
stops_by p c z false h later = h

run_stops : (p : ℕ → Bool) (z : Text) → p 0 ≡ false → p (get_or z (prefix_len p z) 0) ≡ false
run_stops p [] none = none
run_stops p (c ∷ z) none = stops_by p c z (p c) refl (run_stops p z none)

module _ (b : ℕ) (y : Text) (h : is_digit b ≡ true) where
  abbrev digits : Text
  digits = take (run (b ∷ y)) (b ∷ y)

  abbrev behind : Text
  behind = drop (run (b ∷ y)) (b ∷ y)

  cut : b ∷ y ≡ digits ++ behind
  cut = sym (take-append-drop (run (b ∷ y)) (b ∷ y))

  size : length digits ≡ run (b ∷ y)
  size = length_taken (b ∷ y) (run (b ∷ y)) (prefix_len-le-length (is_in class.Digit) (b ∷ y))

  is_digits : IsDigits digits
  is_digits = (let some : run (b ∷ y) ≡ 1 + run y = ap (λ v. cond v (1 + run y) 0) h in omega (arith, size, some), run_of is_digit (b ∷ y))

  first_behind : (i : ℕ) → get_or (b ∷ y) (run (b ∷ y) + i) 0 ≡ get_or behind i 0
  first_behind i = ap (λ z. get_or z (run (b ∷ y) + i) 0) cut ∙ ap (λ n. get_or (digits ++ behind) (n + i) 0) (sym size) ∙ at_end digits behind i

  zero_more : run (b ∷ y) ≡ run (b ∷ y) + 0
  zero_more = omega arith

  first : get_or (b ∷ y) (run (b ∷ y)) 0 ≡ get_or behind 0 0
  first = ap (λ i. get_or (b ∷ y) i 0) zero_more ∙ first_behind 0

  letter_stop : begins_name (get_or (b ∷ y) (run (b ∷ y)) 0) ≡ true → IsFault (b ∷ y) cause.BadByte (run (b ∷ y))
  letter_stop e = inl (digits, behind, cut, is_digits, inl (sym (ap begins_name first) ∙ e), sym size)

  fraction_stop : (get_or (b ∷ y) (run (b ∷ y)) 0 ≡ 46) × (is_digit (get_or (b ∷ y) (run (b ∷ y) + 1) 0) ≡ true) → IsFault (b ∷ y) cause.BadByte (run (b ∷ y))
  fraction_stop e = inl (digits, behind, cut, is_digits, inr (sym first ∙ e.0, sym (ap is_digit (first_behind 1)) ∙ e.1), sym size)

  no_more : is_digit (get_or behind 0 0) ≡ false
  no_more = sym (ap is_digit first) ∙ run_stops is_digit (b ∷ y) refl

  great_stop : begins_name (get_or (b ∷ y) (run (b ∷ y)) 0) ≡ false → (get_or (b ∷ y) (run (b ∷ y)) 0 == 46 && is_digit (get_or (b ∷ y) (run (b ∷ y) + 1) 0)) ≡ false → greatest < value digits → IsFault (b ∷ y) cause.BigNumber 0
  great_stop e f big = (
    digits,
    behind,
    cut,
    is_digits,
    (
      no_more,
      λ g. clash (begins_name (get_or (b ∷ y) (run (b ∷ y)) 0)) e (ap begins_name first ∙ g),
      λ g. clash (get_or (b ∷ y) (run (b ∷ y)) 0 == 46 && is_digit (get_or (b ∷ y) (run (b ∷ y) + 1) 0)) f
          (ap (λ v. v && is_digit (get_or (b ∷ y) (run (b ∷ y) + 1) 0)) (eq-eqb (get_or (b ∷ y) (run (b ∷ y)) 0) 46 (first ∙ g.0)) ∙ ap is_digit (first_behind 1) ∙ g.1),
    ),
    big,
    refl,
  )

above_if : (v : ℕ) (more : Bool) → nat_lt greatest v ≡ more → (if more then None else Some v) ≡ None → greatest < v
above_if v true h e = above v h
above_if v false h e = absurd cc

sized_stop : (b : ℕ) (y : Text) (h : is_digit b ≡ true) (o : Option ℕ) (c : Cause) (n : ℕ) → at_most_greatest (value (take (run (b ∷ y)) (b ∷ y))) ≡ o → begins_name (get_or (b ∷ y) (run (b ∷ y)) 0) ≡ false
    → (get_or (b ∷ y) (run (b ∷ y)) 0 == 46 && is_digit (get_or (b ∷ y) (run (b ∷ y) + 1) 0)) ≡ false → sized (run (b ∷ y)) o ≡ Fault c n → IsFault (b ∷ y) c n
sized_stop b y h None c n e f g s = moved (b ∷ y) cause.BigNumber c 0 n s (great_stop b y h f g (above_if (value (take (run (b ∷ y)) (b ∷ y))) (nat_lt greatest (value (take (run (b ∷ y)) (b ∷ y)))) refl e))
sized_stop b y h (Some v) c n e f g s = absurd cc

both_true : (x v : Bool) → (x && v) ≡ true → (x ≡ true) × (v ≡ true)
both_true true v h = (refl, h)
both_true false v h = absurd cc

-- The fault at a digit is named there.
pub number_fault : (b : ℕ) (y : Text) (c : Cause) (n : ℕ) → is_digit b ≡ true → number (b ∷ y) ≡ Fault c n → IsFault (b ∷ y) c n
unfolding number
number_fault b y c n h f =
    split (begins_name (get_or (b ∷ y) (run (b ∷ y)) 0)) _ _ _ f (λ e g. moved (b ∷ y) cause.BadByte c (run (b ∷ y)) n g (letter_stop b y h e))
    (λ no_letter f. split (get_or (b ∷ y) (run (b ∷ y)) 0 == 46 && is_digit (get_or (b ∷ y) (run (b ∷ y) + 1) 0)) _ _ _ f
    (λ e g. let x = both_true (get_or (b ∷ y) (run (b ∷ y)) 0 == 46) (is_digit (get_or (b ∷ y) (run (b ∷ y) + 1) 0)) e in moved (b ∷ y) cause.BadByte c (run (b ∷ y)) n g (fraction_stop b y h (eqb-true (get_or (b ∷ y) (run (b ∷ y)) 0) 46 x.0, x.1)))
    (λ no_fraction g. sized_stop b y h (at_most_greatest (value (take (run (b ∷ y)) (b ∷ y)))) c n refl no_letter no_fraction g))

-- ---- strings

found_none : (s : Text) (n : ℕ) → found s n ≡ None → ⊥
found_none s n e = cc

no_string : (b : ℕ) (y : Text) → quoted_from false [] 1 y ≡ None → (p r s : Text) → b ∷ y ≡ p ++ r → SpellsInText p r (k.Str s) → ⊥
no_string b y none [] r s cut (e, ended) = absurd cc
no_string b y none (c ∷ p) r s cut (e, ended) =
    let rest : y ≡ p ++ r = cc in
    let held : p ≡ doubled s ++ 39 ∷ [] = cc in
    let all : y ≡ doubled s ++ 39 ∷ r = rest ∙ ap (λ w. w ++ r) held ∙ append_assoc (doubled s) (39 ∷ []) r in
    found_none s (1 + length (doubled s) + 1) (sym (finds [] 1 s r ended) ∙ ap (quoted_from false [] 1) (sym all) ∙ none)

string_by : (b : ℕ) (y : Text) (o : Option (Text × ℕ)) (c : Cause) (n : ℕ) → b ≡ 39 → quoted_from false [] 1 y ≡ o → closed o ≡ Fault c n → IsFault (b ∷ y) c n
string_by b y None c n h e f = moved (b ∷ y) cause.UnclosedString c 0 n f ((y, ap (λ v. v ∷ y) h), no_string b y e, refl)
string_by b y (Some q) c n h e f = absurd cc

-- The fault at a quote is named there.
pub string_fault : (b : ℕ) (y : Text) (c : Cause) (n : ℕ) → b ≡ 39 → quoted (b ∷ y) ≡ Fault c n → IsFault (b ∷ y) c n
unfolding quoted
string_fault b y c n h f = string_by b y (quoted_from false [] 1 y) c n h refl f

-- ---- symbols

no_end : (n : Text) (c : ℕ) (u : Text) → [] ≡ n ++ c ∷ u → ⊥
no_end [] c u e = absurd cc
no_end (b ∷ n) c u e = absurd cc

empty_of : (s : Text) → length s ≤ 0 → s ≡ []
empty_of [] h = refl
empty_of (b ∷ s) h = absurd (omega (arith, h))

no_selector : (s : Text) → IsSelector s → s ≡ [] → ⊥
no_selector s (inl n) e = subst IsIdentifierText e n
no_selector s (inr (inl ([], x))) e = x
no_selector s (inr (inl (m ∷ [], ((n, name, f), g)))) e = no_end n 58 [] (sym e ∙ g ∙ f)
no_selector s (inr (inl (m ∷ l ∷ ks, ((n, name, f), (u, g, x))))) e = no_end n 58 u (sym e ∙ g ∙ ap (λ w. w ++ u) f ∙ append_assoc n (58 ∷ []) u)
no_selector s (inr (inr (inl o))) e = absurd (omega (arith, o.0, ap length e))
no_selector s (inr (inr (inr o))) e = absurd (let f : 60 ∷ 58 ∷ [] ≡ [] = sym o ∙ e in cc)

no_symbol : (b : ℕ) (y : Text) → selector_len y ≡ 0 → (p r s : Text) → b ∷ y ≡ p ++ r → SpellsToken p (k.Symbol s) → ⊥
no_symbol b y none [] r s cut x = absurd (let f : [] ≡ 35 ∷ s = x.1 in cc)
no_symbol b y none (c ∷ p) r s cut x =
    let rest : y ≡ p ++ r = cc in
    let text : p ≡ s = same_tail c 35 p s x.1 in
    let low : length s ≤ selector_len (s ++ r) = selector_longest s r x.0 in
    let there : selector_len (s ++ r) ≡ 0 = ap (λ w. selector_len (w ++ r)) (sym text) ∙ ap selector_len (sym rest) ∙ none in
    no_selector s x.0 (empty_of s (omega (arith, low, there)))

symbol_by : (b : ℕ) (y : Text) (n : ℕ) (none : Bool) (c : Cause) (m : ℕ) → b ≡ 35 → selector_len y ≡ n → (n == 0) ≡ none → (if none then Fault cause.BadByte 0 else Token (k.Symbol (take n y)) (n + 1)) ≡ Fault c m → IsFault (b ∷ y) c m
symbol_by b y n true c m h e z f = moved (b ∷ y) cause.BadByte c 0 m f (inr (inl (y, ap (λ v. v ∷ y) h, no_symbol b y (e ∙ eqb-true n 0 z), refl)))
symbol_by b y n false c m h e z f = absurd cc

-- The fault at `#` is named there.
pub symbol_fault : (b : ℕ) (y : Text) (c : Cause) (m : ℕ) → b ≡ 35 → symbol (b ∷ y) ≡ Fault c m → IsFault (b ∷ y) c m
unfolding symbol
symbol_fault b y c m h f = symbol_by b y (selector_len y) (selector_len y == 0) c m h refl refl f

-- ---- bytes that begin nothing

-- a byte of none of the classes
pub record Strange (b : ℕ) : Type 0 where
  pub blank : is_blank b ≡ false
  pub remark : (b == 34) ≡ false
  pub name : begins_name b ≡ false
  pub digit : is_digit b ≡ false
  pub quote : (b == 39) ≡ false
  pub mark : (b == 35) ≡ false
  pub oper : is_operator_byte b ≡ false

-- and no sign either
record Alone (b : ℕ) : Type 0 where
  strange : Strange b
  open_paren : (b == 40) ≡ false
  close_paren : (b == 41) ≡ false
  open_block : (b == 91) ≡ false
  close_block : (b == 93) ≡ false
  open_tuple : (b == 123) ≡ false
  close_tuple : (b == 125) ≡ false
  stop : (b == 46) ≡ false
  semi : (b == 59) ≡ false
  caret : (b == 94) ≡ false
  colon : (b == 58) ≡ false

not_it : (b c : ℕ) (u q : Text) → (b == c) ≡ false → b ∷ u ≡ c ∷ q → ⊥
not_it b c u q h e = clash (b == c) h (eq-eqb b c (same_first b c u q e))

spells_nothing : (b : ℕ) (u : Text) (t : Kind) → Alone b → SpellsToken (b ∷ u) t → ⊥
spells_nothing b u (k.Ident s) a (n, e, r) = no_name b u s [] a.strange.name n (e ∙ sym (append-nil s))
spells_nothing b u (k.Word w) a (n, r) = clash (begins_name b) a.strange.name n.0
spells_nothing b u (k.Key s) a ((n, name, cut), e) = no_name b u n (58 ∷ []) a.strange.name name (e ∙ cut)
spells_nothing b u (k.SetKey s) a (name, e) = no_name b u s (58 ∷ 58 ∷ []) a.strange.name name e
spells_nothing b u (k.Oper s) a (o, e) = no_operator b u s a.strange.oper o e
spells_nothing b u (k.Number v) a x = clash (is_digit b) a.strange.digit x.1.0
spells_nothing b u (k.Str s) a x = not_it b 39 u _ a.strange.quote x
spells_nothing b u (k.Symbol s) a x = not_it b 35 u s a.strange.mark x.1
spells_nothing b u k.Open a x = not_it b 40 u [] a.open_paren x
spells_nothing b u k.Close a x = not_it b 41 u [] a.close_paren x
spells_nothing b u k.OpenBlock a x = not_it b 91 u [] a.open_block x
spells_nothing b u k.CloseBlock a x = not_it b 93 u [] a.close_block x
spells_nothing b u k.OpenTuple a x = not_it b 123 u [] a.open_tuple x
spells_nothing b u k.CloseTuple a x = not_it b 125 u [] a.close_tuple x
spells_nothing b u k.Stop a x = not_it b 46 u [] a.stop x
spells_nothing b u k.Semi a x = not_it b 59 u [] a.semi x
spells_nothing b u k.Caret a x = not_it b 94 u [] a.caret x
spells_nothing b u k.Colon a x = not_it b 58 u [] a.colon x
spells_nothing b u k.SlotSet a x = not_it b 58 u (58 ∷ 61 ∷ []) a.colon x

no_part : (b : ℕ) (u : Text) → Alone b → IsGapPart (b ∷ u) → ⊥
no_part b u a (inl (c, h, e)) = clash (is_blank b) a.strange.blank (ap is_blank (same_first b c u [] e) ∙ h)
no_part b u a (inr (inl (i, m, e))) = not_it b 40 u (42 ∷ inside i) a.open_paren e
no_part b u a (inr (inr (s, h, e))) = not_it b 34 u (s ++ 34 ∷ []) a.strange.remark e

begins_nothing : (b : ℕ) → Alone b → BeginsNothing b
begins_nothing b a = (λ u t x. spells_nothing b u t a x, λ u x. no_part b u a x)

alone_stop : (b : ℕ) (y : Text) (c : Cause) (n : ℕ) → Alone b → Fault cause.BadByte 0 ≡ Fault c n → IsFault (b ∷ y) c n
alone_stop b y c n a f = moved (b ∷ y) cause.BadByte c 0 n f (inr (inr (b, y, refl, begins_nothing b a, refl)))

-- The fault at any other byte is named there.
pub single_fault : (b : ℕ) (y : Text) (c : Cause) (n : ℕ) → Strange b → single (b ∷ y) ≡ Fault c n → IsFault (b ∷ y) c n
unfolding single
single_fault b y c n a f =
    split (b == 40) _ _ _ f (λ e h. absurd cc)
    (λ t1 f. split (b == 41) _ _ _ f (λ e h. absurd cc)
    (λ t2 f. split (b == 91) _ _ _ f (λ e h. absurd cc)
    (λ t3 f. split (b == 93) _ _ _ f (λ e h. absurd cc)
    (λ t4 f. split (b == 123) _ _ _ f (λ e h. absurd cc)
    (λ t5 f. split (b == 125) _ _ _ f (λ e h. absurd cc)
    (λ t6 f. split (b == 46) _ _ _ f (λ e h. absurd cc)
    (λ t7 f. split (b == 59) _ _ _ f (λ e h. absurd cc)
    (λ t8 f. split (b == 94) _ _ _ f (λ e h. absurd cc)
    (λ t9 f. split (b == 58) _ _ _ f (λ e f. split (get_or (b ∷ y) 1 0 == 58 && get_or (b ∷ y) 2 0 == 61) _ _ _ f (λ e h. absurd cc) (λ e h. absurd cc))
    (λ t10 h. alone_stop b y c n (record { strange = a; open_paren = t1; close_paren = t2; open_block = t3; close_block = t4; open_tuple = t5; close_tuple = t6; stop = t7; semi = t8; caret = t9; colon = t10 }) h))))))))))
