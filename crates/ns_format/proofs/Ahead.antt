-- How far is looked ahead of a token: a text that goes on with a byte which ends all tokens but strings is read as without it.
use Rattle.std.proofs.Common.{◌≡◌, ℕ, zero, suc, ◌+◌, ◌≤◌, ◌<◌, Bool, true, false, ◌==◌, ◌&&◌, not, cond, if◌then◌else◌, [], ◌∷◌, ◌++◌, length, take, get_or, refl, sym, ap, ◌∙◌, arith}
use Rattle.std.specs.List.{prefix_len}
use Rattle.std.proofs.lemmas.Bool.{eqb-true}
use Rattle.std.proofs.lemmas.List.{get_or_past, take-append-le}
use Rattle.std.proofs.lemmas.List.Sums.{prefix_len-le-length}
use Rattle.ns_base.specs.Spelling.{is_digit, begins_name, goes_on_name, is_operator_byte}
use Rattle.ns_tree.specs.declared.token.Kind.TheVariants as k
use Rattle.ns_lex.specs.Bytes.{is_blank, is_in}
use Rattle.ns_lex.specs.declared.bytes.ByteClass.TheVariants as class
use Rattle.ns_lex.specs.Piece.{Text}
use Rattle.ns_lex.specs.Word.{word, word_by, name_len, named, reserved}
use Rattle.ns_lex.specs.Number.{number, sized, at_most_greatest, value}
use Rattle.ns_lex.specs.Operator.{operator, operator_len}
use Rattle.ns_lex.specs.Symbol.{symbol, symbol_of, selector_len, keys_from}
use Rattle.ns_lex.specs.Single.{single}
use Rattle.ns_lex.specs.declared.piece.Piece.{Piece}
use Rattle.ns_lex.specs.declared.piece.Piece.TheVariants.{Token, Fault}
use Rattle.ns_lex.specs.declared.piece.Cause.TheVariants as cause
use Rattle.ns_lex.specs.laws.Blanks.{Ends, blank_ends, refuse}
use Rattle.ns_lex.specs.laws.Symbols.{symbol_token}

-- a byte that ends each token but a string
pub record Stops (b : ℕ) : Type 0 where
  pub name : goes_on_name b ≡ false
  pub starts : begins_name b ≡ false
  pub digit : is_digit b ≡ false
  pub oper : is_operator_byte b ≡ false
  pub colon : (b == 58) ≡ false
  pub equals : (b == 61) ≡ false
  pub stop : (b == 46) ≡ false
  pub quote : (b == 39) ≡ false

pub blank_stops : (b : ℕ) → is_blank b ≡ true → Stops b
blank_stops b h =
    let e : Ends b = blank_ends b h in
    record { name = e.name; starts = e.starts; digit = e.digit; oper = e.oper; colon = e.colon; equals = e.equals; stop = e.stop; quote = e.quote }

-- where no byte is, a comment's bracket, and the quote of a remark
pub end_stops : Stops 0
end_stops = record { name = refl; starts = refl; digit = refl; oper = refl; colon = refl; equals = refl; stop = refl; quote = refl }

pub bracket_stops : Stops 40
bracket_stops = record { name = refl; starts = refl; digit = refl; oper = refl; colon = refl; equals = refl; stop = refl; quote = refl }

pub remark_stops : Stops 34
remark_stops = record { name = refl; starts = refl; digit = refl; oper = refl; colon = refl; equals = refl; stop = refl; quote = refl }

-- ---- tests of bytes, and runs

-- a test that fails at the end and at the byte behind
at_same : (p : ℕ → Bool) (w y : Text) (i : ℕ) → p 0 ≡ false → p (get_or y 0 0) ≡ false → i ≤ length w → p (get_or (w ++ y) i 0) ≡ p (get_or w i 0)
at_same p [] y zero none stop h = stop ∙ sym none
at_same p [] y (suc i) none stop h = absurd (omega (arith, h))
at_same p (b ∷ w) y zero none stop h = refl
at_same p (b ∷ w) y (suc i) none stop h = at_same p w y i none stop (omega (arith, h))

run_none : (p : ℕ → Bool) (y : Text) → p (get_or y 0 0) ≡ false → prefix_len p y ≡ 0
run_none p [] stop = refl
run_none p (c ∷ y) stop = ap (λ v. cond v (1 + prefix_len p y) 0) stop

run_same : (p : ℕ → Bool) (w y : Text) → p (get_or y 0 0) ≡ false → prefix_len p (w ++ y) ≡ prefix_len p w
run_same p [] y stop = run_none p y stop
run_same p (b ∷ w) y stop = ap (λ n. cond (p b) (1 + n) 0) (run_same p w y stop)

not_past : (w : Text) (i : ℕ) → (length w ≤ i → ⊥) → i < length w
not_past w i h = omega (arith, h)

-- where a byte is found, there is one
some_at : (w : Text) (i c : ℕ) → (get_or w i 0 == suc c) ≡ true → i < length w
some_at w i c e = not_past w i (λ h. let f : suc c ≡ 0 = sym (eqb-true (get_or w i 0) (suc c) e) ∙ get_or_past w i 0 h in cc)

-- ---- names

word_is : (z : Text) (n : ℕ) → name_len z ≡ n → word z ≡ word_by (get_or z n 0 == 58) (get_or z (n + 1) 0 == 58) (get_or z (n + 2) 0 == 61) n z
unfolding word
word_is z n e = ap (λ m. word_by (get_or z m 0 == 58) (get_or z (m + 1) 0 == 58) (get_or z (m + 2) 0 == 61) m z) e

-- the tests behind a name of n bytes
word_tests : (colon second : Bool) (w y : Text) (n : ℕ) → Stops (get_or y 0 0) → n ≤ length w → (get_or w n 0 == 58) ≡ colon → (get_or w (n + 1) 0 == 58) ≡ second
    → word_by (get_or (w ++ y) n 0 == 58) (get_or (w ++ y) (n + 1) 0 == 58) (get_or (w ++ y) (n + 2) 0 == 61) n (w ++ y)
    ≡ word_by (get_or w n 0 == 58) (get_or w (n + 1) 0 == 58) (get_or w (n + 2) 0 == 61) n w
word_tests false second w y n s low e f =
    let one : (get_or (w ++ y) n 0 == 58) ≡ false = at_same (λ b. b == 58) w y n refl s.colon low ∙ e in
    ap (λ v. word_by v (get_or (w ++ y) (n + 1) 0 == 58) (get_or (w ++ y) (n + 2) 0 == 61) n (w ++ y)) one
    ∙ ap (λ t. Token (named t (reserved t)) n) (take-append-le n w y low)
    ∙ sym (ap (λ v. word_by v (get_or w (n + 1) 0 == 58) (get_or w (n + 2) 0 == 61) n w) e)
word_tests true false w y n s low e f =
    let there : n < length w = some_at w n 57 e in
    let one : (get_or (w ++ y) n 0 == 58) ≡ true = at_same (λ b. b == 58) w y n refl s.colon low ∙ e in
    let two : (get_or (w ++ y) (n + 1) 0 == 58) ≡ false = at_same (λ b. b == 58) w y (n + 1) refl s.colon (omega (arith, there)) ∙ f in
    ap (λ v. word_by v (get_or (w ++ y) (n + 1) 0 == 58) (get_or (w ++ y) (n + 2) 0 == 61) n (w ++ y)) one
    ∙ ap (λ v. word_by true v (get_or (w ++ y) (n + 2) 0 == 61) n (w ++ y)) two
    ∙ ap (λ t. Token (k.Key t) (n + 1)) (take-append-le (n + 1) w y (omega (arith, there)))
    ∙ sym (ap (λ v. word_by v (get_or w (n + 1) 0 == 58) (get_or w (n + 2) 0 == 61) n w) e ∙ ap (λ v. word_by true v (get_or w (n + 2) 0 == 61) n w) f)
word_tests true true w y n s low e f =
    let there : n + 1 < length w = some_at w (n + 1) 57 f in
    let one : (get_or (w ++ y) n 0 == 58) ≡ true = at_same (λ b. b == 58) w y n refl s.colon low ∙ e in
    let two : (get_or (w ++ y) (n + 1) 0 == 58) ≡ true = at_same (λ b. b == 58) w y (n + 1) refl s.colon (omega (arith, there)) ∙ f in
    let third : Bool = get_or w (n + 2) 0 == 61 in
    ap (λ v. word_by v (get_or (w ++ y) (n + 1) 0 == 58) (get_or (w ++ y) (n + 2) 0 == 61) n (w ++ y)) one
    ∙ ap (λ v. word_by true v (get_or (w ++ y) (n + 2) 0 == 61) n (w ++ y)) two
    ∙ ap (λ v. word_by true true v n (w ++ y)) (at_same (λ b. b == 61) w y (n + 2) refl s.equals (omega (arith, there)))
    ∙ ap (λ t. if not third then Token (k.SetKey t) (n + 2) else Token (named t (reserved t)) n) (take-append-le n w y low)
    ∙ sym (ap (λ v. word_by v (get_or w (n + 1) 0 == 58) third n w) e ∙ ap (λ v. word_by true v third n w) f)

pub word_same : (w y : Text) → Stops (get_or y 0 0) → word (w ++ y) ≡ word w
word_same w y s =
    let n : ℕ = name_len w in
    word_is (w ++ y) n (run_same (is_in class.Name) w y s.name)
    ∙ word_tests (get_or w n 0 == 58) (get_or w (n + 1) 0 == 58) w y n s (prefix_len-le-length (is_in class.Name) w) refl refl
    ∙ sym (word_is w n refl)

-- ---- numbers

abbrev number_by : Bool → Bool → ℕ → Text → Piece
number_by name fraction n digits = if name then Fault cause.BadByte n else (if fraction then Fault cause.BadByte n else sized n (at_most_greatest (value digits)))

number_is : (z : Text) (n : ℕ) → prefix_len (is_in class.Digit) z ≡ n → number z ≡ number_by (begins_name (get_or z n 0)) (get_or z n 0 == 46 && is_digit (get_or z (n + 1) 0)) n (take n z)
unfolding number
number_is z n e = ap (λ m. number_by (begins_name (get_or z m 0)) (get_or z m 0 == 46 && is_digit (get_or z (m + 1) 0)) m (take m z)) e

fraction_same : (stop : Bool) (w y : Text) (n : ℕ) → Stops (get_or y 0 0) → n ≤ length w → (get_or w n 0 == 46) ≡ stop
    → (get_or (w ++ y) n 0 == 46 && is_digit (get_or (w ++ y) (n + 1) 0)) ≡ (get_or w n 0 == 46 && is_digit (get_or w (n + 1) 0))
fraction_same false w y n s low e =
    ap (λ v. v && is_digit (get_or (w ++ y) (n + 1) 0)) (at_same (λ b. b == 46) w y n refl s.stop low ∙ e) ∙ sym (ap (λ v. v && is_digit (get_or w (n + 1) 0)) e)
fraction_same true w y n s low e =
    let there : n < length w = some_at w n 45 e in
    ap (λ v. v && is_digit (get_or (w ++ y) (n + 1) 0)) (at_same (λ b. b == 46) w y n refl s.stop low ∙ e)
    ∙ at_same is_digit w y (n + 1) refl s.digit (omega (arith, there)) ∙ sym (ap (λ v. v && is_digit (get_or w (n + 1) 0)) e)

pub number_same : (w y : Text) → Stops (get_or y 0 0) → number (w ++ y) ≡ number w
number_same w y s =
    let n : ℕ = prefix_len (is_in class.Digit) w in
    let low : n ≤ length w = prefix_len-le-length (is_in class.Digit) w in
    let there : Bool = get_or (w ++ y) n 0 == 46 && is_digit (get_or (w ++ y) (n + 1) 0) in
    number_is (w ++ y) n (run_same (is_in class.Digit) w y s.digit)
    ∙ ap (λ v. number_by v there n (take n (w ++ y))) (at_same begins_name w y n refl s.starts low)
    ∙ ap (λ v. number_by (begins_name (get_or w n 0)) v n (take n (w ++ y))) (fraction_same (get_or w n 0 == 46) w y n s low refl)
    ∙ ap (number_by (begins_name (get_or w n 0)) (get_or w n 0 == 46 && is_digit (get_or w (n + 1) 0)) n) (take-append-le n w y low) ∙ sym (number_is w n refl)

-- ---- operators

len_same : (c : ℕ) (w y : Text) → Stops (get_or y 0 0) → operator_len (c ∷ (w ++ y)) ≡ operator_len (c ∷ w)
unfolding operator_len
len_same c w y s =
    ap (λ v. if c == 60 && v then 2 else prefix_len (is_in class.Operator) (c ∷ (w ++ y))) (at_same (λ b. b == 58) w y 0 refl s.colon (omega arith))
    ∙ ap (λ n. if c == 60 && get_or w 0 0 == 58 then 2 else n) (run_same (is_in class.Operator) (c ∷ w) y s.oper)

len_by : (over : Bool) (z : Text) → 2 ≤ length z → (if over then 2 else prefix_len (is_in class.Operator) z) ≤ length z
len_by true z h = h
len_by false z h = prefix_len-le-length (is_in class.Operator) z

len_fits : (b c : ℕ) (w : Text) → operator_len (b ∷ c ∷ w) ≤ length (b ∷ c ∷ w)
unfolding operator_len
len_fits b c w = len_by (b == 60 && c == 58) (b ∷ c ∷ w) (omega arith)

pub operator_same : (b c : ℕ) (w y : Text) → Stops (get_or y 0 0) → operator (b ∷ c ∷ (w ++ y)) ≡ operator (b ∷ c ∷ w)
unfolding operator
operator_same b c w y s =
    ap (λ n. Token (k.Oper (take n (b ∷ c ∷ (w ++ y)))) n) (len_same b (c ∷ w) y s)
    ∙ ap (λ t. Token (k.Oper t) (operator_len (b ∷ c ∷ w))) (take-append-le (operator_len (b ∷ c ∷ w)) (b ∷ c ∷ w) y (len_fits b c w))

-- ---- symbols

keys_stop : (far : ℕ) (inside : Bool) (at : ℕ) (y : Text) → Stops (get_or y 0 0) → keys_from far inside at y ≡ far
keys_stop far inside at [] s = refl
keys_stop far true at (c ∷ y) s = refuse (c == 58) _ _ _ s.colon (refuse (goes_on_name c) _ _ _ s.name refl)
keys_stop far false at (c ∷ y) s = refuse (begins_name c) _ _ _ s.starts refl

keys_same : (far : ℕ) (inside : Bool) (at : ℕ) (w y : Text) → Stops (get_or y 0 0) → keys_from far inside at (w ++ y) ≡ keys_from far inside at w
keys_same far inside at [] y s = keys_stop far inside at y s
keys_same far true at (b ∷ w) y s =
    ap (λ n. if b == 58 then n else (if goes_on_name b then keys_from far true (at + 1) (w ++ y) else far)) (keys_same (at + 1) false (at + 1) w y s)
    ∙ ap (λ n. if b == 58 then keys_from (at + 1) false (at + 1) w else (if goes_on_name b then n else far)) (keys_same far true (at + 1) w y s)
keys_same far false at (b ∷ w) y s = ap (λ n. if begins_name b then n else far) (keys_same far true (at + 1) w y s)

abbrev selector_by : ℕ → ℕ → ℕ → ℕ → ℕ
selector_by c oper keys name = if is_operator_byte c then oper else (if begins_name c then (if keys == 0 then name else keys) else 0)

selector_same : (c : ℕ) (w y : Text) → Stops (get_or y 0 0) → selector_len (c ∷ (w ++ y)) ≡ selector_len (c ∷ w)
unfolding selector_len
selector_same c w y s =
    ap (λ n. selector_by c n (keys_from 0 false 0 (c ∷ (w ++ y))) (name_len (c ∷ (w ++ y)))) (len_same c w y s)
    ∙ ap (λ n. selector_by c (operator_len (c ∷ w)) n (name_len (c ∷ (w ++ y)))) (keys_same 0 false 0 (c ∷ w) y s)
    ∙ ap (selector_by c (operator_len (c ∷ w)) (keys_from 0 false 0 (c ∷ w))) (run_same (is_in class.Name) (c ∷ w) y s.name)

-- a selector is no longer than its text
fits_by : (none : Bool) (n : ℕ) (z : Text) → (n == 0) ≡ none → symbol (35 ∷ z) ≡ symbol_of n z → n ≤ length z
fits_by true n z e f = omega (arith, eqb-true n 0 e)
fits_by false n z e f = omega (arith, (symbol_token 35 z (k.Symbol (take n z)) (n + 1) refl (f ∙ refuse (n == 0) _ _ _ e refl)).size)

selector_fits : (z : Text) → selector_len z ≤ length z
unfolding symbol
selector_fits z = fits_by (selector_len z == 0) (selector_len z) z refl refl

pub symbol_same : (b c : ℕ) (w y : Text) → Stops (get_or y 0 0) → symbol (b ∷ c ∷ (w ++ y)) ≡ symbol (b ∷ c ∷ w)
unfolding symbol
symbol_same b c w y s =
    let n : ℕ = selector_len (c ∷ w) in
    ap (λ m. symbol_of m (c ∷ (w ++ y))) (selector_same c w y s)
    ∙ ap (λ t. if n == 0 then Fault cause.BadByte 0 else Token (k.Symbol t) (n + 1)) (take-append-le n (c ∷ w) y (selector_fits (c ∷ w)))

-- ---- signs

pub single_same : (b c : ℕ) (w y : Text) → Stops (get_or y 0 0) → single (b ∷ c ∷ (w ++ y)) ≡ single (b ∷ c ∷ w)
unfolding single
single_same b c w y s =
    ap (λ v. if b == 40 then Token k.Open 1
    else (if b == 41 then Token k.Close 1
    else (if b == 91 then Token k.OpenBlock 1
    else (if b == 93 then Token k.CloseBlock 1
    else (if b == 123 then Token k.OpenTuple 1
    else (if b == 125 then Token k.CloseTuple 1
    else (if b == 46 then Token k.Stop 1
    else (if b == 59 then Token k.Semi 1
    else (if b == 94 then Token k.Caret 1
    else (if b == 58 then (if c == 58 && v then Token k.SlotSet 3 else Token k.Colon 1)
    else Fault cause.BadByte 0))))))))))
    (at_same (λ i. i == 61) w y 0 refl s.equals (omega arith))
