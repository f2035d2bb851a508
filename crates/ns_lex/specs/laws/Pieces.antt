-- What the piece at the front of a text means.
use Rattle.std.proofs.Common.{◌≡◌, ℕ, zero, suc, ◌+◌, ◌<◌, Bool, true, false, ◌==◌, ◌&&◌, [], ◌∷◌, take, drop, get_or, Option, Some, None, refl, sym, ap, ◌∙◌, arith}
use Rattle.std.proofs.lemmas.Bool.{eqb-true, eq-eqb}
use Rattle.std.proofs.lemmas.Bool.Decides.{nat_tests}
use Rattle.std.proofs.lemmas.List.{take-append-drop}
use Rattle.ns_base.specs.Spelling.{is_digit, begins_name, is_operator_byte}
use Rattle.ns_tree.specs.declared.token.Kind.{Kind}
use Rattle.ns_lex.specs.Bytes.{is_blank}
use Rattle.ns_lex.specs.Piece.{Text}
use Rattle.ns_lex.specs.Next.{next_piece}
use Rattle.ns_lex.specs.Word.{word, word_by, name_len}
use Rattle.ns_lex.specs.Number.{number, sized, at_most_greatest, value}
use Rattle.ns_lex.specs.Quoted.{quoted, quoted_from}
use Rattle.ns_lex.specs.Quoted as strings
use Rattle.ns_lex.specs.Comment.{comment, remark, remark_len}
use Rattle.ns_lex.specs.Comment as comments
use Rattle.ns_lex.specs.Operator.{operator}
use Rattle.ns_lex.specs.Symbol.{symbol, symbol_of, selector_len}
use Rattle.ns_lex.specs.Single.{single}
use Rattle.ns_lex.specs.declared.piece.Piece.{Piece}
use Rattle.ns_lex.specs.declared.piece.Piece.TheVariants.{Gap, Token, Fault}
use Rattle.ns_lex.specs.Gap.{BeginsNoGap}
use Rattle.ns_lex.specs.Lexes.{BeginsNoFault, IsFault}
use Rattle.ns_lex.specs.laws.Stands.{stands_spells}
use Rattle.ns_lex.specs.laws.Words.{IsToken, word_token}
use Rattle.ns_lex.specs.laws.Singles.{split, clash, single_token}
use Rattle.ns_lex.specs.lemmas.Numbers.{number_token, run}
use Rattle.ns_lex.specs.lemmas.Operators.{operator_token}
use Rattle.ns_lex.specs.lemmas.Strings.{string_token, at_quote}
use Rattle.ns_lex.specs.laws.Symbols.{symbol_token, at_mark}
use Rattle.ns_lex.specs.laws.Gaps.{IsPart, blank_part, remark_part, comment_part}
use Rattle.ns_lex.specs.declared.piece.Cause.{Cause}
use Rattle.ns_lex.specs.lemmas.Stops.{IsStop, remark_stop, comment_stop}
use Rattle.ns_lex.specs.lemmas.Refused.{number_fault, string_fault, symbol_fault, single_fault}
use Rattle.ns_lex.specs.lemmas.Faults.{is_comment, no_gap, no_fault, no_digits, number_digits, token_first, NoBadDigits, MarkStands, QuoteStands}

-- ---- pieces of a gap

-- neither a token nor a fault is a part of a gap
word_no_gap : (one two three : Bool) (n : ℕ) (z : Text) (m : ℕ) → word_by one two three n z ≡ Gap m → ⊥
word_no_gap true true true n z m f = absurd cc
word_no_gap true true false n z m f = absurd cc
word_no_gap true false three n z m f = absurd cc
word_no_gap false two three n z m f = absurd cc

sized_no_gap : (n : ℕ) (o : Option ℕ) (m : ℕ) → sized n o ≡ Gap m → ⊥
sized_no_gap n None m f = absurd cc
sized_no_gap n (Some v) m f = absurd cc

closed_no_gap : (o : Option (Text × ℕ)) (m : ℕ) → strings.closed o ≡ Gap m → ⊥
closed_no_gap None m f = absurd cc
closed_no_gap (Some p) m f = absurd cc

symbol_no_gap : (n : ℕ) (z : Text) (m : ℕ) → symbol_of n z ≡ Gap m → ⊥
symbol_no_gap n z m f = split (n == 0) _ _ _ f (λ e h. absurd cc) (λ e h. absurd cc)

at_word : (z : Text) (m : ℕ) → word z ≡ Gap m → ⊥
unfolding word
at_word z m f = word_no_gap (get_or z (name_len z) 0 == 58) (get_or z (name_len z + 1) 0 == 58) (get_or z (name_len z + 2) 0 == 61) (name_len z) z m f

at_number : (z : Text) (m : ℕ) → number z ≡ Gap m → ⊥
unfolding number
at_number z m f =
    split (begins_name (get_or z (run z) 0)) _ _ _ f (λ e f. absurd cc)
    (λ _ f. split (get_or z (run z) 0 == 46 && is_digit (get_or z (run z + 1) 0)) _ _ _ f (λ e f. absurd cc) (λ _ f. sized_no_gap (run z) (at_most_greatest (value (take (run z) z))) m f))

at_string : (z : Text) (m : ℕ) → quoted z ≡ Gap m → ⊥
unfolding quoted
at_string z m f = closed_no_gap (quoted_from false [] 1 (drop 1 z)) m f

at_symbol : (z : Text) (m : ℕ) → symbol z ≡ Gap m → ⊥
unfolding symbol
at_symbol z m f = symbol_no_gap (selector_len (drop 1 z)) (drop 1 z) m f

at_operator : (z : Text) (m : ℕ) → operator z ≡ Gap m → ⊥
unfolding operator
at_operator z m f = absurd cc

at_single : (z : Text) (m : ℕ) → single z ≡ Gap m → ⊥
unfolding single
at_single z m f =
    split (get_or z 0 0 == 40) _ _ _ f (λ e h. absurd cc)
    (λ _ f. split (get_or z 0 0 == 41) _ _ _ f (λ e h. absurd cc)
    (λ _ f. split (get_or z 0 0 == 91) _ _ _ f (λ e h. absurd cc)
    (λ _ f. split (get_or z 0 0 == 93) _ _ _ f (λ e h. absurd cc)
    (λ _ f. split (get_or z 0 0 == 123) _ _ _ f (λ e h. absurd cc)
    (λ _ f. split (get_or z 0 0 == 125) _ _ _ f (λ e h. absurd cc)
    (λ _ f. split (get_or z 0 0 == 46) _ _ _ f (λ e h. absurd cc)
    (λ _ f. split (get_or z 0 0 == 59) _ _ _ f (λ e h. absurd cc)
    (λ _ f. split (get_or z 0 0 == 94) _ _ _ f (λ e h. absurd cc)
    (λ _ f. split (get_or z 0 0 == 58) _ _ _ f (λ e f. split (get_or z 1 0 == 58 && get_or z 2 0 == 61) _ _ _ f (λ e h. absurd cc) (λ e h. absurd cc)) (λ _ h. absurd cc))))))))))

both_true : (x y : Bool) → (x && y) ≡ true → (x ≡ true) × (y ≡ true)
both_true true y h = (refl, h)
both_true false y h = absurd cc

comment_at : (b : ℕ) (y : Text) (n : ℕ) → is_comment (b ∷ y) ≡ true → comment (b ∷ y) ≡ Gap n → IsPart (b ∷ y) n
comment_at b [] n h f = let g = both_true (b == 40) (0 == 42) h in absurd (clash (0 == 42) refl g.1)
comment_at b (c ∷ y) n h f = let g = both_true (b == 40) (c == 42) h in comment_part b c y n (eqb-true b 40 g.0) (eqb-true c 42 g.1) f

-- A part of a gap is one.
pub next_gap : (b : ℕ) (y : Text) (n : ℕ) → next_piece (b ∷ y) ≡ Gap n → IsPart (b ∷ y) n
unfolding next_piece
next_gap b y n f =
    split (is_blank b) _ _ _ f (λ e h. blank_part b y n e h)
    (λ _ f. split (b == 34) _ _ _ f (λ e h. remark_part b y n (eqb-true b 34 e) h)
    (λ _ f. split (is_comment (b ∷ y)) _ _ _ f (λ e h. comment_at b y n e h)
    (λ _ f. split (begins_name b) _ _ _ f (λ e h. absurd (at_word (b ∷ y) n h))
    (λ _ f. split (is_digit b) _ _ _ f (λ e h. absurd (at_number (b ∷ y) n h))
    (λ _ f. split (b == 39) _ _ _ f (λ e h. absurd (at_string (b ∷ y) n h))
    (λ _ f. split (b == 35) _ _ _ f (λ e h. absurd (at_symbol (b ∷ y) n h))
    (λ _ f. split (is_operator_byte b) _ _ _ f (λ e h. absurd (at_operator (b ∷ y) n h))
    (λ _ h. absurd (at_single (b ∷ y) n h)))))))))

-- ---- tokens

-- The first n bytes are the next token, and no gap and no fault begins there.
pub record IsFirst (z : Text) (t : Kind) (n : ℕ) : Type 0 where
  pub token : IsToken z t n
  pub some : 0 < n
  pub gap : BeginsNoGap z
  pub fault : BeginsNoFault z

first_of : (b : ℕ) (y : Text) (t : Kind) (n : ℕ) → is_blank b ≡ false → (b == 34) ≡ false → is_comment (b ∷ y) ≡ false → NoBadDigits (b ∷ y) → (IsToken (b ∷ y) t n → MarkStands b y) → (IsToken (b ∷ y) t n → QuoteStands b y) → IsToken (b ∷ y) t n → IsFirst (b ∷ y) t n
first_of b y t n blank remark comment digits mark quote x =
    let first = token_first b y t n x in
    record { token = x; some = first.1; gap = no_gap b y blank remark comment; fault = no_fault b y t first.0 remark comment digits (mark x) (quote x) }

-- where the byte is no `#`, and where it is no quote
no_mark : (b : ℕ) (y : Text) (t : Kind) (n : ℕ) → (b == 35) ≡ false → IsToken (b ∷ y) t n → MarkStands b y
no_mark b y t n h x e = absurd (clash (b == 35) h (eq-eqb b 35 e))

no_quote : (b : ℕ) (y : Text) (t : Kind) (n : ℕ) → (b == 39) ≡ false → IsToken (b ∷ y) t n → QuoteStands b y
no_quote b y t n h x e = absurd (clash (b == 39) h (eq-eqb b 39 e))

-- where a token stands at them
mark_stands : (b : ℕ) (y : Text) (t : Kind) (n : ℕ) → IsToken (b ∷ y) t n → MarkStands b y
mark_stands b y t zero x e = absurd (omega (arith, (token_first b y t zero x).1))
mark_stands b y t (suc n) x e =
    at_mark b (take n y) t e (stands_spells (b ∷ take n y) (drop n y) t x.next.0)
    (λ s form same. (b ∷ take n y, drop n y, s, sym (take-append-drop (suc n) (b ∷ y)), (form, ap (λ c. c ∷ take n y) e ∙ ap (λ w. 35 ∷ w) same)))

quote_stands : (b : ℕ) (y : Text) (t : Kind) (n : ℕ) → IsToken (b ∷ y) t n → QuoteStands b y
quote_stands b y t zero x e = absurd (omega (arith, (token_first b y t zero x).1))
quote_stands b y t (suc n) x e =
    at_quote b (take n y) (drop n y) t e x.next.0 (λ s spelled ended. (b ∷ take n y, drop n y, s, sym (take-append-drop (suc n) (b ∷ y)), (spelled, ended)))

word_mark : (b : ℕ) → begins_name b ≡ true → (b == 35) ≡ false
word_mark b h = grind (arith, nat_tests)

word_quote : (b : ℕ) → begins_name b ≡ true → (b == 39) ≡ false
word_quote b h = grind (arith, nat_tests)

digit_mark : (b : ℕ) → is_digit b ≡ true → (b == 35) ≡ false
digit_mark b h = grind (arith, nat_tests)

digit_quote : (b : ℕ) → is_digit b ≡ true → (b == 39) ≡ false
digit_quote b h = grind (arith, nat_tests)

quote_digit : (b : ℕ) → b ≡ 39 → is_digit b ≡ false
quote_digit b e = ap is_digit e

quote_mark : (b : ℕ) → b ≡ 39 → (b == 35) ≡ false
quote_mark b e = ap (λ c. c == 35) e

word_digit : (b : ℕ) → begins_name b ≡ true → is_digit b ≡ false
word_digit b h = grind (arith, nat_tests)

no_token : {G : Type 0} (p : Piece) (t : Kind) (n : ℕ) → (p ≡ Token t n → ⊥) → p ≡ Token t n → G
no_token p t n h e = absurd (h e)

comment_no_token : (o : Option ℕ) (t : Kind) (n : ℕ) → comments.closed o ≡ Token t n → ⊥
comment_no_token None t n e = absurd cc
comment_no_token (Some m) t n e = absurd cc

at_comment : (z : Text) (t : Kind) (n : ℕ) → comment z ≡ Token t n → ⊥
unfolding comment
at_comment z t n e = comment_no_token _ t n e

at_remark : (z : Text) (t : Kind) (n : ℕ) → remark z ≡ Token t n → ⊥
unfolding remark
at_remark z t n e = split (get_or z (remark_len (drop 1 z) + 1) 0 == 34) _ _ _ e (λ _ f. absurd cc) (λ _ f. absurd cc)

-- A token is the next one.
pub next_token : (b : ℕ) (y : Text) (t : Kind) (n : ℕ) → next_piece (b ∷ y) ≡ Token t n → IsFirst (b ∷ y) t n
unfolding next_piece
next_token b y t n f =
    split (is_blank b) _ _ _ f (λ e h. absurd cc)
    (λ blank f. split (b == 34) _ _ _ f (λ e h. absurd (at_remark (b ∷ y) t n h))
    (λ remark f. split (is_comment (b ∷ y)) _ _ _ f (λ e h. absurd (at_comment (b ∷ y) t n h))
    (λ comment f. split (begins_name b) _ _ _ f
    (λ e h. first_of b y t n blank remark comment (no_digits b y (word_digit b e)) (no_mark b y t n (word_mark b e)) (no_quote b y t n (word_quote b e)) (word_token b y t n e h))
    (λ _ f. split (is_digit b) _ _ _ f
    (λ e h. first_of b y t n blank remark comment (number_digits b y t n h) (no_mark b y t n (digit_mark b e)) (no_quote b y t n (digit_quote b e)) (number_token b y t n e h))
    (λ digit f. split (b == 39) _ _ _ f
    (λ e h. first_of b y t n blank remark comment (no_digits b y digit) (no_mark b y t n (quote_mark b (eqb-true b 39 e))) (quote_stands b y t n) (string_token b y t n (eqb-true b 39 e) h))
    (λ quote f. split (b == 35) _ _ _ f
    (λ e h. first_of b y t n blank remark comment (no_digits b y digit) (mark_stands b y t n) (no_quote b y t n quote) (symbol_token b y t n (eqb-true b 35 e) h))
    (λ mark f. split (is_operator_byte b) _ _ _ f
    (λ e h. first_of b y t n blank remark comment (no_digits b y digit) (no_mark b y t n mark) (no_quote b y t n quote) (operator_token b y t n e h))
    (λ _ h. first_of b y t n blank remark comment (no_digits b y digit) (no_mark b y t n mark) (no_quote b y t n quote) (single_token b y t n h)))))))))

-- ---- faults

word_no_fault : (one two three : Bool) (n : ℕ) (z : Text) (c : Cause) (m : ℕ) → word_by one two three n z ≡ Fault c m → ⊥
word_no_fault true true true n z c m f = absurd cc
word_no_fault true true false n z c m f = absurd cc
word_no_fault true false three n z c m f = absurd cc
word_no_fault false two three n z c m f = absurd cc

word_holds : (z : Text) (c : Cause) (m : ℕ) → word z ≡ Fault c m → ⊥
unfolding word
word_holds z c m f = word_no_fault (get_or z (name_len z) 0 == 58) (get_or z (name_len z + 1) 0 == 58) (get_or z (name_len z + 2) 0 == 61) (name_len z) z c m f

operator_holds : (z : Text) (c : Cause) (m : ℕ) → operator z ≡ Fault c m → ⊥
unfolding operator
operator_holds z c m f = absurd cc

stop_of : (b : ℕ) (y : Text) (c : Cause) (n : ℕ) → is_blank b ≡ false → (b == 34) ≡ false → is_comment (b ∷ y) ≡ false → IsFault (b ∷ y) c n → IsStop (b ∷ y) c n
stop_of b y c n blank remark comment x = record { gap = no_gap b y blank remark comment; fault = x }

-- A fault is named where it stands.
pub next_fault : (b : ℕ) (y : Text) (c : Cause) (n : ℕ) → next_piece (b ∷ y) ≡ Fault c n → IsStop (b ∷ y) c n
unfolding next_piece
next_fault b y c n f =
    split (is_blank b) _ _ _ f (λ e h. absurd cc)
    (λ blank f. split (b == 34) _ _ _ f (λ e h. remark_stop b y c n (eqb-true b 34 e) h)
    (λ remark f. split (is_comment (b ∷ y)) _ _ _ f (λ e h. comment_stop b y c n e h)
    (λ comment f. split (begins_name b) _ _ _ f (λ e h. absurd (word_holds (b ∷ y) c n h))
    (λ name f. split (is_digit b) _ _ _ f (λ e h. stop_of b y c n blank remark comment (number_fault b y c n e h))
    (λ digit f. split (b == 39) _ _ _ f (λ e h. stop_of b y c n blank remark comment (string_fault b y c n (eqb-true b 39 e) h))
    (λ quote f. split (b == 35) _ _ _ f (λ e h. stop_of b y c n blank remark comment (symbol_fault b y c n (eqb-true b 35 e) h))
    (λ mark f. split (is_operator_byte b) _ _ _ f (λ e h. absurd (operator_holds (b ∷ y) c n h))
    (λ oper h. stop_of b y c n blank remark comment (single_fault b y c n (record { blank = blank; remark = remark; name = name; digit = digit; quote = quote; mark = mark; oper = oper }) h)))))))))
