-- The piece at a quote is the next token.
use Rattle.std.proofs.Common.{◌≡◌, ◌≢◌, ℕ, suc, ◌+◌, ◌≤◌, Bool, true, false, not, ◌==◌, cond, if◌then◌else◌, [], ◌∷◌, ◌++◌, length, take, drop, get_or, Option, Some, None, inr, refl, sym, ap, subst, ◌∙◌, append_assoc, length-append, arith}
use Rattle.std.proofs.Math.Seq.{take-append_seam, drop-append_seam}
use Rattle.std.proofs.lemmas.Bool.{eqb-true, eq-eqb}
use Rattle.std.proofs.lemmas.List.{append-nil, take-append-drop}
use Rattle.ns_tree.specs.declared.token.Kind.{Kind}
use Rattle.ns_tree.specs.declared.token.Kind.TheVariants as k
use Rattle.ns_lex.specs.Piece.{Text}
use Rattle.ns_lex.specs.Quoted.{quoted, quoted_from, closed}
use Rattle.ns_lex.specs.declared.piece.Piece.TheVariants.{Token}
use Rattle.ns_base.specs.Quoted.{doubled}
use Rattle.ns_base.specs.Spelling.{is_digit, begins_name, is_operator_byte}
use Rattle.ns_lex.specs.Lexes.{SpellsInText, Longest}
use Rattle.ns_lex.specs.laws.Words.{IsToken, moved, length_taken}
use Rattle.ns_lex.specs.laws.Singles.{no_name, no_operator, first_not, same_first, no_slot_set, clash}

-- ---- what the machine says

-- what is read of a string of that tail, behind an unpaired quote or not
abbrev Reads : Bool → Text → Text → Type 0
Reads false tail u = u ≡ doubled tail ++ 39 ∷ []
Reads true tail u = 39 ∷ u ≡ doubled tail ++ 39 ∷ []

record Says (after : Bool) (held : Text) (at : ℕ) (y : Text) (p : Text × ℕ) : Type 0 where
  tail : Text
  text : Text
  rest : Text
  cut : y ≡ text ++ rest
  place : p.1 ≡ at + length text
  whole : p.0 ≡ held ++ tail
  reads : Reads after tail text
  ended : get_or rest 0 0 ≢ 39

same : {A : Type 0} (p q : A) → Some p ≡ Some q → p ≡ q
same p q e = cc

-- a string that ended at the quote before
ends_here : (held : Text) (at : ℕ) (y : Text) (p : Text × ℕ) → get_or y 0 0 ≢ 39 → p.0 ≡ held → p.1 ≡ at → Says true held at y p
ends_here held at y p other e f = record { tail = []; text = []; rest = y; cut = refl; place = omega (arith, f); whole = e ∙ sym (append-nil held); reads = refl; ended = other }

-- one byte more, which the string holds
one_held : (held : Text) (at : ℕ) (b : ℕ) (y : Text) (p : Text × ℕ) → (b == 39) ≡ false → Says false (held ++ b ∷ []) (at + 1) y p → Says false held at (b ∷ y) p
one_held held at b y p other x = record {
  tail = b ∷ x.tail;
  text = b ∷ x.text;
  rest = x.rest;
  cut = ap (λ w. b ∷ w) x.cut;
  place = omega (arith, x.place);
  whole = x.whole ∙ append_assoc held (b ∷ []) x.tail;
  reads = ap (λ w. b ∷ w) x.reads ∙ sym (ap (λ v. cond v (39 ∷ 39 ∷ doubled x.tail) (b ∷ doubled x.tail) ++ 39 ∷ []) other);
  ended = x.ended;
}

-- a quote, behind which it is asked
one_quote : (held : Text) (at : ℕ) (y : Text) (p : Text × ℕ) → Says true held (at + 1) y p → Says false held at (39 ∷ y) p
one_quote held at y p x = record { tail = x.tail; text = 39 ∷ x.text; rest = x.rest; cut = ap (λ w. 39 ∷ w) x.cut; place = omega (arith, x.place); whole = x.whole; reads = x.reads; ended = x.ended }

-- a second quote
two_quotes : (held : Text) (at : ℕ) (y : Text) (p : Text × ℕ) → Says false (held ++ 39 ∷ []) (at + 1) y p → Says true held at (39 ∷ y) p
two_quotes held at y p x = record {
  tail = 39 ∷ x.tail;
  text = 39 ∷ x.text;
  rest = x.rest;
  cut = ap (λ w. 39 ∷ w) x.cut;
  place = omega (arith, x.place);
  whole = x.whole ∙ append_assoc held (39 ∷ []) x.tail;
  reads = ap (λ w. 39 ∷ 39 ∷ w) x.reads;
  ended = x.ended;
}

differs : (b : ℕ) → (b == 39) ≡ false → b ≢ 39
differs b h e = let f : (b == 39) ≡ true = eq-eqb b 39 e in cc

says_false : (held : Text) (at b : ℕ) (y : Text) (p : Text × ℕ) (quote : Bool) → (b == 39) ≡ quote → (quoted_from true held (at + 1) y ≡ Some p → Says true held (at + 1) y p)
    → (quoted_from false (held ++ b ∷ []) (at + 1) y ≡ Some p → Says false (held ++ b ∷ []) (at + 1) y p)
    → (if quote then quoted_from true held (at + 1) y else quoted_from false (held ++ b ∷ []) (at + 1) y) ≡ Some p → Says false held at (b ∷ y) p
says_false held at b y p true h quoted plain e = subst (λ c. Says false held at (c ∷ y) p) (sym (eqb-true b 39 h)) (one_quote held at y p (quoted e))
says_false held at b y p false h quoted plain e = one_held held at b y p h (plain e)

says_true : (held : Text) (at b : ℕ) (y : Text) (p : Text × ℕ) (quote : Bool) → (b == 39) ≡ quote
    → (quoted_from false (held ++ b ∷ []) (at + 1) y ≡ Some p → Says false (held ++ b ∷ []) (at + 1) y p)
    → (if quote then quoted_from false (held ++ b ∷ []) (at + 1) y else Some (held, at)) ≡ Some p → Says true held at (b ∷ y) p
says_true held at b y p true h plain e =
    subst (λ c. Says true held at (c ∷ y) p) (sym (eqb-true b 39 h)) (two_quotes held at y p (subst (λ c. Says false (held ++ c ∷ []) (at + 1) y p) (eqb-true b 39 h) (plain e)))
says_true held at b y p false h plain e = let f = same (held, at) p e in ends_here held at (b ∷ y) p (differs b h) (sym (ap (λ x. x.0) f)) (sym (ap (λ x. x.1) f))

says : (after : Bool) (held : Text) (at : ℕ) (y : Text) (p : Text × ℕ) → quoted_from after held at y ≡ Some p → Says after held at y p
says false held at [] p e = absurd cc
says true held at [] p e = let f = same (held, at) p e in ends_here held at [] p (λ z. absurd cc) (sym (ap (λ x. x.0) f)) (sym (ap (λ x. x.1) f))
says false held at (b ∷ y) p e = says_false held at b y p (b == 39) refl (says true held (at + 1) y p) (says false (held ++ b ∷ []) (at + 1) y p) e
says true held at (b ∷ y) p e = says_true held at b y p (b == 39) refl (says false (held ++ b ∷ []) (at + 1) y p) e

-- ---- what it finds

abbrev pub found : Text → ℕ → Option (Text × ℕ)
found s n = Some (s, n)

stops_by : (held : Text) (at b : ℕ) (r : Text) (quote : Bool) → (b == 39) ≡ quote → b ≢ 39 → (if quote then quoted_from false (held ++ b ∷ []) (at + 1) r else found held at) ≡ found held at
stops_by held at b r true h other = absurd (other (eqb-true b 39 h))
stops_by held at b r false h other = refl

stops_true : (held : Text) (at : ℕ) (r : Text) → get_or r 0 0 ≢ 39 → quoted_from true held at r ≡ found held at
stops_true held at [] other = refl
stops_true held at (b ∷ r) other = stops_by held at b r (b == 39) refl other

-- the answer at a string of that tail
abbrev pub answer : Text → ℕ → Text → Option (Text × ℕ)
answer held at tail = found (held ++ tail) (at + length (doubled tail) + 1)

held_more : (held tail : Text) (b n m : ℕ) → n ≡ m → found ((held ++ b ∷ []) ++ tail) n ≡ found (held ++ b ∷ tail) m
held_more held tail b n m e = ap (λ w. found w n) (append_assoc held (b ∷ []) tail) ∙ ap (found (held ++ b ∷ tail)) e

finds_by : (held : Text) (at b : ℕ) (tail r : Text) (quote : Bool) → (b == 39) ≡ quote
    → quoted_from false (held ++ 39 ∷ []) (at + 2) (doubled tail ++ 39 ∷ r) ≡ answer (held ++ 39 ∷ []) (at + 2) tail
    → quoted_from false (held ++ b ∷ []) (at + 1) (doubled tail ++ 39 ∷ r) ≡ answer (held ++ b ∷ []) (at + 1) tail
    → quoted_from false held at (cond quote (39 ∷ 39 ∷ doubled tail) (b ∷ doubled tail) ++ 39 ∷ r) ≡ found (held ++ b ∷ tail) (at + length (cond quote (39 ∷ 39 ∷ doubled tail) (b ∷ doubled tail)) + 1)
finds_by held at b tail r true h two one =
    let e : at + 1 + 1 ≡ at + 2 = omega arith in
    ap (λ i. quoted_from false (held ++ 39 ∷ []) i (doubled tail ++ 39 ∷ r)) e ∙ two
    ∙ held_more held tail 39 (at + 2 + length (doubled tail) + 1) (at + length (39 ∷ 39 ∷ doubled tail) + 1) (omega arith)
    ∙ ap (λ c. found (held ++ c ∷ tail) (at + length (39 ∷ 39 ∷ doubled tail) + 1)) (sym (eqb-true b 39 h))
finds_by held at b tail r false h two one =
    ap (λ v. if v then quoted_from true held (at + 1) (doubled tail ++ 39 ∷ r) else quoted_from false (held ++ b ∷ []) (at + 1) (doubled tail ++ 39 ∷ r)) h ∙ one
    ∙ held_more held tail b (at + 1 + length (doubled tail) + 1) (at + length (b ∷ doubled tail) + 1) (omega arith)

-- The machine finds each string that stands.
pub finds : (held : Text) (at : ℕ) (tail r : Text) → get_or r 0 0 ≢ 39 → quoted_from false held at (doubled tail ++ 39 ∷ r) ≡ answer held at tail
finds held at [] r other = stops_true held (at + 1) r other ∙ ap (λ w. found w (at + 1)) (sym (append-nil held)) ∙ ap (found (held ++ [])) (omega arith)
finds held at (b ∷ tail) r other = finds_by held at b tail r (b == 39) refl (finds (held ++ 39 ∷ []) (at + 2) tail r other) (finds (held ++ b ∷ []) (at + 1) tail r other)

-- ---- tokens

pub is_other : ℕ → Bool
is_other b = not (b == 39)

-- what stands at a quote is a string
pub at_quote : {G : Type 0} (b : ℕ) (p r : Text) (t : Kind) → b ≡ 39 → SpellsInText (b ∷ p) r t → ((s : Text) → b ∷ p ≡ 39 ∷ (doubled s ++ 39 ∷ []) → get_or r 0 0 ≢ 39 → G) → G
unfolding is_other
at_quote b p r (k.Ident s) h (name, e, f) go = absurd (no_name b p s [] (ap begins_name h) name (e ∙ sym (append-nil s)))
at_quote b p r (k.Word w) h (name, f) go = absurd (no_name b p (b ∷ p) [] (ap begins_name h) name (sym (append-nil (b ∷ p))))
at_quote b p r (k.Key s) h ((m, name, cut), e) go = absurd (no_name b p m (58 ∷ []) (ap begins_name h) name (e ∙ cut))
at_quote b p r (k.SetKey s) h (name, e) go = absurd (no_name b p s (58 ∷ 58 ∷ []) (ap begins_name h) name e)
at_quote b p r (k.Oper s) h (o, e) go = absurd (no_operator b p s (ap is_operator_byte h) o e)
at_quote b p r (k.Number v) h x go = absurd (clash (is_digit b) (ap is_digit h) x.1.0)
at_quote b p r (k.Str s) h x go = go s x.0 x.1
at_quote b p r (k.Symbol s) h x go = absurd (first_not is_other b 35 p s (ap is_other h) refl x.1)
at_quote b p r _ h x go = absurd (first_not is_other b _ p _ (ap is_other h) refl x)

-- a string that stands is the one that is found
found_length : (b : ℕ) (y : Text) (q : Text × ℕ) → quoted_from false [] 1 y ≡ Some q → (c : ℕ) (p r s : Text) → b ∷ y ≡ c ∷ (p ++ r) → c ∷ p ≡ 39 ∷ (doubled s ++ 39 ∷ []) → get_or r 0 0 ≢ 39 → length (c ∷ p) ≤ q.1
found_length b y q e c p r s cut spelled other =
    let rest : y ≡ p ++ r = cc in
    let held : p ≡ doubled s ++ 39 ∷ [] = cc in
    let all : y ≡ doubled s ++ 39 ∷ r = rest ∙ ap (λ w. w ++ r) held ∙ append_assoc (doubled s) (39 ∷ []) r in
    let answers : found s (1 + length (doubled s) + 1) ≡ Some q = sym (finds [] 1 s r other) ∙ ap (quoted_from false [] 1) (sym all) ∙ e in
    let size : 1 + length (doubled s) + 1 ≡ q.1 = ap (λ x. x.1) (same (s, 1 + length (doubled s) + 1) q answers) in
    omega (arith, size, ap length held, length-append (doubled s) (39 ∷ []))

-- the string is the longest token
longest_string : (b : ℕ) (y : Text) (q : Text × ℕ) → b ≡ 39 → quoted_from false [] 1 y ≡ Some q → (p r : Text) (t : Kind) → b ∷ y ≡ p ++ r → SpellsInText p r t → length p ≤ q.1
longest_string b y q h e [] r t cut x = omega arith
longest_string b y q h e (c ∷ p) r t cut x =
    let same_byte : b ≡ c = same_first b c y (p ++ r) cut in
    at_quote c p r t (sym same_byte ∙ h) x (λ s spelled other. found_length b y q e c p r s cut spelled other)

-- the longest of a text, for the text that is cut off
longest_of : (z : Text) (n : ℕ) → n ≤ length z → ((p r : Text) (t : Kind) → z ≡ p ++ r → SpellsInText p r t → length p ≤ n) → Longest (take n z) (drop n z)
longest_of z n fits none p r t cut x =
    let short : length p ≤ n = none p r t (sym (take-append-drop n z) ∙ cut) x in
    omega (arith, length_taken z n fits)

-- a string's text, where its machine says so
string_at : (b : ℕ) (y : Text) (q : Text × ℕ) → b ≡ 39 → quoted_from false [] 1 y ≡ Some q → Says false [] 1 y q → IsToken (b ∷ y) (k.Str q.0) q.1
string_at b y q h e x =
    let size : q.1 ≡ 1 + length x.text = x.place in
    let steps : q.1 ≡ suc (length x.text) = omega (arith, size) in
    let fits : q.1 ≤ length (b ∷ y) = omega (arith, size, ap length x.cut, length-append x.text x.rest) in
    let front : take q.1 (b ∷ y) ≡ b ∷ x.text = ap (λ n. take n (b ∷ y)) steps ∙ ap (λ w. b ∷ w) (ap (take (length x.text)) x.cut ∙ take-append_seam x.text x.rest) in
    let behind : drop q.1 (b ∷ y) ≡ x.rest = ap (λ n. drop n (b ∷ y)) steps ∙ ap (drop (length x.text)) x.cut ∙ drop-append_seam x.text x.rest in
    let spelled : b ∷ x.text ≡ 39 ∷ (doubled q.0 ++ 39 ∷ []) = ap (λ c. c ∷ x.text) h ∙ ap (λ w. 39 ∷ w) (x.reads ∙ ap (λ s. doubled s ++ 39 ∷ []) (sym x.whole)) in
    record {
      size = fits;
      next = (
        (front ∙ spelled, λ f. x.ended (ap (λ w. get_or w 0 0) (sym behind) ∙ f)),
        inr (longest_of (b ∷ y) q.1 fits (longest_string b y q h e), no_slot_set b y q.1 (ap begins_name h)),
      );
    }

closed_by : (b : ℕ) (y : Text) (o : Option (Text × ℕ)) (t : Kind) (m : ℕ) → b ≡ 39 → quoted_from false [] 1 y ≡ o → closed o ≡ Token t m → IsToken (b ∷ y) t m
closed_by b y None t m h e f = absurd cc
closed_by b y (Some q) t m h e f = moved (b ∷ y) (k.Str q.0) t q.1 m f (string_at b y q h e (says false [] 1 y q e))

-- The piece at a quote is the next token.
pub string_token : (b : ℕ) (y : Text) (t : Kind) (m : ℕ) → b ≡ 39 → quoted (b ∷ y) ≡ Token t m → IsToken (b ∷ y) t m
unfolding quoted
string_token b y t m h f = closed_by b y (quoted_from false [] 1 y) t m h refl f
