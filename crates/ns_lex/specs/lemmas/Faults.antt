-- Where a token stands, no gap begins and no fault is named.
use Rattle.std.proofs.Common.{◌≡◌, ℕ, zero, suc, ◌+◌, ◌<◌, ◌⊎◌, inl, inr, Bool, true, false, ◌==◌, ◌&&◌, cond, [], ◌∷◌, ◌++◌, length, take, drop, get_or, refl, ap, subst, ◌∙◌, arith}
use Rattle.std.proofs.Math.Seq.{take-append_seam}
use Rattle.std.proofs.lemmas.Bool.{eq-eqb}
use Rattle.std.proofs.lemmas.Bool.Decides.{nat_tests}
use Rattle.std.specs.List.{prefix_len}
use Rattle.ns_base.specs.Spelling.{is_digit, begins_name}
use Rattle.ns_tree.specs.declared.token.Kind.{Kind}
use Rattle.ns_tree.specs.declared.token.Kind.TheVariants as k
use Rattle.ns_lex.specs.Bytes.{is_blank}
use Rattle.ns_lex.specs.Piece.{Text}
use Rattle.ns_lex.specs.Number.{number, value, greatest}
use Rattle.ns_lex.specs.declared.piece.Cause.TheVariants as cause
use Rattle.ns_lex.specs.declared.piece.Piece.TheVariants.{Token}
use Rattle.ns_lex.specs.Spells.{IsIdentifierText, IsOperator, SpellsToken}
use Rattle.ns_lex.specs.Gap.{BeginsNoGap}
use Rattle.ns_lex.specs.Lexes.{SpellsInText, IsDigits, BeginsName, BeginsFraction, BeginsNoFault}
use Rattle.ns_lex.specs.laws.Stands.{stands_spells}
use Rattle.ns_lex.specs.laws.Words.{IsToken, run_all, at_end}
use Rattle.ns_lex.specs.laws.Singles.{clash, same_first}
use Rattle.ns_lex.specs.lemmas.Numbers.{run, number_says}

-- ---- gaps

-- an opening mark stands first
abbrev pub is_comment : Text → Bool
is_comment z = get_or z 0 0 == 40 && get_or z 1 0 == 42

abbrev is_remark : Text → Bool
is_remark z = get_or z 0 0 == 34

pub no_gap : (b : ℕ) (y : Text) → is_blank b ≡ false → (b == 34) ≡ false → is_comment (b ∷ y) ≡ false → BeginsNoGap (b ∷ y)
no_gap b y blank remark comment p q cut (inl (c, h, e)) = clash (is_blank b) blank (ap is_blank (same_first b c y q (cut ∙ ap (λ w. w ++ q) e)) ∙ h)
no_gap b y blank remark comment p q cut (inr (inl (i, m, e))) = clash (is_comment (b ∷ y)) comment (ap is_comment (cut ∙ ap (λ w. w ++ q) e))
no_gap b y blank remark comment p q cut (inr (inr (s, h, e))) = clash (is_remark (b ∷ y)) remark (ap is_remark (cut ∙ ap (λ w. w ++ q) e))

-- ---- a token has a byte

no_empty_name : (s : Text) → IsIdentifierText s → [] ≡ s → ⊥
no_empty_name [] h e = h
no_empty_name (b ∷ s) h e = absurd cc

no_empty_operator : (s : Text) → IsOperator s → [] ≡ s → ⊥
no_empty_operator [] (inl o) e = absurd (omega (arith, o.0))
no_empty_operator [] (inr o) e = absurd cc
no_empty_operator (b ∷ s) o e = absurd cc

no_empty_end : (n : Text) (c : ℕ) (u : Text) → [] ≡ n ++ c ∷ u → ⊥
no_empty_end [] c u e = absurd cc
no_empty_end (b ∷ n) c u e = absurd cc

pub no_empty : (t : Kind) → SpellsToken [] t → ⊥
no_empty (k.Ident s) (n, e, r) = no_empty_name s n e
no_empty (k.Word w) (n, r) = n
no_empty (k.Key s) ((n, name, cut), e) = no_empty_end n 58 [] (e ∙ cut)
no_empty (k.SetKey s) (name, e) = no_empty_end s 58 (58 ∷ []) e
no_empty (k.Oper s) (o, e) = no_empty_operator s o e
no_empty (k.Number v) x = absurd (omega (arith, x.0))
no_empty (k.Str s) x = absurd cc
no_empty (k.Symbol s) x = let f : [] ≡ 35 ∷ s = x.1 in absurd cc
no_empty _ x = absurd cc

-- the byte that a token begins with
pub token_first : (b : ℕ) (y : Text) (t : Kind) (m : ℕ) → IsToken (b ∷ y) t m → ((u : Text) × SpellsToken (b ∷ u) t) × (0 < m)
token_first b y t zero x = absurd (no_empty t (stands_spells [] (b ∷ y) t x.next.0))
token_first b y t (suc m) x = ((take m y, stands_spells (b ∷ take m y) (drop m y) t x.next.0), omega arith)

-- ---- faults

-- A run of digits is no fault.
abbrev pub NoBadDigits : Text → Type 0
NoBadDigits z = (d q : Text) → z ≡ d ++ q → IsDigits d → ((BeginsName q ⊎ BeginsFraction q) → ⊥) × ((is_digit (get_or q 0 0) ≡ false) → greatest < value d → ⊥)

pub no_digits : (b : ℕ) (y : Text) → is_digit b ≡ false → NoBadDigits (b ∷ y)
no_digits b y h [] q cut (some, all) = absurd (omega (arith, some))
no_digits b y h (c ∷ d) q cut (some, all) = absurd (clash (is_digit b) h (ap is_digit (same_first b c y (d ++ q) cut) ∙ all.0))

name_no_digit : (b : ℕ) → begins_name b ≡ true → is_digit b ≡ false
name_no_digit b h = grind (arith, nat_tests)

stop_no_digit : (b : ℕ) → b ≡ 46 → is_digit b ≡ false
stop_no_digit b e = ap is_digit e

pub run_ends : (q : Text) → is_digit (get_or q 0 0) ≡ false → prefix_len is_digit q ≡ 0
run_ends [] h = refl
run_ends (c ∷ q) h = ap (λ v. cond v (1 + prefix_len is_digit q) 0) h

pub bad_no_digit : (q : Text) → BeginsName q ⊎ BeginsFraction q → is_digit (get_or q 0 0) ≡ false
bad_no_digit q (inl h) = name_no_digit (get_or q 0 0) h
bad_no_digit q (inr h) = stop_no_digit (get_or q 0 0) h.0

-- the run of the digits is all of them
digits_run : (b : ℕ) (y d q : Text) → b ∷ y ≡ d ++ q → IsDigits d → is_digit (get_or q 0 0) ≡ false → run (b ∷ y) ≡ length d
digits_run b y d q cut (some, all) stop = ap (prefix_len is_digit) cut ∙ run_all is_digit d q all ∙ ap (λ n. length d + n) (run_ends q stop) ∙ omega arith

byte_behind : (b : ℕ) (y d q : Text) (n i : ℕ) → b ∷ y ≡ d ++ q → n ≡ length d → get_or (b ∷ y) (n + i) 0 ≡ get_or q i 0
byte_behind b y d q n i cut e = ap (λ z. get_or z (n + i) 0) cut ∙ ap (λ j. get_or (d ++ q) (j + i) 0) e ∙ at_end d q i

no_bad_end : (b : ℕ) (y d q : Text) (t : Kind) (m : ℕ) → number (b ∷ y) ≡ Token t m → b ∷ y ≡ d ++ q → run (b ∷ y) ≡ length d → BeginsName q ⊎ BeginsFraction q → ⊥
no_bad_end b y d q t m f cut size (inl h) =
    let says = number_says b y t m f in
    let zero_more : run (b ∷ y) ≡ run (b ∷ y) + 0 = omega arith in
    clash (begins_name (get_or (b ∷ y) (run (b ∷ y)) 0)) says.0 (ap (λ i. begins_name (get_or (b ∷ y) i 0)) zero_more ∙ ap begins_name (byte_behind b y d q (run (b ∷ y)) 0 cut size) ∙ h)
no_bad_end b y d q t m f cut size (inr h) =
    let says = number_says b y t m f in
    let zero_more : run (b ∷ y) ≡ run (b ∷ y) + 0 = omega arith in
    let first : get_or (b ∷ y) (run (b ∷ y)) 0 ≡ 46 = ap (λ i. get_or (b ∷ y) i 0) zero_more ∙ byte_behind b y d q (run (b ∷ y)) 0 cut size ∙ h.0 in
    let second : is_digit (get_or (b ∷ y) (run (b ∷ y) + 1) 0) ≡ true = ap is_digit (byte_behind b y d q (run (b ∷ y)) 1 cut size) ∙ h.1 in
    clash (get_or (b ∷ y) (run (b ∷ y)) 0 == 46 && is_digit (get_or (b ∷ y) (run (b ∷ y) + 1) 0)) says.1 (ap (λ v. v && is_digit (get_or (b ∷ y) (run (b ∷ y) + 1) 0)) (eq-eqb (get_or (b ∷ y) (run (b ∷ y)) 0) 46 first) ∙ second)

-- A number that is read has no fault.
pub number_digits : (b : ℕ) (y : Text) (t : Kind) (m : ℕ) → number (b ∷ y) ≡ Token t m → NoBadDigits (b ∷ y)
number_digits b y t m f d q cut digits = (
  λ bad. no_bad_end b y d q t m f cut (digits_run b y d q cut digits (bad_no_digit q bad)) bad,
  λ stop big.
      let size : run (b ∷ y) ≡ length d = digits_run b y d q cut digits stop in
      let whole : take (run (b ∷ y)) (b ∷ y) ≡ d = ap (λ i. take i (b ∷ y)) size ∙ ap (take (length d)) cut ∙ take-append_seam d q in
      absurd (omega (arith, (number_says b y t m f).2, ap value whole, big)),
)

-- `#` and quotes begin tokens that stand
abbrev pub MarkStands : ℕ → Text → Type 0
MarkStands b y = b ≡ 35 → (p r s : Text) × (b ∷ y ≡ p ++ r) × SpellsToken p (k.Symbol s)

abbrev pub QuoteStands : ℕ → Text → Type 0
QuoteStands b y = b ≡ 39 → (p r s : Text) × (b ∷ y ≡ p ++ r) × SpellsInText p r (k.Str s)

by_mark : (b : ℕ) (y : Text) (x : (p r s : Text) × (b ∷ y ≡ p ++ r) × SpellsToken p (k.Symbol s)) → ((p r s : Text) → b ∷ y ≡ p ++ r → SpellsToken p (k.Symbol s) → ⊥) → ⊥
by_mark b y (p, r, s, cut, x) none = none p r s cut x

by_quote : (b : ℕ) (y : Text) (x : (p r s : Text) × (b ∷ y ≡ p ++ r) × SpellsInText p r (k.Str s)) → ((p r s : Text) → b ∷ y ≡ p ++ r → SpellsInText p r (k.Str s) → ⊥) → ⊥
by_quote b y (p, r, s, cut, x) none = none p r s cut x

-- No fault is named where a token stands.
pub no_fault : (b : ℕ) (y : Text) (t : Kind) → ((u : Text) × SpellsToken (b ∷ u) t) → (b == 34) ≡ false → is_comment (b ∷ y) ≡ false → NoBadDigits (b ∷ y) → MarkStands b y → QuoteStands b y → BeginsNoFault (b ∷ y)
no_fault b y t spelled remark comment digits mark quote cause.BadByte n (inl (d, q, cut, h, bad, e)) = (digits d q cut h).0 bad
no_fault b y t spelled remark comment digits mark quote cause.BadByte n (inr (inl (q, cut, none, e))) = by_mark b y (mark (same_first b 35 y q cut)) none
no_fault b y t spelled remark comment digits mark quote cause.BadByte n (inr (inr (c, q, cut, nothing, e))) = nothing.0 spelled.0 t (subst (λ i. SpellsToken (i ∷ spelled.0) t) (same_first b c y q cut) spelled.1)
no_fault b y t spelled remark comment digits mark quote cause.BigNumber n (d, q, cut, h, (stop, name, fraction), big, e) = (digits d q cut h).1 stop big
no_fault b y t spelled remark comment digits mark quote cause.UnclosedComment n ((q, inl e), f) = clash (is_comment (b ∷ y)) comment (ap is_comment e)
no_fault b y t spelled remark comment digits mark quote cause.UnclosedComment n ((q, inr e), f) = clash (is_remark (b ∷ y)) remark (ap is_remark e)
no_fault b y t spelled remark comment digits mark quote cause.UnclosedString n ((q, cut), none, e) = by_quote b y (quote (same_first b 39 y q cut)) none
