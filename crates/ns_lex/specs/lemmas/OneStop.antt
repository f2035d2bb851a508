-- At most one fault stops a source.
use Rattle.std.proofs.Common.{◌≡◌, ℕ, ◌+◌, ◌≤◌, ◌⊎◌, inl, inr, Bool, true, false, ◌==◌, ◌&&◌, ◌||◌, if◌then◌else◌, List, [], ◌∷◌, ◌++◌, length, drop, get_or, refl, sym, ap, subst, ◌∙◌, arith}
use Rattle.std.proofs.Math.Seq.{drop-append_seam}
use Rattle.std.proofs.lemmas.Bool.{eqb-true, eq-eqb}
use Rattle.std.proofs.lemmas.Bool.Decides.{nat_tests}
use Rattle.std.specs.List.{prefix_len}
use Rattle.ns_base.specs.Spelling.{is_digit, begins_name}
use Rattle.ns_tree.specs.declared.token.Kind.TheVariants as k
use Rattle.ns_tree.specs.declared.token.Token.{Token}
use Rattle.ns_lex.specs.Number.{value, greatest}
use Rattle.ns_lex.specs.Piece.{Text}
use Rattle.ns_lex.specs.Lexes.{IsDigits, BeginsName, BeginsFraction, BeginsNothing, IsFault, Cuts, LexStops}
use Rattle.ns_lex.specs.declared.piece.Cause.{Cause}
use Rattle.ns_lex.specs.declared.piece.Cause.TheVariants as cause
use Rattle.ns_lex.specs.laws.Words.{run_all}
use Rattle.ns_lex.specs.lemmas.Faults.{run_ends, bad_no_digit}
use Rattle.ns_lex.specs.lemmas.OneCut.{gapped_cut, step_same, after_step}

-- ---- the fault that a text can only have

-- a letter stands first, or a full stop and a digit
abbrev ends_badly : Text → Bool
ends_badly q = begins_name (get_or q 0 0) || (get_or q 0 0 == 46 && is_digit (get_or q 1 0))

-- behind n digits
abbrev at_digits : ℕ → Text → Cause × ℕ
at_digits n q = if ends_badly q then (cause.BadByte, n) else (cause.BigNumber, 0)

abbrev digits : Text → ℕ
digits = prefix_len is_digit

-- whether the first byte is a digit, a quote, or begins a comment
abbrev fault_by : Bool → Bool → Bool → Text → Cause × ℕ
fault_by true quote comment z = at_digits (digits z) (drop (digits z) z)
fault_by false true comment z = (cause.UnclosedString, 0)
fault_by false false true z = (cause.UnclosedComment, 0)
fault_by false false false z = (cause.BadByte, 0)

abbrev fault_of : Text → Cause × ℕ
fault_of z = fault_by (is_digit (get_or z 0 0)) (get_or z 0 0 == 39) (get_or z 0 0 == 34 || get_or z 0 0 == 40) z

-- ---- at digits

first_digit : (d q : Text) → IsDigits d → is_digit (get_or (d ++ q) 0 0) ≡ true
first_digit [] q h = absurd (omega (arith, h.0))
first_digit (b ∷ d) q h = h.1.0

by_digits : (d q : Text) → IsDigits d → is_digit (get_or q 0 0) ≡ false → fault_of (d ++ q) ≡ at_digits (length d) q
by_digits d q h stop =
    let size : digits (d ++ q) ≡ length d = run_all is_digit d q h.1 ∙ ap (λ n. length d + n) (run_ends q stop) ∙ omega arith in
    ap (λ v. fault_by v (get_or (d ++ q) 0 0 == 39) (get_or (d ++ q) 0 0 == 34 || get_or (d ++ q) 0 0 == 40) (d ++ q)) (first_digit d q h)
    ∙ ap (λ n. at_digits n (drop n (d ++ q))) size ∙ ap (at_digits (length d)) (drop-append_seam d q)

bad_by : (x y w : Bool) → (x ≡ true) ⊎ ((y ≡ true) × (w ≡ true)) → (x || (y && w)) ≡ true
bad_by true y w h = refl
bad_by false y w (inl h) = absurd cc
bad_by false true w (inr h) = h.1
bad_by false false w (inr h) = absurd cc

good_by : (x y w : Bool) → (x ≡ true → ⊥) → (y ≡ true → w ≡ true → ⊥) → (x || (y && w)) ≡ false
good_by true y w h g = absurd (h refl)
good_by false true true h g = absurd (g refl refl)
good_by false true false h g = refl
good_by false false w h g = refl

bad_tests : (q : Text) → BeginsName q ⊎ BeginsFraction q → (begins_name (get_or q 0 0) ≡ true) ⊎ (((get_or q 0 0 == 46) ≡ true) × (is_digit (get_or q 1 0) ≡ true))
bad_tests q (inl h) = inl h
bad_tests q (inr h) = inr (eq-eqb (get_or q 0 0) 46 h.0, h.1)

is_bad : (q : Text) → BeginsName q ⊎ BeginsFraction q → ends_badly q ≡ true
is_bad q h = bad_by (begins_name (get_or q 0 0)) (get_or q 0 0 == 46) (is_digit (get_or q 1 0)) (bad_tests q h)

is_good : (q : Text) → (BeginsName q → ⊥) → (BeginsFraction q → ⊥) → ends_badly q ≡ false
is_good q name fraction = good_by (begins_name (get_or q 0 0)) (get_or q 0 0 == 46) (is_digit (get_or q 1 0)) name (λ e f. fraction (eqb-true (get_or q 0 0) 46 e, f))

-- ---- a byte that begins nothing

refused : (v : Bool) → (v ≡ true → ⊥) → v ≡ false
refused true h = absurd (h refl)
refused false h = refl

one_digit : (b : ℕ) → is_digit b ≡ true → value (b ∷ []) ≤ greatest
one_digit b h = grind (arith, nat_tests)

no_digit : (b : ℕ) → BeginsNothing b → is_digit b ≡ true → ⊥
no_digit b none h = none.0 [] (k.Number (value (b ∷ []))) (omega arith, (h, tt), refl, one_digit b h)

no_quote : (b : ℕ) → BeginsNothing b → (b == 39) ≡ true → ⊥
no_quote b none h = none.0 (39 ∷ []) (k.Str []) (ap (λ c. c ∷ 39 ∷ []) (eqb-true b 39 h))

no_comment : (b : ℕ) (remark bracket : Bool) → (b == 34) ≡ remark → (b == 40) ≡ bracket → BeginsNothing b → (remark || bracket) ≡ true → ⊥
no_comment b true bracket e f none h = none.1 (34 ∷ []) (inr (inr ([], tt, ap (λ c. c ∷ 34 ∷ []) (eqb-true b 34 e))))
no_comment b false true e f none h = none.0 [] k.Open (ap (λ c. c ∷ []) (eqb-true b 40 f))
no_comment b false false e f none h = cc

by_nothing : (b : ℕ) (q : Text) → BeginsNothing b → fault_of (b ∷ q) ≡ (cause.BadByte, 0)
by_nothing b q none =
    ap (λ v. fault_by v (b == 39) (b == 34 || b == 40) (b ∷ q)) (refused (is_digit b) (no_digit b none))
    ∙ ap (λ v. fault_by false v (b == 34 || b == 40) (b ∷ q)) (refused (b == 39) (no_quote b none))
    ∙ ap (λ v. fault_by false false v (b ∷ q)) (refused (b == 34 || b == 40) (no_comment b (b == 34) (b == 40) refl refl none))

-- ---- each fault

abbrev named : Cause → ℕ → Cause × ℕ
named c n = (c, n)

here : (c : Cause) (n m : ℕ) → n ≡ m → named c m ≡ named c n
here c n m e = ap (named c) (sym e)

fault_is : (z : Text) (c : Cause) (n : ℕ) → IsFault z c n → fault_of z ≡ named c n
fault_is z cause.BadByte n (inl (d, q, cut, h, bad, e)) =
    ap fault_of cut ∙ by_digits d q h (bad_no_digit q bad) ∙ ap (λ v. if v then (cause.BadByte, length d) else (cause.BigNumber, 0)) (is_bad q bad) ∙ here cause.BadByte n (length d) e
fault_is z cause.BadByte n (inr (inl (q, cut, none, e))) = ap fault_of cut ∙ here cause.BadByte n 0 e
fault_is z cause.BadByte n (inr (inr (b, q, cut, none, e))) = ap fault_of cut ∙ by_nothing b q none ∙ here cause.BadByte n 0 e
fault_is z cause.BigNumber n (d, q, cut, h, (stop, name, fraction), great, e) =
    ap fault_of cut ∙ by_digits d q h stop ∙ ap (λ v. if v then (cause.BadByte, length d) else (cause.BigNumber, 0)) (is_good q name fraction) ∙ here cause.BigNumber n 0 e
fault_is z cause.UnclosedComment n ((q, inl cut), e) = ap fault_of cut ∙ here cause.UnclosedComment n 0 e
fault_is z cause.UnclosedComment n ((q, inr cut), e) = ap fault_of cut ∙ here cause.UnclosedComment n 0 e
fault_is z cause.UnclosedString n ((q, cut), none, e) = ap fault_of cut ∙ here cause.UnclosedString n 0 e

-- ---- whole texts

-- where a text stops
record SameStop (rest other : Text) (n m : ℕ) : Type 0 where
  text : rest ≡ other
  place : n ≡ m

stops_same : (at : ℕ) (z : Text) (ts us : List Token) (b c : ℕ) (rest other : Text) (why cause : Cause) (n m : ℕ) → Cuts at z ts b rest → Cuts at z us c other → IsFault rest why n → IsFault other cause m → SameStop rest other b c
stops_same at z [] [] b c rest other why cause n m (g, x, place) (g', x', place') told told' =
    let y = gapped_cut z g g' rest other x x' in
    record { text = y.back; place = place ∙ ap (λ i. at + length i) y.front ∙ sym place' }
stops_same at z [] (u ∷ us) b c rest other why cause n m (g, x, place) (g', w, q, s', more') told told' = absurd (s'.fault why n (subst (λ y. IsFault y why n) (gapped_cut z g g' rest (w ++ q) x s'.front).back told))
stops_same at z (t ∷ ts) [] b c rest other why cause n m (g, w, q, s, more) (g', x', place') told told' =
    absurd (s.fault cause m (subst (λ y. IsFault y cause m) (sym (gapped_cut z g g' (w ++ q) other s.front x').back) told'))
stops_same at z (t ∷ ts) (u ∷ us) b c rest other why cause n m (g, w, q, s, more) (g', v, r, s', more') told told' =
    let x = step_same at at z g w q g' v r t u s s' in
    stops_same (at + length g + length w) q ts us b c rest other why cause n m more (after_step at g w q g' v r us c other x more') told told'

-- At most one fault stops a source.
pub one_stop : (source : Text) (n m : ℕ) (c d : Cause) → LexStops source n c → LexStops source m d → (n ≡ m) × (c ≡ d)
one_stop source n m c d (ts, at, rest, i, cuts, told, place) (us, to, other, j, cuts', told', place') =
    let x = stops_same 0 source ts us at to rest other c d i j cuts cuts' told told' in
    let e : named c i ≡ named d j = sym (fault_is rest c i told) ∙ ap fault_of x.text ∙ fault_is other d j told' in
    (place ∙ ap (λ a. a + i) x.place ∙ ap (λ p. to + p.1) e ∙ sym place', ap (λ p. p.0) e)
