-- A text begins with one gap at most that nothing makes longer.
use Rattle.std.proofs.Common.{◌≡◌, ℕ, inl, inr, List, [], ◌∷◌, ◌++◌, length, Bool, true, false, not, ◌==◌, refl, sym, ap, ◌∙◌, arith, append_assoc}
use Rattle.ns_lex.specs.Bytes.{is_blank}
use Rattle.ns_lex.specs.Piece.{Text}
use Rattle.ns_lex.specs.Gap.{Inside, closes, byte, nested, inside, BeginsMark, Marked, IsGapPart, IsGapOf, IsGap, BeginsNoGap}
use Rattle.ns_lex.specs.Spells.{AllOf}

-- ---- texts

-- two ways to cut one text are the same
pub record Same (a b c d : Text) : Type 0 where
  pub front : a ≡ c
  pub back : b ≡ d

more_same : (x y : ℕ) (a b c d : Text) → x ≡ y → Same a b c d → Same (x ∷ a) b (y ∷ c) d
more_same x y a b c d e s = record { front = ap (λ z. z ∷ a) e ∙ ap (λ w. y ∷ w) s.front; back = s.back }

head_same : (x y : ℕ) (a b : Text) → x ∷ a ≡ y ∷ b → x ≡ y
head_same x y a b e = cc

tail_same : (x y : ℕ) (a b : Text) → x ∷ a ≡ y ∷ b → a ≡ b
tail_same x y a b e = cc

-- at the same length
pub equal_cut : (a b c d : Text) → a ++ b ≡ c ++ d → length a ≡ length c → Same a b c d
equal_cut [] b [] d e h = record { front = refl; back = e }
equal_cut [] b (y ∷ c) d e h = absurd (omega (arith, h))
equal_cut (x ∷ a) b [] d e h = absurd (omega (arith, h))
equal_cut (x ∷ a) b (y ∷ c) d e h = more_same x y a b c d (head_same x y (a ++ b) (c ++ d) e) (equal_cut a b c d (tail_same x y (a ++ b) (c ++ d) e) (omega (arith, h)))

-- before a byte that fails a test that all before it pass
pub run_cut : (p : ℕ → Bool) (z : ℕ) (a b c d : Text) → p z ≡ false → AllOf p a → AllOf p c → a ++ z ∷ b ≡ c ++ z ∷ d → Same a b c d
run_cut p z [] b [] d f ha hc e = record { front = refl; back = tail_same z z b d e }
run_cut p z [] b (y ∷ c) d f ha hc e = let n : false ≡ true = sym f ∙ ap p (head_same z y b (c ++ z ∷ d) e) ∙ hc.0 in absurd cc
run_cut p z (x ∷ a) b [] d f ha hc e = let n : false ≡ true = sym f ∙ ap p (sym (head_same x z (a ++ z ∷ b) d e)) ∙ ha.0 in absurd cc
run_cut p z (x ∷ a) b (y ∷ c) d f ha hc e =
    more_same x y a b c d (head_same x y (a ++ z ∷ b) (c ++ z ∷ d) e) (run_cut p z a b c d f ha.1 hc.1 (tail_same x y (a ++ z ∷ b) (c ++ z ∷ d) e))

-- ---- comments

-- what stands in a comment begins with this byte
second : (i : Inside) (b : ℕ) (q r : Text) → inside i ++ q ≡ b ∷ r → (t : Text) × (inside i ≡ b ∷ t)
second closes b q r e = (41 ∷ [], ap (λ c. c ∷ 41 ∷ []) (head_same 42 b (41 ∷ q) r e))
second (byte c i) b q r e = (inside i, ap (λ d. d ∷ inside i) (head_same c b (inside i ++ q) r e))
second (nested j i) b q r e = (42 ∷ (inside j ++ inside i), ap (λ c. c ∷ 42 ∷ (inside j ++ inside i)) (head_same 40 b (42 ∷ ((inside j ++ inside i) ++ q)) r e))

-- a mark begins at this byte
closing : (b : ℕ) (i : Inside) (q r : Text) → 42 ≡ b → inside i ++ q ≡ 41 ∷ r → BeginsMark (b ∷ inside i)
closing b i q r e f = let x = second i 41 q r f in (x.0, inr (ap (λ c. c ∷ inside i) (sym e) ∙ ap (λ w. 42 ∷ w) x.1))

opening : (b : ℕ) (i : Inside) (q r : Text) → 40 ≡ b → inside i ++ q ≡ 42 ∷ r → BeginsMark (b ∷ inside i)
opening b i q r e f = let x = second i 42 q r f in (x.0, inl (ap (λ c. c ∷ inside i) (sym e) ∙ ap (λ w. 40 ∷ w) x.1))

inside_cut : (i j : Inside) (q r : Text) → Marked i → Marked j → inside i ++ q ≡ inside j ++ r → Same (inside i) q (inside j) r
inside_cut closes closes q r mi mj e = record { front = refl; back = tail_same 41 41 q r (tail_same 42 42 (41 ∷ q) (41 ∷ r) e) }
inside_cut closes (byte b j) q r mi mj e = absurd (mj.0 (closing b j r q (head_same 42 b (41 ∷ q) (inside j ++ r) e) (sym (tail_same 42 b (41 ∷ q) (inside j ++ r) e))))
inside_cut closes (nested j l) q r mi mj e = absurd (let n : 42 ≡ 40 = head_same 42 40 (41 ∷ q) (42 ∷ ((inside j ++ inside l) ++ r)) e in omega (arith, n))
inside_cut (byte b i) closes q r mi mj e = absurd (mi.0 (closing b i q r (sym (head_same b 42 (inside i ++ q) (41 ∷ r) e)) (tail_same b 42 (inside i ++ q) (41 ∷ r) e)))
inside_cut (byte b i) (byte c j) q r mi mj e =
    more_same b c (inside i) q (inside j) r (head_same b c (inside i ++ q) (inside j ++ r) e) (inside_cut i j q r mi.1 mj.1 (tail_same b c (inside i ++ q) (inside j ++ r) e))
inside_cut (byte b i) (nested j l) q r mi mj e =
    absurd (mi.0 (opening b i q ((inside j ++ inside l) ++ r) (sym (head_same b 40 (inside i ++ q) (42 ∷ ((inside j ++ inside l) ++ r)) e)) (tail_same b 40 (inside i ++ q) (42 ∷ ((inside j ++ inside l) ++ r)) e)))
inside_cut (nested i l) closes q r mi mj e = absurd (let n : 40 ≡ 42 = head_same 40 42 (42 ∷ ((inside i ++ inside l) ++ q)) (41 ∷ r) e in omega (arith, n))
inside_cut (nested i l) (byte c j) q r mi mj e =
    absurd (mj.0 (opening c j r ((inside i ++ inside l) ++ q) (head_same 40 c (42 ∷ ((inside i ++ inside l) ++ q)) (inside j ++ r) e) (sym (tail_same 40 c (42 ∷ ((inside i ++ inside l) ++ q)) (inside j ++ r) e))))
inside_cut (nested i l) (nested j n) q r mi mj e =
    let whole : (inside i ++ inside l) ++ q ≡ (inside j ++ inside n) ++ r = tail_same 42 42 ((inside i ++ inside l) ++ q) ((inside j ++ inside n) ++ r) (tail_same 40 40 (42 ∷ ((inside i ++ inside l) ++ q)) (42 ∷ ((inside j ++ inside n) ++ r)) e) in
    let x = inside_cut i j (inside l ++ q) (inside n ++ r) mi.0 mj.0 (sym (append_assoc (inside i) (inside l) q) ∙ whole ∙ append_assoc (inside j) (inside n) r) in
    let y = inside_cut l n q r mi.1 mj.1 x.back in
    record { front = ap (λ w. 40 ∷ 42 ∷ (w ++ inside l)) x.front ∙ ap (λ w. 40 ∷ 42 ∷ (inside j ++ w)) y.front; back = y.back }

-- ---- gaps

-- a blank begins neither a comment nor a remark
blank_first : (b c : ℕ) (q r : Text) → is_blank b ≡ true → is_blank c ≡ false → b ∷ q ≡ c ∷ r → ⊥
blank_first b c q r h g e = let n : true ≡ false = sym h ∙ ap is_blank (head_same b c q r e) ∙ g in cc

comment_remark : (q r : Text) → 40 ∷ q ≡ 34 ∷ r → ⊥
comment_remark q r e = let n : 40 ≡ 34 = head_same 40 34 q r e in omega (arith, n)

-- two parts with what stands behind them, each in its own shape
shaped : (p p' a b q r : Text) → p ≡ a → p' ≡ b → p ++ q ≡ p' ++ r → a ++ q ≡ b ++ r
shaped p p' a b q r e f cut = sym (ap (λ w. w ++ q) e) ∙ cut ∙ ap (λ w. w ++ r) f

back_in : (p p' a b q r : Text) → p ≡ a → p' ≡ b → Same a q b r → Same p q p' r
back_in p p' a b q r e f s = record { front = e ∙ s.front ∙ sym f; back = s.back }

remark_cut : (s t q r : Text) → AllOf (λ b. not (b == 34)) s → AllOf (λ b. not (b == 34)) t → (34 ∷ (s ++ 34 ∷ [])) ++ q ≡ (34 ∷ (t ++ 34 ∷ [])) ++ r → Same (34 ∷ (s ++ 34 ∷ [])) q (34 ∷ (t ++ 34 ∷ [])) r
remark_cut s t q r hs ht cut =
    let whole : s ++ 34 ∷ q ≡ t ++ 34 ∷ r = sym (append_assoc s (34 ∷ []) q) ∙ tail_same 34 34 ((s ++ 34 ∷ []) ++ q) ((t ++ 34 ∷ []) ++ r) cut ∙ append_assoc t (34 ∷ []) r in
    let x = run_cut (λ b. not (b == 34)) 34 s q t r refl hs ht whole in
    record { front = ap (λ w. 34 ∷ (w ++ 34 ∷ [])) x.front; back = x.back }

comment_cut : (i j : Inside) (q r : Text) → Marked i → Marked j → (40 ∷ 42 ∷ inside i) ++ q ≡ (40 ∷ 42 ∷ inside j) ++ r → Same (40 ∷ 42 ∷ inside i) q (40 ∷ 42 ∷ inside j) r
comment_cut i j q r mi mj cut =
    let x = inside_cut i j q r mi mj (tail_same 42 42 (inside i ++ q) (inside j ++ r) (tail_same 40 40 (42 ∷ (inside i ++ q)) (42 ∷ (inside j ++ r)) cut)) in
    record { front = ap (λ w. 40 ∷ 42 ∷ w) x.front; back = x.back }

part_cut : (p p' q r : Text) → IsGapPart p → IsGapPart p' → p ++ q ≡ p' ++ r → Same p q p' r
part_cut p p' q r (inl (b, h, e)) (inl (c, g, f)) cut =
    let whole : b ∷ q ≡ c ∷ r = shaped p p' (b ∷ []) (c ∷ []) q r e f cut in
    back_in p p' (b ∷ []) (c ∷ []) q r e f (record { front = ap (λ x. x ∷ []) (head_same b c q r whole); back = tail_same b c q r whole })
part_cut p p' q r (inl (b, h, e)) (inr (inl (j, m, f))) cut = absurd (blank_first b 40 q (42 ∷ (inside j ++ r)) h refl (shaped p p' (b ∷ []) (40 ∷ 42 ∷ inside j) q r e f cut))
part_cut p p' q r (inl (b, h, e)) (inr (inr (t, m, f))) cut = absurd (blank_first b 34 q ((t ++ 34 ∷ []) ++ r) h refl (shaped p p' (b ∷ []) (34 ∷ (t ++ 34 ∷ [])) q r e f cut))
part_cut p p' q r (inr (inl (i, m, e))) (inl (c, g, f)) cut = absurd (blank_first c 40 r (42 ∷ (inside i ++ q)) g refl (sym (shaped p p' (40 ∷ 42 ∷ inside i) (c ∷ []) q r e f cut)))
part_cut p p' q r (inr (inl (i, m, e))) (inr (inl (j, n, f))) cut =
    back_in p p' (40 ∷ 42 ∷ inside i) (40 ∷ 42 ∷ inside j) q r e f (comment_cut i j q r m n (shaped p p' (40 ∷ 42 ∷ inside i) (40 ∷ 42 ∷ inside j) q r e f cut))
part_cut p p' q r (inr (inl (i, m, e))) (inr (inr (t, n, f))) cut =
    absurd (comment_remark (42 ∷ (inside i ++ q)) ((t ++ 34 ∷ []) ++ r) (shaped p p' (40 ∷ 42 ∷ inside i) (34 ∷ (t ++ 34 ∷ [])) q r e f cut))
part_cut p p' q r (inr (inr (s, m, e))) (inl (c, g, f)) cut = absurd (blank_first c 34 r ((s ++ 34 ∷ []) ++ q) g refl (sym (shaped p p' (34 ∷ (s ++ 34 ∷ [])) (c ∷ []) q r e f cut)))
part_cut p p' q r (inr (inr (s, m, e))) (inr (inl (j, n, f))) cut =
    absurd (comment_remark (42 ∷ (inside j ++ r)) ((s ++ 34 ∷ []) ++ q) (sym (shaped p p' (34 ∷ (s ++ 34 ∷ [])) (40 ∷ 42 ∷ inside j) q r e f cut)))
part_cut p p' q r (inr (inr (s, m, e))) (inr (inr (t, n, f))) cut =
    back_in p p' (34 ∷ (s ++ 34 ∷ [])) (34 ∷ (t ++ 34 ∷ [])) q r e f (remark_cut s t q r m n (shaped p p' (34 ∷ (s ++ 34 ∷ [])) (34 ∷ (t ++ 34 ∷ [])) q r e f cut))

parts_cut : (g g' q r : Text) (ps ps' : List Text) → IsGapOf g ps → IsGapOf g' ps' → BeginsNoGap q → BeginsNoGap r → g ++ q ≡ g' ++ r → Same g q g' r
parts_cut g g' q r [] [] x y nq nr cut = record { front = x ∙ sym y; back = shaped g g' [] [] q r x y cut }
parts_cut g g' q r [] (p ∷ ps) x (part, (u, e, more)) nq nr cut = absurd (nq p (u ++ r) (shaped g g' [] (p ++ u) q r x e cut ∙ append_assoc p u r) part)
parts_cut g g' q r (p ∷ ps) [] (part, (u, e, more)) y nq nr cut = absurd (nr p (u ++ q) (sym (shaped g g' (p ++ u) [] q r e y cut) ∙ append_assoc p u q) part)
parts_cut g g' q r (p ∷ ps) (p' ∷ ps') (part, (u, e, more)) (part', (u', e', more')) nq nr cut =
    let x = part_cut p p' (u ++ q) (u' ++ r) part part' (sym (append_assoc p u q) ∙ shaped g g' (p ++ u) (p' ++ u') q r e e' cut ∙ append_assoc p' u' r) in
    let y = parts_cut u u' q r ps ps' more more' nq nr x.back in
    record { front = e ∙ ap (λ w. w ++ u) x.front ∙ ap (λ w. p' ++ w) y.front ∙ sym e'; back = y.back }

pub gap_cut : (g g' q r : Text) → IsGap g → IsGap g' → BeginsNoGap q → BeginsNoGap r → g ++ q ≡ g' ++ r → Same g q g' r
gap_cut g g' q r x y nq nr cut = parts_cut g g' q r x.0 y.0 x.1 y.1 nq nr cut
