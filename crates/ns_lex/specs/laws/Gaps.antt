-- A piece of a gap is a blank, a comment or a remark.
use Rattle.std.proofs.Common.{◌≡◌, ℕ, zero, suc, ◌+◌, ◌-◌, ◌≤◌, ◌<◌, inl, inr, Bool, true, false, not, ◌==◌, if◌then◌else◌, [], ◌∷◌, ◌++◌, length, take, get_or, Option, Some, None, refl, sym, ap, subst, ◌∙◌, append_assoc, length-append, arith}
use Rattle.std.proofs.Math.Seq.{take-append_seam}
use Rattle.std.proofs.lemmas.Bool.{eqb-true, eq-eqb}
use Rattle.std.proofs.lemmas.Bool.Decides.{nat_tests}
use Rattle.std.proofs.lemmas.List.{take_more, get_or_past}
use Rattle.ns_lex.specs.Bytes.{is_blank}
use Rattle.ns_lex.specs.Piece.{Text}
use Rattle.ns_lex.specs.Comment.{comment, comment_from, after, closed, remark, remark_len}
use Rattle.ns_lex.specs.declared.comment.Last.{Last}
use Rattle.ns_lex.specs.declared.comment.Last.TheVariants as last
use Rattle.ns_lex.specs.declared.piece.Piece.TheVariants.{Gap, Fault}
use Rattle.ns_lex.specs.declared.piece.Cause.TheVariants as cause
use Rattle.ns_lex.specs.Spells.{AllOf}
use Rattle.ns_lex.specs.Gap.{Inside, closes, byte, nested, inside, BeginsMark, Marked, IsGapPart}
use Rattle.ns_lex.specs.laws.Words.{run_of}
use Rattle.ns_lex.specs.laws.Singles.{clash}

-- The first n bytes of the text are a part of a gap.
pub record IsPart (z : Text) (n : ℕ) : Type 0 where
  pub size : n ≤ length z
  pub some : 0 < n
  pub part : IsGapPart (take n z)

-- ---- comments

-- what closes so many comments within one, and that one
abbrev Nested : ℕ → Text → Type 0
Nested zero u = (i : Inside) × Marked i × (u ≡ inside i)
Nested (suc d) u = (i : Inside) × (v : Text) × Marked i × (u ≡ inside i ++ v) × Nested d v

mark_more : (u v : Text) → BeginsMark u → BeginsMark (u ++ v)
mark_more u v (q, inl e) = (q ++ v, inl (ap (λ w. w ++ v) e))
mark_more u v (q, inr e) = (q ++ v, inr (ap (λ w. w ++ v) e))

-- a byte at which no mark begins stands before
byte_first : (b d : ℕ) (u : Text) → (BeginsMark (b ∷ u) → ⊥) → Nested d u → Nested d (b ∷ u)
byte_first b zero u other (i, m, e) = (byte b i, ((λ x. other (subst (λ w. BeginsMark (b ∷ w)) (sym e) x)), m), ap (λ w. b ∷ w) e)
byte_first b (suc d) u other (i, v, m, e, n) =
    (byte b i, v, ((λ x. other (subst (λ w. BeginsMark (b ∷ w)) (sym e) (mark_more (b ∷ inside i) v x))), m), ap (λ w. b ∷ w) e, n)

-- a comment stands before
comment_first : (d : ℕ) (u : Text) → Nested (suc d) u → Nested d (40 ∷ 42 ∷ u)
comment_first zero u (j, v, m, e, (i, k, f)) = (nested j i, (m, k), ap (λ w. 40 ∷ 42 ∷ w) (e ∙ ap (λ w. inside j ++ w) f))
comment_first (suc d) u (j, v, m, e, (i, w, k, f, n)) = (nested j i, w, (m, k), ap (λ w. 40 ∷ 42 ∷ w) (e ∙ ap (λ w. inside j ++ w) f ∙ sym (append_assoc (inside j) (inside i) w)), n)

-- the byte that the machine keeps in mind, put back
abbrev With : Last → ℕ → Text → Type 0
With last.Plain d u = Nested d u
With last.Paren d u = Nested d (40 ∷ u)
With last.Star d u = Nested d (42 ∷ u)

record Says (d : ℕ) (l : Last) (at : ℕ) (y : Text) (m : ℕ) : Type 0 where
  text : Text
  rest : Text
  cut : y ≡ text ++ rest
  place : m ≡ at + length text
  shape : With l d text

first_byte : (b c : ℕ) (p q : Text) → b ∷ p ≡ c ∷ q → b ≡ c
first_byte b c p q e = cc

second_byte : (b c d e : ℕ) (p q : Text) → b ∷ c ∷ p ≡ d ∷ e ∷ q → c ≡ e
second_byte b c d e p q f = cc

no_mark : (b : ℕ) (u : Text) → (b == 40) ≡ false → (b == 42) ≡ false → BeginsMark (b ∷ u) → ⊥
no_mark b u h g (q, inl e) = clash (b == 40) h (eq-eqb b 40 (first_byte b 40 u (42 ∷ q) e))
no_mark b u h g (q, inr e) = clash (b == 42) g (eq-eqb b 42 (first_byte b 42 u (41 ∷ q) e))

no_opening : (b : ℕ) (u : Text) → (b == 42) ≡ false → BeginsMark (40 ∷ b ∷ u) → ⊥
no_opening b u h (q, inl e) = clash (b == 42) h (eq-eqb b 42 (second_byte 40 b 40 42 u q e))
no_opening b u h (q, inr e) = clash (40 == 42) refl (eq-eqb 40 42 (first_byte 40 42 (b ∷ u) (41 ∷ q) e))

no_closing : (b : ℕ) (u : Text) → (b == 41) ≡ false → BeginsMark (42 ∷ b ∷ u) → ⊥
no_closing b u h (q, inl e) = clash (42 == 40) refl (eq-eqb 42 40 (first_byte 42 40 (b ∷ u) (42 ∷ q) e))
no_closing b u h (q, inr e) = clash (b == 41) h (eq-eqb b 41 (second_byte 42 b 42 41 u q e))

-- what stands behind a byte, with the byte
with_byte : (b d : ℕ) (u : Text) (paren star : Bool) → (b == 40) ≡ paren → (b == 42) ≡ star → With (if paren then last.Paren else (if star then last.Star else last.Plain)) d u → Nested d (b ∷ u)
with_byte b d u true star h g x = subst (λ c. Nested d (c ∷ u)) (sym (eqb-true b 40 h)) x
with_byte b d u false true h g x = subst (λ c. Nested d (c ∷ u)) (sym (eqb-true b 42 g)) x
with_byte b d u false false h g x = byte_first b d u (no_mark b u h g) x

-- one byte on
plain_goes : (d b at : ℕ) (z : Text) (m : ℕ) → Says d (after b) (at + 1) z m → Says d last.Plain at (b ∷ z) m
plain_goes d b at z m x = record { text = b ∷ x.text; rest = x.rest; cut = ap (λ w. b ∷ w) x.cut; place = omega (arith, x.place); shape = with_byte b d x.text (b == 40) (b == 42) refl refl x.shape }

paren_goes : (d b at : ℕ) (z : Text) (m : ℕ) → (b == 42) ≡ false → Says d (after b) (at + 1) z m → Says d last.Paren at (b ∷ z) m
paren_goes d b at z m h x = record {
  text = b ∷ x.text;
  rest = x.rest;
  cut = ap (λ w. b ∷ w) x.cut;
  place = omega (arith, x.place);
  shape = byte_first 40 d (b ∷ x.text) (no_opening b x.text h) (with_byte b d x.text (b == 40) (b == 42) refl refl x.shape);
}

star_goes : (d b at : ℕ) (z : Text) (m : ℕ) → (b == 41) ≡ false → Says d (after b) (at + 1) z m → Says d last.Star at (b ∷ z) m
star_goes d b at z m h x = record {
  text = b ∷ x.text;
  rest = x.rest;
  cut = ap (λ w. b ∷ w) x.cut;
  place = omega (arith, x.place);
  shape = byte_first 42 d (b ∷ x.text) (no_closing b x.text h) (with_byte b d x.text (b == 40) (b == 42) refl refl x.shape);
}

-- an opening mark
opens : (d at : ℕ) (z : Text) (m : ℕ) → Says (d + 1) last.Plain (at + 1) z m → Says d last.Paren at (42 ∷ z) m
opens d at z m x =
    let e : d + 1 ≡ suc d = omega arith in
    record { text = 42 ∷ x.text; rest = x.rest; cut = ap (λ w. 42 ∷ w) x.cut; place = omega (arith, x.place); shape = comment_first d x.text (subst (λ i. Nested i x.text) e x.shape) }

-- a closing mark within a comment within, and the last one
closes_one : (d at : ℕ) (z : Text) (m : ℕ) → Says d last.Plain (at + 1) z m → Says (suc d) last.Star at (41 ∷ z) m
closes_one d at z m x = record { text = 41 ∷ x.text; rest = x.rest; cut = ap (λ w. 41 ∷ w) x.cut; place = omega (arith, x.place); shape = (closes, x.text, tt, refl, x.shape) }

closes_all : (at : ℕ) (z : Text) (m : ℕ) → at + 1 ≡ m → Says 0 last.Star at (41 ∷ z) m
closes_all at z m e = record { text = 41 ∷ []; rest = z; cut = refl; place = omega (arith, e); shape = (closes, tt, refl) }

some_same : {A : Type 0} (a b : A) → Some a ≡ Some b → a ≡ b
some_same a b e = cc

not_zero : (d : ℕ) → (suc d == 0) ≡ false
not_zero d = grind (arith, nat_tests)

paren_by : (d b at : ℕ) (z : Text) (m : ℕ) (star : Bool) → (b == 42) ≡ star → (comment_from (d + 1) last.Plain (at + 1) z ≡ Some m → Says (d + 1) last.Plain (at + 1) z m) → (comment_from d (after b) (at + 1) z ≡ Some m → Says d (after b) (at + 1) z m)
    → (if star then comment_from (d + 1) last.Plain (at + 1) z else comment_from d (after b) (at + 1) z) ≡ Some m → Says d last.Paren at (b ∷ z) m
paren_by d b at z m true h more goes e = subst (λ c. Says d last.Paren at (c ∷ z) m) (sym (eqb-true b 42 h)) (opens d at z m (more e))
paren_by d b at z m false h more goes e = paren_goes d b at z m h (goes e)

star_by : (d b at : ℕ) (z : Text) (m : ℕ) (close : Bool) → (b == 41) ≡ close → ((comment_from (d - 1) last.Plain (at + 1) z ≡ Some m) → Says (d - 1) last.Plain (at + 1) z m) → (comment_from d (after b) (at + 1) z ≡ Some m → Says d (after b) (at + 1) z m)
    → (if close then (if d == 0 then Some (at + 1) else comment_from (d - 1) last.Plain (at + 1) z) else comment_from d (after b) (at + 1) z) ≡ Some m → Says d last.Star at (b ∷ z) m
star_by zero b at z m true h less goes e = subst (λ c. Says 0 last.Star at (c ∷ z) m) (sym (eqb-true b 41 h)) (closes_all at z m (some_same (at + 1) m e))
star_by (suc d) b at z m true h less goes e =
    let f : suc d - 1 ≡ d = omega arith in
    let g : (suc d == 0) ≡ false = not_zero d in
    subst (λ c. Says (suc d) last.Star at (c ∷ z) m) (sym (eqb-true b 41 h)) (closes_one d at z m (subst (λ i. Says i last.Plain (at + 1) z m) f (less (sym (ap (λ v. if v then Some (at + 1) else comment_from (suc d - 1) last.Plain (at + 1) z) g) ∙ e))))
star_by d b at z m false h less goes e = star_goes d b at z m h (goes e)

says : (d : ℕ) (l : Last) (at : ℕ) (y : Text) (m : ℕ) → comment_from d l at y ≡ Some m → Says d l at y m
says d l at [] m e = absurd cc
says d last.Plain at (b ∷ z) m e = plain_goes d b at z m (says d (after b) (at + 1) z m e)
says d last.Paren at (b ∷ z) m e = paren_by d b at z m (b == 42) refl (says (d + 1) last.Plain (at + 1) z m) (says d (after b) (at + 1) z m) e
says d last.Star at (b ∷ z) m e = star_by d b at z m (b == 41) refl (says (d - 1) last.Plain (at + 1) z m) (says d (after b) (at + 1) z m) e

comment_is : (y : Text) (m : ℕ) → Says 0 last.Plain 2 y m → IsPart (40 ∷ 42 ∷ y) m
comment_is y m x =
    let steps : m ≡ suc (suc (length x.text)) = omega (arith, x.place) in
    let front : take m (40 ∷ 42 ∷ y) ≡ 40 ∷ 42 ∷ x.text = ap (λ i. take i (40 ∷ 42 ∷ y)) steps ∙ ap (λ w. 40 ∷ 42 ∷ w) (ap (take (length x.text)) x.cut ∙ take-append_seam x.text x.rest) in
    record {
      size = omega (arith, steps, ap length x.cut, length-append x.text x.rest);
      some = omega (arith, steps);
      part = inr (inl (x.shape.0, x.shape.1, front ∙ ap (λ w. 40 ∷ 42 ∷ w) x.shape.2));
    }

comment_by : (y : Text) (o : Option ℕ) (m : ℕ) → comment_from 0 last.Plain 2 y ≡ o → closed o ≡ Gap m → IsPart (40 ∷ 42 ∷ y) m
comment_by y None m e f = absurd cc
comment_by y (Some n) m e f = let g : n ≡ m = cc in subst (IsPart (40 ∷ 42 ∷ y)) g (comment_is y n (says 0 last.Plain 2 y n e))

-- A nested comment is a part of a gap.
pub comment_part : (b c : ℕ) (y : Text) (m : ℕ) → b ≡ 40 → c ≡ 42 → comment (b ∷ c ∷ y) ≡ Gap m → IsPart (b ∷ c ∷ y) m
unfolding comment
comment_part b c y m h g f = subst (λ i. IsPart (i ∷ c ∷ y) m) (sym h) (subst (λ j. IsPart (40 ∷ j ∷ y) m) (sym g) (comment_by y (comment_from 0 last.Plain 2 y) m refl f))

-- ---- remarks and blanks

not_past : (z : Text) (i c : ℕ) → get_or z i 0 ≡ suc c → (length z ≤ i → ⊥) → i < length z
not_past z i c e h = omega (arith, h)

within : (z : Text) (i : ℕ) → get_or z i 0 ≡ 34 → i < length z
within z i e = not_past z i 33 e (λ h. clash (34 == 0) refl (eq-eqb 34 0 (sym e ∙ get_or_past z i 0 h)))

remark_is : (y : Text) (n : ℕ) → n ≡ remark_len y → get_or y n 0 ≡ 34 → IsPart (34 ∷ y) (n + 2)
remark_is y n e quote =
    let inside : n < length y = within y n quote in
    let steps : n + 2 ≡ suc (n + 1) = omega arith in
    record {
      size = omega (arith, inside);
      some = omega arith;
      part = inr (inr (take n y, subst (λ i. AllOf (λ b. not (b == 34)) (take i y)) (sym e) (run_of (λ b. not (b == 34)) y), ap (λ i. take i (34 ∷ y)) steps ∙ ap (λ w. 34 ∷ w) (take_more y n 0 inside ∙ ap (λ c. take n y ++ c ∷ []) quote)));
    }

remark_by : (y : Text) (n : ℕ) (quote : Bool) (m : ℕ) → n ≡ remark_len y → (get_or y n 0 == 34) ≡ quote → (if quote then Gap (n + 2) else Fault cause.UnclosedComment 0) ≡ Gap m → IsPart (34 ∷ y) m
remark_by y n true m e h f = let g : n + 2 ≡ m = cc in subst (IsPart (34 ∷ y)) g (remark_is y n e (eqb-true (get_or y n 0) 34 h))
remark_by y n false m e h f = absurd cc

behind_first : (b : ℕ) (y : Text) (n : ℕ) → get_or (b ∷ y) (n + 1) 0 ≡ get_or y n 0
behind_first b y n = let e : n + 1 ≡ suc n = omega arith in ap (λ i. get_or (b ∷ y) i 0) e

-- A remark is a part of a gap.
pub remark_part : (b : ℕ) (y : Text) (m : ℕ) → b ≡ 34 → remark (b ∷ y) ≡ Gap m → IsPart (b ∷ y) m
unfolding remark
remark_part b y m h f =
    subst (λ i. IsPart (i ∷ y) m) (sym h)
    (remark_by y (remark_len y) (get_or y (remark_len y) 0 == 34) m refl refl (ap (λ c. if c == 34 then Gap (remark_len y + 2) else Fault cause.UnclosedComment 0) (sym (behind_first b y (remark_len y))) ∙ f))

-- A blank is a part of a gap.
pub blank_part : (b : ℕ) (y : Text) (m : ℕ) → is_blank b ≡ true → Gap 1 ≡ Gap m → IsPart (b ∷ y) m
blank_part b y m h f = let g : 1 ≡ m = cc in subst (IsPart (b ∷ y)) g (record { size = omega arith; some = omega arith; part = inl (b, h, refl) })
