-- What ends at a blank, and tests that go one way.
use Rattle.std.proofs.Common.{◌≡◌, ℕ, ◌+◌, Bool, true, false, ◌==◌, ◌||◌, ◌&&◌, if◌then◌else◌, ◌∷◌, ◌++◌, length, get_or, refl, sym, ap, subst, ◌∙◌, arith}
use Rattle.std.proofs.lemmas.Bool.{eqb-true}
use Rattle.ns_base.specs.Spelling.{is_digit, begins_name, goes_on_name, is_operator_byte}
use Rattle.ns_lex.specs.Bytes.{is_blank}
use Rattle.ns_lex.specs.Piece.{Text}
use Rattle.ns_lex.specs.Next.{next_piece}
use Rattle.ns_lex.specs.declared.piece.Piece.TheVariants.{Gap}
use Rattle.ns_lex.specs.laws.Words.{at_end}

-- a byte that ends each token but a string
pub record Ends (b : ℕ) : Type 0 where
  pub blank : is_blank b ≡ true
  pub name : goes_on_name b ≡ false
  pub starts : begins_name b ≡ false
  pub digit : is_digit b ≡ false
  pub oper : is_operator_byte b ≡ false
  pub colon : (b == 58) ≡ false
  pub equals : (b == 61) ≡ false
  pub stop : (b == 46) ≡ false
  pub star : (b == 42) ≡ false
  pub quote : (b == 39) ≡ false

blank_by : (b : ℕ) (v w x y z : Bool) → (b == 9) ≡ v → (b == 10) ≡ w → (b == 12) ≡ x → (b == 13) ≡ y → (b == 32) ≡ z → (v || w || x || y || z) ≡ true → Ends b
blank_by b true w x y z e f g h i some = subst Ends (sym (eqb-true b 9 e)) (record { blank = refl; name = refl; starts = refl; digit = refl; oper = refl; colon = refl; equals = refl; stop = refl; star = refl; quote = refl })
blank_by b false true x y z e f g h i some = subst Ends (sym (eqb-true b 10 f)) (record { blank = refl; name = refl; starts = refl; digit = refl; oper = refl; colon = refl; equals = refl; stop = refl; star = refl; quote = refl })
blank_by b false false true y z e f g h i some = subst Ends (sym (eqb-true b 12 g)) (record { blank = refl; name = refl; starts = refl; digit = refl; oper = refl; colon = refl; equals = refl; stop = refl; star = refl; quote = refl })
blank_by b false false false true z e f g h i some = subst Ends (sym (eqb-true b 13 h)) (record { blank = refl; name = refl; starts = refl; digit = refl; oper = refl; colon = refl; equals = refl; stop = refl; star = refl; quote = refl })
blank_by b false false false false true e f g h i some = subst Ends (sym (eqb-true b 32 i)) (record { blank = refl; name = refl; starts = refl; digit = refl; oper = refl; colon = refl; equals = refl; stop = refl; star = refl; quote = refl })
blank_by b false false false false false e f g h i some = absurd cc

pub blank_ends : (b : ℕ) → is_blank b ≡ true → Ends b
blank_ends b some = blank_by b (b == 9) (b == 10) (b == 12) (b == 13) (b == 32) refl refl refl refl refl some

-- ---- tests

pub refuse : {A : Type 0} (v : Bool) (x y w : A) → v ≡ false → y ≡ w → (if v then x else y) ≡ w
refuse v x y w h e = ap (λ t. if t then x else y) h ∙ e

pub accept : {A : Type 0} (v : Bool) (x y w : A) → v ≡ true → x ≡ w → (if v then x else y) ≡ w
accept v x y w h e = ap (λ t. if t then x else y) h ∙ e

pub and_second : (x y : Bool) → y ≡ false → (x && y) ≡ false
and_second true y h = h
and_second false y h = refl

pub first_behind : (w u : Text) → get_or (w ++ u) (length w) 0 ≡ get_or u 0 0
first_behind w u = ap (λ i. get_or (w ++ u) i 0) (let e : length w ≡ length w + 0 = omega arith in e) ∙ at_end w u 0

-- A blank is a part of a gap.
pub blank_read : (b : ℕ) (z : Text) → is_blank b ≡ true → next_piece (b ∷ z) ≡ Gap 1
unfolding next_piece
blank_read b z h = accept (is_blank b) _ _ _ h refl
