-- What stands behind a token and behind a comment doesn't change how they are read.
use Rattle.std.proofs.Common.{◌≡◌, ℕ, suc, ◌+◌, ◌-◌, ◌≤◌, ◌<◌, inl, inr, Bool, true, false, ◌==◌, ◌&&◌, not, cond, if◌then◌else◌, [], ◌∷◌, ◌++◌, length, drop, get_or, Option, Some, None, refl, sym, ap, subst, ◌∙◌, append_assoc, length-append, arith}
use Rattle.std.specs.List.{prefix_len}
use Rattle.std.proofs.Math.Seq.{take-append_seam}
use Rattle.std.proofs.lemmas.List.{get_or_append_left}
use Rattle.ns_base.specs.Spelling.{is_digit, begins_name, is_operator_byte}
use Rattle.ns_tree.specs.declared.token.Kind.{Kind}
use Rattle.ns_lex.specs.Bytes.{is_blank}
use Rattle.ns_lex.specs.Piece.{Text}
use Rattle.ns_lex.specs.Next.{next_piece}
use Rattle.ns_lex.specs.Quoted.{quoted, quoted_from, closed}
use Rattle.ns_lex.specs.Comment.{comment, comment_from, remark, remark_len, after}
use Rattle.ns_lex.specs.Comment as comments
use Rattle.ns_lex.specs.declared.comment.Last.{Last}
use Rattle.ns_lex.specs.declared.comment.Last.TheVariants as last
use Rattle.ns_lex.specs.declared.piece.Piece.{Piece}
use Rattle.ns_lex.specs.declared.piece.Piece.TheVariants.{Gap, Token, Fault}
use Rattle.ns_lex.specs.declared.piece.Cause.TheVariants as cause
use Rattle.ns_lex.specs.Gap.{IsGapPart, inside}
use Rattle.ns_lex.specs.laws.Stands.{stands_spells}
use Rattle.ns_lex.specs.laws.Blanks.{refuse}
use Rattle.ns_lex.specs.laws.Gaps.{IsPart}
use Rattle.ns_lex.specs.laws.Pieces.{next_gap, next_token, IsFirst}
use Rattle.ns_lex.specs.laws.ReadAgain.{read_again}
use Rattle.ns_lex.specs.laws.Singles.{clash}
use Rattle.ns_format.proofs.Ahead.{Stops, blank_stops, bracket_stops, remark_stops, word_same, number_same, operator_same, symbol_same, single_same}

-- one test, and what holds of both its sides
pub both_ways : {A : Type 0} (v : Bool) (x y u w r : A) → (x ≡ r → u ≡ r) → (y ≡ r → w ≡ r) → (if v then x else y) ≡ r → (if v then u else w) ≡ r
both_ways true x y u w r f g e = f e
both_ways false x y u w r f g e = g e

-- ---- strings

far_by : {A : Type 0} (v : Bool) (x y r : A) {G : Type 0} → (x ≡ r → G) → (y ≡ r → G) → (if v then x else y) ≡ r → G
far_by true x y r f g e = f e
far_by false x y r f g e = g e

same_place : (p q : Text × ℕ) → Some p ≡ Some q → p.1 ≡ q.1
same_place p q e = let f : p ≡ q = cc in ap (λ r. r.1) f

-- a string ends behind a byte more, unless a quote stood before
string_far : (after : Bool) (held : Text) (at : ℕ) (z : Text) (p : Text × ℕ) → quoted_from after held at z ≡ Some p → at + cond after 0 1 ≤ p.1
string_far false held at [] p e = absurd cc
string_far true held at [] p e = omega (arith, same_place (held, at) p e)
string_far false held at (b ∷ z) p e =
    far_by (b == 39) _ _ _ (λ e. omega (arith, string_far true held (at + 1) z p e)) (λ e. omega (arith, string_far false (held ++ b ∷ []) (at + 1) z p e)) e
string_far true held at (b ∷ z) p e =
    far_by (b == 39) _ _ _ (λ e. omega (arith, string_far false (held ++ b ∷ []) (at + 1) z p e)) (λ e. omega (arith, same_place (held, at) p e)) e

quote_stops : (held : Text) (at : ℕ) (y : Text) → (get_or y 0 0 == 39) ≡ false → quoted_from true held at y ≡ Some (held, at)
quote_stops held at [] s = refl
quote_stops held at (c ∷ y) s = refuse (c == 39) _ _ _ s refl

string_same : (after : Bool) (held : Text) (at : ℕ) (w y z : Text) (p : Text × ℕ) → (get_or y 0 0 == 39) ≡ false → (get_or z 0 0 == 39) ≡ false → p.1 ≤ at + length w
    → quoted_from after held at (w ++ y) ≡ Some p → quoted_from after held at (w ++ z) ≡ Some p
string_same false held at [] y z p s t within e = absurd (omega (arith, within, string_far false held at y p e))
string_same true held at [] y z p s t within e = quote_stops held at z t ∙ sym (quote_stops held at y s) ∙ e
string_same false held at (b ∷ w) y z p s t within e =
    both_ways (b == 39) _ _ _ _ _ (string_same true held (at + 1) w y z p s t (omega (arith, within))) (string_same false (held ++ b ∷ []) (at + 1) w y z p s t (omega (arith, within))) e
string_same true held at (b ∷ w) y z p s t within e = both_ways (b == 39) _ _ _ _ _ (string_same false (held ++ b ∷ []) (at + 1) w y z p s t (omega (arith, within))) (λ e. e) e

quoted_by : (o : Option (Text × ℕ)) (w y z : Text) (t : Kind) (n : ℕ) → (get_or y 0 0 == 39) ≡ false → (get_or z 0 0 == 39) ≡ false → n ≤ 1 + length w → quoted_from false [] 1 (w ++ y) ≡ o → closed o ≡ Token t n
    → closed (quoted_from false [] 1 (w ++ z)) ≡ Token t n
quoted_by None w y z t n s u within e f = absurd cc
quoted_by (Some p) w y z t n s u within e f =
    let place : p.1 ≡ n = cc in
    ap closed (string_same false [] 1 w y z p s u (omega (arith, place, within)) e) ∙ f

quoted_same : (b : ℕ) (w y z : Text) (t : Kind) (n : ℕ) → (get_or y 0 0 == 39) ≡ false → (get_or z 0 0 == 39) ≡ false → n ≤ 1 + length w → quoted (b ∷ (w ++ y)) ≡ Token t n → quoted (b ∷ (w ++ z)) ≡ Token t n
unfolding quoted
quoted_same b w y z t n s u within e = quoted_by (quoted_from false [] 1 (w ++ y)) w y z t n s u within refl e

-- ---- tokens

remark_no_token : (z : Text) (t : Kind) (n : ℕ) → remark z ≡ Token t n → ⊥
unfolding remark
remark_no_token z t n e = far_by (get_or z (remark_len (drop 1 z) + 1) 0 == 34) _ _ _ (λ f. cc) (λ f. cc) e

closed_no_token : (o : Option ℕ) (t : Kind) (n : ℕ) → comments.closed o ≡ Token t n → ⊥
closed_no_token None t n e = cc
closed_no_token (Some m) t n e = cc

comment_no_token : (z : Text) (t : Kind) (n : ℕ) → comment z ≡ Token t n → ⊥
unfolding comment
comment_no_token z t n e = closed_no_token (comment_from 0 last.Plain 2 (drop 2 z)) t n e

-- a token of a text of two bytes or more, of which the text that goes on takes none
next_same : (b c : ℕ) (w y z : Text) (t : Kind) (n : ℕ) → Stops (get_or y 0 0) → Stops (get_or z 0 0) → n ≤ 2 + length w
    → next_piece (b ∷ c ∷ (w ++ y)) ≡ Token t n → next_piece (b ∷ c ∷ (w ++ z)) ≡ Token t n
unfolding next_piece
next_same b c w y z t n s u within =
    both_ways (is_blank b) _ _ _ _ _ (λ e. e)
    (both_ways (b == 34) _ _ _ _ _ (λ e. absurd (remark_no_token (b ∷ c ∷ (w ++ y)) t n e))
    (both_ways (b == 40 && c == 42) _ _ _ _ _ (λ e. absurd (comment_no_token (b ∷ c ∷ (w ++ y)) t n e))
    (both_ways (begins_name b) _ _ _ _ _ (λ e. word_same (b ∷ c ∷ w) z u ∙ sym (word_same (b ∷ c ∷ w) y s) ∙ e)
    (both_ways (is_digit b) _ _ _ _ _ (λ e. number_same (b ∷ c ∷ w) z u ∙ sym (number_same (b ∷ c ∷ w) y s) ∙ e)
    (both_ways (b == 39) _ _ _ _ _ (λ e. quoted_same b (c ∷ w) y z t n s.quote u.quote (omega (arith, within)) e)
    (both_ways (b == 35) _ _ _ _ _ (λ e. symbol_same b c w z u ∙ sym (symbol_same b c w y s) ∙ e)
    (both_ways (is_operator_byte b) _ _ _ _ _ (λ e. operator_same b c w z u ∙ sym (operator_same b c w y s) ∙ e)
    (λ e. single_same b c w z u ∙ sym (single_same b c w y s) ∙ e))))))))

-- Two texts begin alike, and then one goes on with what ends each token, and the other with a blank.
pub record Alike (z l : Text) : Type 0 where
  pub run : Text
  pub rest : Text
  pub byte : ℕ
  pub more : Text
  pub here : z ≡ run ++ rest
  pub there : l ≡ run ++ byte ∷ more
  pub stops : Stops (get_or rest 0 0)
  pub blank : is_blank byte ≡ true

-- a token with nothing behind it but a blank
lone_token : (b : ℕ) (z : Text) (byte : ℕ) (more : Text) (t : Kind) → is_blank byte ≡ true → next_piece (b ∷ z) ≡ Token t 1 → next_piece (b ∷ byte ∷ more) ≡ Token t 1
lone_token b z byte more t blank e =
    let first : IsFirst (b ∷ z) t 1 = next_token b z t 1 e in
    read_again (b ∷ []) t byte more (stands_spells (b ∷ []) z t first.token.next.0) blank

lone_by : (b : ℕ) (run rest : Text) (byte : ℕ) (more : Text) (t : Kind) → Stops (get_or rest 0 0) → is_blank byte ≡ true → next_piece (b ∷ (run ++ rest)) ≡ Token t 1 → next_piece (b ∷ (run ++ byte ∷ more)) ≡ Token t 1
lone_by b [] rest byte more t s blank e = lone_token b rest byte more t blank e
lone_by b (c ∷ run) rest byte more t s blank e = next_same b c run rest (byte ∷ more) t 1 s (blank_stops byte blank) (omega arith) e

token_by : (w run rest : Text) (byte : ℕ) (more : Text) (t : Kind) → Stops (get_or rest 0 0) → is_blank byte ≡ true → 0 < length w → next_piece (w ++ (run ++ rest)) ≡ Token t (length w) → next_piece (w ++ (run ++ byte ∷ more)) ≡ Token t (length w)
token_by [] run rest byte more t s blank some e = absurd (omega (arith, some))
token_by (b ∷ []) run rest byte more t s blank some e = lone_by b run rest byte more t s blank e
token_by (b ∷ c ∷ w) run rest byte more t s blank some e =
    ap (λ v. next_piece (b ∷ c ∷ v)) (sym (append_assoc w run (byte ∷ more)))
    ∙ next_same b c (w ++ run) rest (byte ∷ more) t (length (b ∷ c ∷ w)) s (blank_stops byte blank) (omega (arith, length-append w run)) (ap (λ v. next_piece (b ∷ c ∷ v)) (append_assoc w run rest) ∙ e)

-- A token stays one where what is behind it becomes alike.
pub token_stays : (w z l : Text) (t : Kind) → Alike z l → 0 < length w → next_piece (w ++ z) ≡ Token t (length w) → next_piece (w ++ l) ≡ Token t (length w)
token_stays w z l t x some e =
    ap (λ v. next_piece (w ++ v)) x.there ∙ token_by w x.run x.rest x.byte x.more t x.stops x.blank some (ap (λ v. next_piece (w ++ v)) (sym x.here) ∙ e)

-- ---- comments

same_number : (m n : ℕ) → Some m ≡ Some n → m ≡ n
same_number m n e = cc

comment_far : (d : ℕ) (l : Last) (at : ℕ) (z : Text) (m : ℕ) → comment_from d l at z ≡ Some m → at < m
comment_far d l at [] m e = absurd cc
comment_far d last.Plain at (b ∷ z) m e = omega (arith, comment_far d (after b) (at + 1) z m e)
comment_far d last.Paren at (b ∷ z) m e =
    far_by (b == 42) _ _ _ (λ e. omega (arith, comment_far (d + 1) last.Plain (at + 1) z m e)) (λ e. omega (arith, comment_far d (after b) (at + 1) z m e)) e
comment_far d last.Star at (b ∷ z) m e =
    far_by (b == 41) _ _ _ (far_by (d == 0) _ _ _ (λ e. omega (arith, same_number (at + 1) m e)) (λ e. omega (arith, comment_far (d - 1) last.Plain (at + 1) z m e)))
    (λ e. omega (arith, comment_far d (after b) (at + 1) z m e)) e

comment_same : (d : ℕ) (l : Last) (at : ℕ) (w y z : Text) (m : ℕ) → m ≤ at + length w → comment_from d l at (w ++ y) ≡ Some m → comment_from d l at (w ++ z) ≡ Some m
comment_same d l at [] y z m within e = absurd (omega (arith, within, comment_far d l at y m e))
comment_same d last.Plain at (b ∷ w) y z m within e = comment_same d (after b) (at + 1) w y z m (omega (arith, within)) e
comment_same d last.Paren at (b ∷ w) y z m within e =
    both_ways (b == 42) _ _ _ _ _ (comment_same (d + 1) last.Plain (at + 1) w y z m (omega (arith, within))) (comment_same d (after b) (at + 1) w y z m (omega (arith, within))) e
comment_same d last.Star at (b ∷ w) y z m within e =
    both_ways (b == 41) _ _ _ _ _ (both_ways (d == 0) _ _ _ _ _ (λ e. e) (comment_same (d - 1) last.Plain (at + 1) w y z m (omega (arith, within))))
    (comment_same d (after b) (at + 1) w y z m (omega (arith, within))) e

comment_by : (o : Option ℕ) (w y z : Text) (m : ℕ) → m ≤ 2 + length w → comment_from 0 last.Plain 2 (w ++ y) ≡ o → comments.closed o ≡ Gap m → comments.closed (comment_from 0 last.Plain 2 (w ++ z)) ≡ Gap m
comment_by None w y z m within e f = absurd cc
comment_by (Some n) w y z m within e f = let g : n ≡ m = cc in ap comments.closed (comment_same 0 last.Plain 2 w y z n (omega (arith, g, within)) e) ∙ f

-- a comment between brackets
brackets_stay : (w y z : Text) (m : ℕ) → m ≤ 2 + length w → next_piece (40 ∷ 42 ∷ (w ++ y)) ≡ Gap m → next_piece (40 ∷ 42 ∷ (w ++ z)) ≡ Gap m
unfolding next_piece comment
brackets_stay w y z m within e = comment_by (comment_from 0 last.Plain 2 (w ++ y)) w y z m within refl e

run_by : (v : Bool) (n m l : ℕ) → (n < l → m ≡ n) → cond v (1 + n) 0 < 1 + l → cond v (1 + m) 0 ≡ cond v (1 + n) 0
run_by true n m l same h = ap (λ i. 1 + i) (same (omega (arith, h)))
run_by false n m l same h = refl

run_within : (p : ℕ → Bool) (w y z : Text) → prefix_len p (w ++ y) < length w → prefix_len p (w ++ z) ≡ prefix_len p (w ++ y)
run_within p [] y z h = absurd (omega (arith, h))
run_within p (b ∷ w) y z h = run_by (p b) (prefix_len p (w ++ y)) (prefix_len p (w ++ z)) (length w) (run_within p w y z) (omega (arith, h))

-- a remark, read behind its first quote
remark_by : (w y z : Text) (n m : ℕ) (quote : Bool) → remark_len (w ++ y) ≡ n → (get_or (w ++ y) n 0 == 34) ≡ quote → m ≤ 1 + length w
    → (if quote then Gap (n + 2) else Fault cause.UnclosedComment 0) ≡ Gap m → (remark_len (w ++ z) ≡ n) × (get_or (w ++ z) n 0 ≡ get_or (w ++ y) n 0)
remark_by w y z n m false e f within g = absurd cc
remark_by w y z n m true e f within g =
    let size : n + 2 ≡ m = cc in
    let low : n < length w = omega (arith, size, within) in (
      run_within (λ b. not (b == 34)) w y z (omega (arith, low, e)) ∙ e,
      get_or_append_left w z 0 n low ∙ sym (get_or_append_left w y 0 n low),
    )

behind_first : (b : ℕ) (y : Text) (n : ℕ) → get_or (b ∷ y) (n + 1) 0 ≡ get_or y n 0
behind_first b y n = let e : n + 1 ≡ suc n = omega arith in ap (λ i. get_or (b ∷ y) i 0) e

abbrev remark_of : ℕ → ℕ → Piece
remark_of n c = if c == 34 then Gap (n + 2) else Fault cause.UnclosedComment 0

remark_is : (y : Text) → next_piece (34 ∷ y) ≡ remark_of (remark_len y) (get_or y (remark_len y) 0)
unfolding next_piece remark
remark_is y = ap (remark_of (remark_len y)) (behind_first 34 y (remark_len y))

-- a remark between quotes
remark_stays : (w y z : Text) (m : ℕ) → m ≤ 1 + length w → next_piece (34 ∷ (w ++ y)) ≡ Gap m → next_piece (34 ∷ (w ++ z)) ≡ Gap m
remark_stays w y z m within e =
    let n : ℕ = remark_len (w ++ y) in
    let f : remark_of n (get_or (w ++ y) n 0) ≡ Gap m = sym (remark_is (w ++ y)) ∙ e in
    let x = remark_by w y z n m (get_or (w ++ y) n 0 == 34) refl refl within f in
    remark_is (w ++ z) ∙ ap (λ i. remark_of i (get_or (w ++ z) i 0)) x.0 ∙ ap (remark_of n) x.1 ∙ f

-- ---- what is no blank

no_quote_in : (s : Text) → [] ≡ s ++ 34 ∷ [] → ⊥
no_quote_in [] e = absurd cc
no_quote_in (b ∷ s) e = absurd cc

first_byte : (b c : ℕ) (p q : Text) → b ∷ p ≡ c ∷ q → b ≡ c
first_byte b c p q e = cc

behind_byte : (b c : ℕ) (p q : Text) → b ∷ p ≡ c ∷ q → p ≡ q
behind_byte b c p q e = cc

-- a comment as a part of a gap, with the text that it begins with
pub data Opening (w : Text) : Type 0 where
  brackets : (v : Text) → w ≡ 40 ∷ 42 ∷ v → Opening w
  quotes : (v : Text) → w ≡ 34 ∷ v → Opening w

pub opening : (b : ℕ) (w : Text) → is_blank b ≡ false → IsGapPart (b ∷ w) → Opening (b ∷ w)
opening b w blank (inl (c, h, e)) = absurd (clash (is_blank b) blank (ap is_blank (first_byte b c w [] e) ∙ h))
opening b w blank (inr (inl (i, m, e))) = brackets (inside i) e
opening b w blank (inr (inr (s, h, e))) = quotes (s ++ 34 ∷ []) e

stays_by : (w y z : Text) → Opening w → next_piece (w ++ y) ≡ Gap (length w) → next_piece (w ++ z) ≡ Gap (length w)
stays_by w y z (brackets v e) f =
    subst (λ u. next_piece (u ++ z) ≡ Gap (length u)) (sym e) (brackets_stay v y z (length (40 ∷ 42 ∷ v)) (omega arith) (subst (λ u. next_piece (u ++ y) ≡ Gap (length u)) e f))
stays_by w y z (quotes v e) f =
    subst (λ u. next_piece (u ++ z) ≡ Gap (length u)) (sym e) (remark_stays v y z (length (34 ∷ v)) (omega arith) (subst (λ u. next_piece (u ++ y) ≡ Gap (length u)) e f))

-- A comment stays one, whatever is behind it.
pub comment_stays : (b : ℕ) (w y z : Text) → is_blank b ≡ false → next_piece (b ∷ (w ++ y)) ≡ Gap (length (b ∷ w)) → next_piece (b ∷ (w ++ z)) ≡ Gap (length (b ∷ w))
comment_stays b w y z blank e =
    let part : IsPart (b ∷ (w ++ y)) (length (b ∷ w)) = next_gap b (w ++ y) (length (b ∷ w)) e in
    stays_by (b ∷ w) y z (opening b w blank (subst IsGapPart (take-append_seam (b ∷ w) y) part.part)) e

-- its first byte ends each token
opening_stops : (b : ℕ) (w : Text) → Opening (b ∷ w) → Stops b
opening_stops b w (brackets v e) = subst Stops (sym (first_byte b 40 w (42 ∷ v) e)) bracket_stops
opening_stops b w (quotes v e) = subst Stops (sym (first_byte b 34 w v e)) remark_stops

pub comment_ends : (b : ℕ) (w y : Text) → is_blank b ≡ false → next_piece (b ∷ (w ++ y)) ≡ Gap (length (b ∷ w)) → Stops b
comment_ends b w y blank e =
    let part : IsPart (b ∷ (w ++ y)) (length (b ∷ w)) = next_gap b (w ++ y) (length (b ∷ w)) e in
    opening_stops b w (opening b w blank (subst IsGapPart (take-append_seam (b ∷ w) y) part.part))
