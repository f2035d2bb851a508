-- Where the piece at the front of a text is a fault, it is named there, and no gap begins.
use Rattle.std.proofs.Common.{◌≡◌, ℕ, suc, ◌+◌, ◌-◌, inl, inr, Bool, true, false, not, ◌==◌, ◌&&◌, if◌then◌else◌, [], ◌∷◌, ◌++◌, length, get_or, Option, Some, None, refl, sym, ap, subst, ◌∙◌, append_assoc, length-append, arith}
use Rattle.std.proofs.lemmas.Bool.{eqb-true, eq-eqb}
use Rattle.std.proofs.lemmas.Bool.Decides.{nat_tests}
use Rattle.ns_lex.specs.Bytes.{is_blank}
use Rattle.ns_lex.specs.Piece.{Text}
use Rattle.ns_lex.specs.Comment.{comment, comment_from, after, remark, remark_len}
use Rattle.ns_lex.specs.Comment as comments
use Rattle.ns_lex.specs.declared.comment.Last.{Last}
use Rattle.ns_lex.specs.declared.comment.Last.TheVariants as last
use Rattle.ns_lex.specs.declared.piece.Piece.TheVariants.{Gap, Fault}
use Rattle.ns_lex.specs.declared.piece.Cause.{Cause}
use Rattle.ns_lex.specs.declared.piece.Cause.TheVariants as cause
use Rattle.ns_lex.specs.Spells.{AllOf}
use Rattle.ns_lex.specs.Gap.{Inside, closes, byte, nested, inside, BeginsMark, Marked, IsComment, IsRemark, BeginsNoGap}
use Rattle.ns_lex.specs.Lexes.{IsFault}
use Rattle.ns_lex.specs.laws.Words.{run_all, at_end}
use Rattle.ns_lex.specs.laws.Singles.{clash, same_first}
use Rattle.ns_lex.specs.lemmas.Faults.{is_comment}

-- ---- comments are found

-- what comes behind the closing mark
abbrev done : ℕ → ℕ → Text → Option ℕ
done d at q = if d == 0 then Some at else comment_from (d - 1) last.Plain at q

-- the byte that the machine keeps in mind begins no mark with what follows
abbrev Free : Last → Text → Type 0
Free last.Plain u = Unit {0}
Free last.Paren u = BeginsMark (40 ∷ u) → ⊥
Free last.Star u = BeginsMark (42 ∷ u) → ⊥

free_after : (b : ℕ) (u : Text) (paren star : Bool) → (b == 40) ≡ paren → (b == 42) ≡ star → (BeginsMark (b ∷ u) → ⊥) → Free (if paren then last.Paren else (if star then last.Star else last.Plain)) u
free_after b u true star h g other = subst (λ c. BeginsMark (c ∷ u) → ⊥) (eqb-true b 40 h) other
free_after b u false true h g other = subst (λ c. BeginsMark (c ∷ u) → ⊥) (eqb-true b 42 g) other
free_after b u false false h g other = tt

not_star : (b : ℕ) (u : Text) (v : Bool) → (b == 42) ≡ v → (BeginsMark (40 ∷ b ∷ u) → ⊥) → v ≡ false
not_star b u true h other = absurd (other (u, inl (ap (λ c. 40 ∷ c ∷ u) (eqb-true b 42 h))))
not_star b u false h other = refl

not_close : (b : ℕ) (u : Text) (v : Bool) → (b == 41) ≡ v → (BeginsMark (42 ∷ b ∷ u) → ⊥) → v ≡ false
not_close b u true h other = absurd (other (u, inr (ap (λ c. 42 ∷ c ∷ u) (eqb-true b 41 h))))
not_close b u false h other = refl

-- a byte that belongs to no mark with the one before
byte_on : (d : ℕ) (l : Last) (at b : ℕ) (u q : Text) → Free l (b ∷ u) → comment_from d l at (b ∷ (u ++ q)) ≡ comment_from d (after b) (at + 1) (u ++ q)
byte_on d last.Plain at b u q free = refl
byte_on d last.Paren at b u q free = ap (λ v. if v then comment_from (d + 1) last.Plain (at + 1) (u ++ q) else comment_from d (after b) (at + 1) (u ++ q)) (not_star b u (b == 42) refl free)
byte_on d last.Star at b u q free = ap (λ v. if v then done d (at + 1) (u ++ q) else comment_from d (after b) (at + 1) (u ++ q)) (not_close b u (b == 41) refl free)

done_later : (d at to : ℕ) (q : Text) → at ≡ to → done d at q ≡ done d to q
done_later d at to q e = ap (λ i. done d i q) e

inner_done : (d at : ℕ) (q : Text) → done (d + 1) at q ≡ comment_from d last.Plain at q
inner_done d at q =
    let more : (d + 1 == 0) ≡ false = grind (arith, nat_tests) in
    let less : d + 1 - 1 ≡ d = omega arith in
    ap (λ v. if v then Some at else comment_from (d + 1 - 1) last.Plain at q) more ∙ ap (λ i. comment_from i last.Plain at q) less

-- The machine finds the end of each comment.
comment_finds : (i : Inside) (d : ℕ) (l : Last) (at : ℕ) (q : Text) → Marked i → Free l (inside i) → comment_from d l at (inside i ++ q) ≡ done d (at + length (inside i)) q
comment_finds closes d l at q m free = byte_on d l at 42 (41 ∷ []) q free ∙ done_later d (at + 1 + 1) (at + 2) q (omega arith)
comment_finds (byte b i) d l at q m free =
    byte_on d l at b (inside i) q free ∙ comment_finds i d (after b) (at + 1) q m.1 (free_after b (inside i) (b == 40) (b == 42) refl refl m.0) ∙ done_later d (at + 1 + length (inside i)) (at + length (b ∷ inside i)) q (omega arith)
comment_finds (nested j i) d l at q m free =
    byte_on d l at 40 (42 ∷ (inside j ++ inside i)) q free ∙ ap (comment_from (d + 1) last.Plain (at + 1 + 1)) (append_assoc (inside j) (inside i) q)
    ∙ comment_finds j (d + 1) last.Plain (at + 1 + 1) (inside i ++ q) m.0 tt ∙ inner_done d (at + 1 + 1 + length (inside j)) (inside i ++ q)
    ∙ comment_finds i d last.Plain (at + 1 + 1 + length (inside j)) q m.1 tt
    ∙ done_later d (at + 1 + 1 + length (inside j) + length (inside i)) (at + length (40 ∷ 42 ∷ (inside j ++ inside i))) q (omega (arith, length-append (inside j) (inside i)))

-- ---- no gap begins where a comment has no end

same_tail : (b c : ℕ) (p q : Text) → b ∷ p ≡ c ∷ q → p ≡ q
same_tail b c p q e = cc

same_rest : (p q : Text) → 40 ∷ 42 ∷ p ≡ 40 ∷ 42 ∷ q → p ≡ q
same_rest p q e = same_tail 42 42 p q (same_tail 40 40 (42 ∷ p) (42 ∷ q) e)

abbrev some_of : ℕ → Option ℕ
some_of n = Some n

some_none : (n : ℕ) → some_of n ≡ None → ⊥
some_none n e = cc

no_comment : (y p q : Text) → comment_from 0 last.Plain 2 y ≡ None → 40 ∷ 42 ∷ y ≡ p ++ q → IsComment p → ⊥
no_comment y p q none cut (i, m, e) =
    let rest : y ≡ inside i ++ q = same_rest y (inside i ++ q) (cut ∙ ap (λ w. w ++ q) e) in
    some_none (2 + length (inside i)) (sym (comment_finds i 0 last.Plain 2 q m tt) ∙ ap (comment_from 0 last.Plain 2) (sym rest) ∙ none)

remark_ends : (s q : Text) → AllOf (λ b. not (b == 34)) s → remark_len (s ++ 34 ∷ q) ≡ length s
remark_ends s q h = run_all (λ b. not (b == 34)) s (34 ∷ q) h ∙ omega arith

no_remark : (y p q : Text) → (get_or y (remark_len y) 0 == 34) ≡ false → 34 ∷ y ≡ p ++ q → IsRemark p → ⊥
no_remark y p q none cut (s, h, e) =
    let rest : y ≡ s ++ 34 ∷ q = same_tail 34 34 y (s ++ 34 ∷ q) (cut ∙ ap (λ w. w ++ q) e ∙ ap (λ w. 34 ∷ w) (append_assoc s (34 ∷ []) q)) in
    let size : remark_len y ≡ length s = ap remark_len rest ∙ remark_ends s q h in
    let more : remark_len y ≡ length s + 0 = omega (arith, size) in
    let there : get_or y (remark_len y) 0 ≡ 34 = ap (λ n. get_or y n 0) more ∙ ap (λ w. get_or w (length s + 0) 0) rest ∙ at_end s (34 ∷ q) 0 in
    clash (get_or y (remark_len y) 0 == 34) none (eq-eqb (get_or y (remark_len y) 0) 34 there)

-- ---- the two faults of comments

-- The fault of a text, which begins with no gap.
pub record IsStop (z : Text) (c : Cause) (n : ℕ) : Type 0 where
  pub gap : BeginsNoGap z
  pub fault : IsFault z c n

open_comment_gap : (y : Text) → comment_from 0 last.Plain 2 y ≡ None → BeginsNoGap (40 ∷ 42 ∷ y)
open_comment_gap y none p q cut (inl (c, h, e)) = clash (is_blank 40) refl (ap is_blank (same_first 40 c (42 ∷ y) q (cut ∙ ap (λ w. w ++ q) e)) ∙ h)
open_comment_gap y none p q cut (inr (inl x)) = no_comment y p q none cut x
open_comment_gap y none p q cut (inr (inr (s, h, e))) = clash (40 == 34) refl (eq-eqb 40 34 (same_first 40 34 (42 ∷ y) (s ++ 34 ∷ q) (cut ∙ ap (λ w. w ++ q) e ∙ ap (λ w. 34 ∷ w) (append_assoc s (34 ∷ []) q))))

open_remark_gap : (y : Text) → (get_or y (remark_len y) 0 == 34) ≡ false → BeginsNoGap (34 ∷ y)
open_remark_gap y none p q cut (inl (c, h, e)) = clash (is_blank 34) refl (ap is_blank (same_first 34 c y q (cut ∙ ap (λ w. w ++ q) e)) ∙ h)
open_remark_gap y none p q cut (inr (inl (i, m, e))) = clash (34 == 40) refl (eq-eqb 34 40 (same_first 34 40 y (42 ∷ (inside i ++ q)) (cut ∙ ap (λ w. w ++ q) e)))
open_remark_gap y none p q cut (inr (inr x)) = no_remark y p q none cut x

comment_stop_by : (y : Text) (o : Option ℕ) (c : Cause) (n : ℕ) → comment_from 0 last.Plain 2 y ≡ o → comments.closed o ≡ Fault c n → IsStop (40 ∷ 42 ∷ y) c n
comment_stop_by y (Some m) c n e f = absurd cc
comment_stop_by y None c n e f =
    let same_cause : cause.UnclosedComment ≡ c = cc in
    let same_place : 0 ≡ n = cc in
    subst (λ i. IsStop (40 ∷ 42 ∷ y) i n) same_cause (subst (IsStop (40 ∷ 42 ∷ y) cause.UnclosedComment) same_place (record { gap = open_comment_gap y e; fault = ((y, inl refl), refl) }))

both_true : (x v : Bool) → (x && v) ≡ true → (x ≡ true) × (v ≡ true)
both_true true v h = (refl, h)
both_true false v h = absurd cc

comment_open : (y : Text) (c : Cause) (n : ℕ) → comment (40 ∷ 42 ∷ y) ≡ Fault c n → IsStop (40 ∷ 42 ∷ y) c n
unfolding comment
comment_open y c n f = comment_stop_by y (comment_from 0 last.Plain 2 y) c n refl f

-- A comment without its end is a fault.
pub comment_stop : (b : ℕ) (y : Text) (c : Cause) (n : ℕ) → is_comment (b ∷ y) ≡ true → comment (b ∷ y) ≡ Fault c n → IsStop (b ∷ y) c n
comment_stop b [] c n h f = let g = both_true (b == 40) (0 == 42) h in absurd (clash (0 == 42) refl g.1)
comment_stop b (d ∷ y) c n h f =
    let g = both_true (b == 40) (d == 42) h in
    let i : b ≡ 40 = eqb-true b 40 g.0 in
    let j : d ≡ 42 = eqb-true d 42 g.1 in
    subst (λ v. IsStop (v ∷ d ∷ y) c n) (sym i) (subst (λ w. IsStop (40 ∷ w ∷ y) c n) (sym j) (comment_open y c n (sym (ap (λ v. comment (v ∷ d ∷ y)) i ∙ ap (λ w. comment (40 ∷ w ∷ y)) j) ∙ f)))

behind_first : (b : ℕ) (y : Text) (n : ℕ) → get_or (b ∷ y) (n + 1) 0 ≡ get_or y n 0
behind_first b y n = let e : n + 1 ≡ suc n = omega arith in ap (λ i. get_or (b ∷ y) i 0) e

remark_stop_by : (y : Text) (quote : Bool) (c : Cause) (n : ℕ) → (get_or y (remark_len y) 0 == 34) ≡ quote → (if quote then Gap (remark_len y + 2) else Fault cause.UnclosedComment 0) ≡ Fault c n → IsStop (34 ∷ y) c n
remark_stop_by y true c n h f = absurd cc
remark_stop_by y false c n h f =
    let same_cause : cause.UnclosedComment ≡ c = cc in
    let same_place : 0 ≡ n = cc in
    subst (λ i. IsStop (34 ∷ y) i n) same_cause (subst (IsStop (34 ∷ y) cause.UnclosedComment) same_place (record { gap = open_remark_gap y h; fault = ((y, inr refl), refl) }))

-- A remark without its end is a fault.
pub remark_stop : (b : ℕ) (y : Text) (c : Cause) (n : ℕ) → b ≡ 34 → remark (b ∷ y) ≡ Fault c n → IsStop (b ∷ y) c n
unfolding remark
remark_stop b y c n h f =
    subst (λ i. IsStop (i ∷ y) c n) (sym h)
    (remark_stop_by y (get_or y (remark_len y) 0 == 34) c n refl (ap (λ v. if v == 34 then Gap (remark_len y + 2) else Fault cause.UnclosedComment 0) (sym (behind_first b y (remark_len y))) ∙ f))
