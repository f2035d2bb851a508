-- A step of the cut into pieces.
use Rattle.std.proofs.Common.{◌≡◌, ℕ, zero, suc, ◌+◌, ◌-◌, ◌<◌, ◌≤◌, List, [], ◌∷◌, ◌++◌, length, take, drop, refl, ap, sym, ◌∙◌, subst, append_assoc, arith}
use Rattle.std.proofs.lemmas.List.{length-drop, drop-drop, drop_all, append-nil}
use Rattle.ns_tree.specs.declared.token.Kind.{Kind}
use Rattle.ns_lex.specs.declared.piece.Piece as lex
use Rattle.ns_lex.specs.declared.piece.Piece.TheVariants as lexed
use Rattle.ns_lex.specs.declared.piece.Cause.{Cause}
use Rattle.ns_lex.specs.Next.{next_piece}
use Rattle.ns_lex.specs.Piece.{PieceTakes, Text}
use Rattle.ns_format.specs.declared.piece.Gap.{Gap}
use Rattle.ns_format.specs.declared.piece.Gap.TheVariants as gap
use Rattle.ns_format.specs.declared.piece.Mark.TheVariants as mark
use Rattle.ns_format.specs.declared.piece.Piece.{Piece}
use Rattle.ns_format.specs.Pieces.{pieces_from, piece_of, comment_in, behind_part}

-- Skipping bytes is going on behind them.
pub skipped : (n : ℕ) (g : Gap) (z : Text) → pieces_from n g z ≡ pieces_from 0 g (drop n z)
unfolding pieces_from
skipped zero g z = refl
skipped (suc n) g [] = refl
skipped (suc n) g (b ∷ z) = skipped n g z

-- behind a piece of n bytes, one of which is gone already
past_first : (b : ℕ) (z : Text) (n : ℕ) (g : Gap) → 1 ≤ n → pieces_from (n - 1) g z ≡ pieces_from 0 g (drop n (b ∷ z))
past_first b z zero g low = absurd (omega arith)
past_first b z (suc n) g low =
    let e : suc n - 1 ≡ n = omega arith in
    rw e (skipped n g z)

-- at a blank or a comment
pub part_goes : (z : Text) (n : ℕ) (g : Gap) → 0 < length z → lexed.Gap n ≡ next_piece z → 1 ≤ n
    → pieces_from 0 g z ≡ comment_in (take n z) g ++ pieces_from 0 (behind_part (take n z) g) (drop n z)
unfolding pieces_from
part_goes [] n g some is low = absurd (omega arith)
part_goes (b ∷ z) n g some is low = rw (sym is) (ap (λ v. comment_in (take n (b ∷ z)) g ++ v) (past_first b z n (behind_part (take n (b ∷ z)) g) low))

-- at a token
pub token_goes : (z : Text) (kind : Kind) (n : ℕ) (g : Gap) → 0 < length z → lexed.Token kind n ≡ next_piece z → 1 ≤ n
    → pieces_from 0 g z ≡ piece_of g (mark.Token kind) (take n z) ∷ pieces_from 0 gap.Nothing (drop n z)
unfolding pieces_from
token_goes [] kind n g some is low = absurd (omega arith)
token_goes (b ∷ z) kind n g some is low = rw (sym is) (ap (λ v. piece_of g (mark.Token kind) (take n (b ∷ z)) ∷ v) (past_first b z n gap.Nothing low))

-- at a fault
pub fault_goes : (z : Text) (cause : Cause) (n : ℕ) (g : Gap) → 0 < length z → lexed.Fault cause n ≡ next_piece z → pieces_from 0 g z ≡ []
unfolding pieces_from
fault_goes [] cause n g some is = absurd (omega arith)
fault_goes (b ∷ z) cause n g some is = rw (sym is) refl

-- at the end
pub ends : (g : Gap) → pieces_from 0 g [] ≡ []
unfolding pieces_from
ends g = refl

-- ---- the loop

-- at a blank or a comment
pub part_loop : (s z : Text) (at n : ℕ) (g h : Gap) (p : lex.Piece) (ps qs whole : List Piece) → at < length s → z ≡ drop at s → p ≡ next_piece z → p ≡ lexed.Gap n → PieceTakes (length z) p
    → h ≡ behind_part (take n z) g → qs ≡ ps ++ comment_in (take n z) g → ps ++ pieces_from 0 g (drop at s) ≡ whole
    → (qs ++ pieces_from 0 h (drop (at + n) s) ≡ whole) × (at + n ≤ length s)
part_loop s z at n g h p ps qs whole there here is part moves behind more inv =
    let m : PieceTakes (length z) (lexed.Gap n) = subst (PieceTakes (length z)) part moves in
    let some : 0 < length z = omega (arith, ap length here, length-drop at s) in
    let e : pieces_from 0 g z ≡ comment_in (take n z) g ++ pieces_from 0 (behind_part (take n z) g) (drop n z) = part_goes z n g some (sym part ∙ is) m.0 in
    let far : drop (at + n) s ≡ drop n z = sym (drop-drop n at s) ∙ ap (drop n) (sym here) in (
      ap (λ v. qs ++ pieces_from 0 h v) far ∙ ap (λ v. v ++ pieces_from 0 h (drop n z)) more ∙ ap (λ v. (ps ++ comment_in (take n z) g) ++ pieces_from 0 v (drop n z)) behind
          ∙ append_assoc ps (comment_in (take n z) g) (pieces_from 0 (behind_part (take n z) g) (drop n z)) ∙ ap (λ v. ps ++ v) (sym e) ∙ ap (λ v. ps ++ pieces_from 0 g v) here ∙ inv,
      omega (arith, ap length here, length-drop at s, m.1),
    )

-- at a token
pub token_loop : (s z : Text) (at n : ℕ) (kind : Kind) (g : Gap) (p : lex.Piece) (ps qs whole : List Piece) → at < length s → z ≡ drop at s → p ≡ next_piece z → p ≡ lexed.Token kind n → PieceTakes (length z) p
    → qs ≡ ps ++ piece_of g (mark.Token kind) (take n z) ∷ [] → ps ++ pieces_from 0 g (drop at s) ≡ whole
    → (qs ++ pieces_from 0 gap.Nothing (drop (at + n) s) ≡ whole) × (at + n ≤ length s)
token_loop s z at n kind g p ps qs whole there here is token moves more inv =
    let m : PieceTakes (length z) (lexed.Token kind n) = subst (PieceTakes (length z)) token moves in
    let some : 0 < length z = omega (arith, ap length here, length-drop at s) in
    let one : Piece = piece_of g (mark.Token kind) (take n z) in
    let e : pieces_from 0 g z ≡ one ∷ pieces_from 0 gap.Nothing (drop n z) = token_goes z kind n g some (sym token ∙ is) m.0 in
    let far : drop (at + n) s ≡ drop n z = sym (drop-drop n at s) ∙ ap (drop n) (sym here) in (
      ap (λ v. qs ++ pieces_from 0 gap.Nothing v) far ∙ ap (λ v. v ++ pieces_from 0 gap.Nothing (drop n z)) more
          ∙ append_assoc ps (one ∷ []) (pieces_from 0 gap.Nothing (drop n z)) ∙ ap (λ v. ps ++ v) (sym e) ∙ ap (λ v. ps ++ pieces_from 0 g v) here ∙ inv,
      omega (arith, ap length here, length-drop at s, m.1),
    )

-- at a fault
pub fault_loop : (s z : Text) (at n : ℕ) (cause : Cause) (g : Gap) (p : lex.Piece) (ps whole : List Piece) → at < length s → z ≡ drop at s → p ≡ next_piece z → p ≡ lexed.Fault cause n
    → ps ++ pieces_from 0 g (drop at s) ≡ whole → ps ≡ whole
fault_loop s z at n cause g p ps whole there here is fault inv =
    let some : 0 < length z = omega (arith, ap length here, length-drop at s) in
    sym (append-nil ps) ∙ ap (λ v. ps ++ v) (sym (fault_goes z cause n g some (sym fault ∙ is))) ∙ ap (λ v. ps ++ pieces_from 0 g v) here ∙ inv

-- at the end
pub end_loop : (s : Text) (at : ℕ) (g : Gap) (ps whole : List Piece) → length s ≤ at → ps ++ pieces_from 0 g (drop at s) ≡ whole → ps ≡ whole
end_loop s at g ps whole past inv = sym (append-nil ps) ∙ ap (λ v. ps ++ v) (sym (ends g)) ∙ ap (λ v. ps ++ pieces_from 0 g v) (sym (drop_all at s past)) ∙ inv
