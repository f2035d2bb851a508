-- A step of the scan, as the loop of `lex` makes it.
use Rattle.std.proofs.Common.{◌≡◌, ℕ, zero, suc, ◌+◌, ◌-◌, ◌<◌, ◌≤◌, List, [], ◌∷◌, ◌++◌, Ok, Err, length, drop, refl, ap, sym, ◌∙◌, subst, append_assoc, length-append, arith}
use Rattle.std.proofs.lemmas.List.{length-drop, drop-drop, drop_all, append-nil}
use Rattle.ns_tree.specs.declared.token.Token.{Token}
use Rattle.ns_tree.specs.declared.token.Kind.{Kind}
use Rattle.ns_lex.specs.declared.piece.Piece.{Piece}
use Rattle.ns_lex.specs.declared.piece.Piece.TheVariants as piece
use Rattle.ns_lex.specs.declared.piece.Cause.{Cause}
use Rattle.ns_lex.specs.Fault.{fault_at}
use Rattle.ns_lex.specs.Next.{next_piece}
use Rattle.ns_lex.specs.Piece.{PieceTakes, Text}
use Rattle.ns_lex.specs.Scan.{Tokens, scan_from, before, InOrder}

-- Skipping bytes is going on behind them.
pub scan_skip : (n at : ℕ) (z : Text) → n ≤ length z → scan_from n at z ≡ scan_from 0 (at + n) (drop n z)
unfolding scan_from
scan_skip zero at z h = ap (λ m. scan_from 0 m z) (omega arith)
scan_skip (suc n) at [] h = absurd (omega arith)
scan_skip (suc n) at (b ∷ z) h = scan_skip n (at + 1) z (omega arith) ∙ ap (λ m. scan_from 0 m (drop n z)) (omega arith)

-- behind a piece of n bytes, one of which is gone already
past_first : (b : ℕ) (z : Text) (n at : ℕ) → 1 ≤ n → n ≤ length (b ∷ z) → scan_from (n - 1) (at + 1) z ≡ scan_from 0 (at + n) (drop n (b ∷ z))
past_first b z zero at low high = absurd (omega arith)
past_first b z (suc n) at low high =
    let e : suc n - 1 ≡ n = omega arith in
    rw e (scan_skip n (at + 1) z (omega arith) ∙ ap (λ m. scan_from 0 m (drop n z)) (omega arith))

-- A gap gives nothing.
pub gap_goes : (z : Text) (n at : ℕ) → 0 < length z → piece.Gap n ≡ next_piece z → 1 ≤ n → n ≤ length z → scan_from 0 at z ≡ scan_from 0 (at + n) (drop n z)
unfolding scan_from
gap_goes [] n at some is low high = absurd (omega arith)
gap_goes (b ∷ z) n at some is low high = rw (sym is) (past_first b z n at low high)

-- A token comes before those of the rest.
pub token_goes : (z : Text) (kind : Kind) (n at : ℕ) → 0 < length z → piece.Token kind n ≡ next_piece z → 1 ≤ n → n ≤ length z
    → scan_from 0 at z ≡ before (record { kind = kind; start = at; «end» = at + n } ∷ []) (scan_from 0 (at + n) (drop n z))
unfolding scan_from
token_goes [] kind n at some is low high = absurd (omega arith)
token_goes (b ∷ z) kind n at some is low high = rw (sym is) (ap (before (record { kind = kind; start = at; «end» = at + n } ∷ [])) (past_first b z n at low high))

-- A fault is the answer.
pub fault_goes : (z : Text) (cause : Cause) (n at : ℕ) → 0 < length z → piece.Fault cause n ≡ next_piece z → scan_from 0 at z ≡ Err (fault_at cause (at + n))
unfolding scan_from
fault_goes [] cause n at some is = absurd (omega arith)
fault_goes (b ∷ z) cause n at some is = rw (sym is) refl

-- At the end there is no token more.
pub ends : (at : ℕ) → scan_from 0 at [] ≡ Ok []
unfolding scan_from
ends at = refl

-- Tokens before tokens are the tokens of both before.
pub before_both : (ts us : List Token) (r : Tokens) → before (ts ++ us) r ≡ before ts (before us r)
before_both ts us (Ok vs) = ap Ok (append_assoc ts us vs)
before_both ts us (Err e) = refl

-- the loop at a gap
pub gap_loop : (s z : Text) (at n : ℕ) (p : Piece) (ts : List Token) (whole : Tokens) → at < length s → z ≡ drop at s → p ≡ next_piece z → p ≡ piece.Gap n → PieceTakes (length z) p
    → before ts (scan_from 0 at (drop at s)) ≡ whole → length ts ≤ at
    → (before ts (scan_from 0 (at + n) (drop (at + n) s)) ≡ whole) × (at + n ≤ length s) × (length ts ≤ at + n)
gap_loop s z at n p ts whole h here is gap moves inv count =
    let m : PieceTakes (length (drop at s)) (piece.Gap n) = subst (λ y. PieceTakes (length y) (piece.Gap n)) here (subst (PieceTakes (length z)) gap moves) in
    let e : scan_from 0 at (drop at s) ≡ scan_from 0 (at + n) (drop n (drop at s)) = gap_goes (drop at s) n at (omega (arith, length-drop at s)) (sym gap ∙ is ∙ ap next_piece here) m.0 m.1 in
    (ap (λ z. before ts (scan_from 0 (at + n) z)) (sym (drop-drop n at s)) ∙ ap (before ts) (sym e) ∙ inv, omega (arith, length-drop at s, m.1), omega arith)

-- the loop at a token
pub token_loop : (s z : Text) (at n : ℕ) (kind : Kind) (p : Piece) (ts us : List Token) (whole : Tokens) → at < length s → z ≡ drop at s → p ≡ next_piece z → p ≡ piece.Token kind n → PieceTakes (length z) p
    → us ≡ ts ++ record { kind = kind; start = at; «end» = at + n } ∷ []
    → before ts (scan_from 0 at (drop at s)) ≡ whole → length ts ≤ at
    → (before us (scan_from 0 (at + n) (drop (at + n) s)) ≡ whole) × (at + n ≤ length s) × (length us ≤ at + n)
token_loop s z at n kind p ts us whole h here is token moves more inv count =
    let t : Token = record { kind = kind; start = at; «end» = at + n } in
    let m : PieceTakes (length (drop at s)) (piece.Token kind n) = subst (λ y. PieceTakes (length y) (piece.Token kind n)) here (subst (PieceTakes (length z)) token moves) in
    let e : scan_from 0 at (drop at s) ≡ before (t ∷ []) (scan_from 0 (at + n) (drop n (drop at s))) = token_goes (drop at s) kind n at (omega (arith, length-drop at s)) (sym token ∙ is ∙ ap next_piece here) m.0 m.1 in
    let low : 1 ≤ n = m.0 in (
      ap (λ z. before us (scan_from 0 (at + n) z)) (sym (drop-drop n at s)) ∙ ap (λ v. before v (scan_from 0 (at + n) (drop n (drop at s)))) more ∙ before_both ts (t ∷ []) _ ∙ ap (before ts) (sym e) ∙ inv,
      omega (arith, length-drop at s, m.1),
      omega (arith, ap length more, length-append ts (t ∷ [])),
    )

-- the loop at a fault
pub fault_loop : (s z : Text) (at n : ℕ) (cause : Cause) (p : Piece) (ts : List Token) (whole : Tokens) → at < length s → z ≡ drop at s → p ≡ next_piece z → p ≡ piece.Fault cause n
    → before ts (scan_from 0 at (drop at s)) ≡ whole → whole ≡ Err (fault_at cause (at + n))
fault_loop s z at n cause p ts whole h here is fault inv = sym inv ∙ ap (before ts) (fault_goes (drop at s) cause n at (omega (arith, length-drop at s)) (sym fault ∙ is ∙ ap next_piece here))

-- the loop at its end
pub end_loop : (s : Text) (at : ℕ) (ts : List Token) (whole : Tokens) → length s ≤ at → before ts (scan_from 0 at (drop at s)) ≡ whole → whole ≡ Ok ts
end_loop s at ts whole h inv = sym inv ∙ ap (λ z. before ts (scan_from 0 at z)) (drop_all at s h) ∙ ap (before ts) (ends at) ∙ ap Ok (append-nil ts)

-- Tokens that end before a place end before a later one.
pub later : (from to more : ℕ) (ts : List Token) → to ≤ more → InOrder from to ts → InOrder from more ts
later from to more [] h o = omega (arith, o)
later from to more (t ∷ ts) h o = (o.0, o.1, later t.«end» to more ts h o.2)

-- one token more
pub one_more : (from to more : ℕ) (ts : List Token) (t : Token) → InOrder from to ts → to ≤ t.start → t.start < t.«end» → t.«end» ≤ more → InOrder from more (ts ++ t ∷ [])
one_more from to more [] t o low some high = (omega (arith, o), some, high)
one_more from to more (s ∷ ts) t o low some high = (o.0, o.1, one_more s.«end» to more ts t o.2 low some high)

-- A token takes a byte at least.
pub token_grows : (len at : ℕ) (p : Piece) (kind : Kind) (n : ℕ) → p ≡ piece.Token kind n → PieceTakes len p → at < at + n
token_grows len at p kind n is moves = let m : PieceTakes len (piece.Token kind n) = subst (PieceTakes len) is moves in omega (arith, m.0)
