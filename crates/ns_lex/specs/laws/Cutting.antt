-- The tokens of a scan cut the source.
use Rattle.std.proofs.Common.{◌≡◌, ℕ, zero, suc, ◌+◌, ◌≤◌, ◌<◌, List, [], ◌∷◌, ◌++◌, Ok, Err, inl, inr, length, take, drop, refl, sym, ap, subst, ◌∙◌, append_assoc, length-append, length-drop, arith}
use Rattle.std.proofs.lemmas.List.{take-append-drop}
use Rattle.ns_tree.specs.declared.token.Token.{Token}
use Rattle.ns_tree.specs.declared.token.Kind.{Kind}
use Rattle.ns_lex.specs.declared.piece.Piece.{Piece}
use Rattle.ns_lex.specs.declared.piece.Piece.TheVariants as piece
use Rattle.ns_lex.specs.declared.piece.Cause.{Cause}
use Rattle.ns_lex.specs.declared.piece.Cause.TheVariants as cause
use Rattle.ns_lex.specs.declared.fault.LexFault.{LexFault}
use Rattle.ns_lex.specs.Fault.{fault_at}
use Rattle.ns_lex.specs.Next.{next_piece}
use Rattle.ns_lex.specs.Piece.{Text}
use Rattle.ns_lex.specs.Scan.{Tokens, scan, scan_from, before}
use Rattle.ns_lex.specs.Gap.{IsGap, IsGapPart, BeginsNoGap}
use Rattle.ns_lex.specs.Lexes.{Gapped, Cuts, Lexes, BeginsNoFault, IsFault, StopsAt}
use Rattle.ns_lex.specs.laws.Steps.{gap_goes, token_goes, fault_goes, ends}
use Rattle.ns_lex.specs.laws.Words.{length_taken}
use Rattle.ns_lex.specs.laws.Gaps.{IsPart}
use Rattle.ns_lex.specs.laws.Pieces.{next_gap, next_token, next_fault, IsFirst}
use Rattle.ns_lex.specs.lemmas.Stops.{IsStop}

-- a part of a gap before a gap
gap_more : (p g : Text) → IsGapPart p → IsGap g → IsGap (p ++ g)
gap_more p g h (ps, x) = (p ∷ ps, (h, (g, refl, x)))

gapped_more : (n : ℕ) (z g y : Text) → IsPart z n → Gapped (drop n z) g y → Gapped z (take n z ++ g) y
gapped_more n z g y part x = record {
  gap = gap_more (take n z) g part.part x.gap;
  cut = sym (take-append-drop n z) ∙ ap (λ w. take n z ++ w) x.cut ∙ sym (append_assoc (take n z) g y);
  most = x.most;
}

longer_gap : (n : ℕ) (z g : Text) → IsPart z n → length (take n z ++ g) ≡ n + length g
longer_gap n z g part = omega (arith, length_taken z n part.size, length-append (take n z) g)

-- tokens from a place on, from another that is equal to it
at_place : (at to : ℕ) (z : Text) (ts : List Token) (behind : ℕ) (rest : Text) → at ≡ to → Cuts at z ts behind rest → Cuts to z ts behind rest
at_place at to z ts behind rest e x = subst (λ i. Cuts i z ts behind rest) e x

-- A part of a gap may stand before.
pub cuts_gap : (at n : ℕ) (z : Text) (ts : List Token) (behind : ℕ) (rest : Text) → IsPart z n → Cuts (at + n) (drop n z) ts behind rest → Cuts at z ts behind rest
cuts_gap at n z [] behind rest part (g, x, place) = (take n z ++ g, gapped_more n z g rest part x, omega (arith, place, longer_gap n z g part))
cuts_gap at n z (t ∷ ts) behind rest part (g, w, q, s, more) =
    let long : length (take n z ++ g) ≡ n + length g = longer_gap n z g part in (
      take n z ++ g,
      w,
      q,
      record { front = gapped_more n z g (w ++ q) part s.front; fault = s.fault; next = s.next; start = omega (arith, s.start, long); stop = omega (arith, s.stop, long) },
      at_place (at + n + length g + length w) (at + length (take n z ++ g) + length w) q ts behind rest (omega (arith, long)) more,
    )

abbrev token_of : Kind → ℕ → ℕ → Token
token_of kind at n = record { kind = kind; start = at; «end» = at + n }

-- A token may stand before.
pub cuts_token : (at n : ℕ) (z : Text) (kind : Kind) (ts : List Token) (behind : ℕ) (rest : Text) → IsFirst z kind n → Cuts (at + n) (drop n z) ts behind rest → Cuts at z (token_of kind at n ∷ ts) behind rest
cuts_token at n z kind ts behind rest x more =
    let size : length (take n z) ≡ n = length_taken z n x.token.size in
    let whole : z ≡ take n z ++ drop n z = sym (take-append-drop n z) in (
      [],
      take n z,
      drop n z,
      record {
        front = record { gap = ([], refl); cut = whole; most = subst BeginsNoGap whole x.gap };
        fault = subst BeginsNoFault whole x.fault;
        next = x.token.next;
        start = omega arith;
        stop = omega (arith, size);
      },
      at_place (at + n) (at + 0 + length (take n z)) (drop n z) ts behind rest (omega (arith, size)) more,
    )

no_part_of : IsGapPart [] → ⊥
no_part_of (inl (b, h, e)) = absurd cc
no_part_of (inr (inl (i, m, e))) = absurd cc
no_part_of (inr (inr (s, h, e))) = absurd cc

abbrev ok_of : List Token → Tokens
ok_of ts = Ok ts

same_ok : (ts us : List Token) → ok_of ts ≡ ok_of us → ts ≡ us
same_ok ts us e = cc

no_part : (p : Text) → [] ≡ p → IsGapPart p → ⊥
no_part p e h = no_part_of (subst IsGapPart (sym e) h)

nothing : BeginsNoGap []
nothing [] q cut x = no_part [] refl x
nothing (b ∷ p) q cut x = absurd cc

-- the tokens behind a first one
before_ok : (t : Token) (r : Tokens) (ts : List Token) → before (t ∷ []) r ≡ Ok ts → (us : List Token) × (r ≡ Ok us) × (ts ≡ t ∷ us)
before_ok t (Ok us) ts e = (us, refl, sym (let f : t ∷ us ≡ ts = cc in f))
before_ok t (Err e) ts f = absurd cc

longer : (z : Text) (n l : ℕ) → 0 < n → n ≤ length z → length z ≤ suc l → length (drop n z) ≤ l
longer z n l some fits h = omega (arith, length-drop n z)

-- what a scan of a text of at most so many bytes gives
step_cuts : (l at b : ℕ) (y : Text) (p : Piece) (ts : List Token) → length (b ∷ y) ≤ suc l → next_piece (b ∷ y) ≡ p
    → ((at : ℕ) (z : Text) (ts : List Token) → length z ≤ l → scan_from 0 at z ≡ Ok ts → Cuts at z ts (at + length z) []) → scan_from 0 at (b ∷ y) ≡ Ok ts → Cuts at (b ∷ y) ts (at + length (b ∷ y)) []
step_cuts l at b y (piece.Gap n) ts h is after e =
    let part : IsPart (b ∷ y) n = next_gap b y n is in
    let rest : scan_from 0 (at + n) (drop n (b ∷ y)) ≡ Ok ts = sym (gap_goes (b ∷ y) n at (omega arith) (sym is) (omega (arith, part.some)) part.size) ∙ e in
    let more : Cuts (at + n) (drop n (b ∷ y)) ts (at + n + length (drop n (b ∷ y))) [] = after (at + n) (drop n (b ∷ y)) ts (longer (b ∷ y) n l part.some part.size h) rest in
    cuts_gap at n (b ∷ y) ts (at + length (b ∷ y)) [] part (subst (λ i. Cuts (at + n) (drop n (b ∷ y)) ts i []) (omega (arith, length-drop n (b ∷ y), part.size)) more)
step_cuts l at b y (piece.Token kind n) ts h is after e =
    let x : IsFirst (b ∷ y) kind n = next_token b y kind n is in
    let whole : before (token_of kind at n ∷ []) (scan_from 0 (at + n) (drop n (b ∷ y))) ≡ Ok ts = sym (token_goes (b ∷ y) kind n at (omega arith) (sym is) (omega (arith, x.some)) x.token.size) ∙ e in
    let us = before_ok (token_of kind at n) (scan_from 0 (at + n) (drop n (b ∷ y))) ts whole in
    let more : Cuts (at + n) (drop n (b ∷ y)) us.0 (at + n + length (drop n (b ∷ y))) [] = after (at + n) (drop n (b ∷ y)) us.0 (longer (b ∷ y) n l x.some x.token.size h) us.1 in
    subst (λ v. Cuts at (b ∷ y) v (at + length (b ∷ y)) []) (sym us.2)
    (cuts_token at n (b ∷ y) kind us.0 (at + length (b ∷ y)) [] x (subst (λ i. Cuts (at + n) (drop n (b ∷ y)) us.0 i []) (omega (arith, length-drop n (b ∷ y), x.token.size)) more))
step_cuts l at b y (piece.Fault cause n) ts h is after e = let f : Err (fault_at cause (at + n)) ≡ Ok ts = sym (fault_goes (b ∷ y) cause n at (omega arith) (sym is)) ∙ e in absurd cc

end_cuts : (at : ℕ) (ts : List Token) → scan_from 0 at [] ≡ Ok ts → Cuts at [] ts (at + 0) []
end_cuts at ts e =
    let f : [] ≡ ts = same_ok [] ts (sym (ends at) ∙ e) in
    subst (λ v. Cuts at [] v (at + 0) []) f ([], record { gap = ([], refl); cut = refl; most = nothing }, refl)

scan_cuts : (l at : ℕ) (z : Text) (ts : List Token) → length z ≤ l → scan_from 0 at z ≡ Ok ts → Cuts at z ts (at + length z) []
scan_cuts l at [] ts h e = end_cuts at ts e
scan_cuts zero at (b ∷ y) ts h e = absurd (omega (arith, h))
scan_cuts (suc l) at (b ∷ y) ts h e = step_cuts l at b y (next_piece (b ∷ y)) ts h refl (scan_cuts l) e

-- The tokens of a scan cut the source.
pub scan_lexes : (source : Text) (ts : List Token) → scan source ≡ Ok ts → Lexes source ts
scan_lexes source ts e = subst (λ i. Cuts 0 source ts i []) (omega arith) (scan_cuts (length source) 0 source ts (omega arith) e)

-- ---- where the scan stops

-- Tokens cut a text up to a fault, which is this one.
record Stopped (at : ℕ) (z : Text) (f : LexFault) : Type 0 where
  tokens : List Token
  behind : ℕ
  rest : Text
  cause : Cause
  place : ℕ
  cuts : Cuts at z tokens behind rest
  named : IsFault rest cause place
  is : f ≡ fault_at cause (behind + place)

abbrev err_of : LexFault → Tokens
err_of f = Err f

same_err : (f g : LexFault) → err_of f ≡ err_of g → f ≡ g
same_err f g e = cc

before_err : (t : Token) (r : Tokens) (f : LexFault) → before (t ∷ []) r ≡ Err f → r ≡ Err f
before_err t (Ok us) f e = absurd cc
before_err t (Err g) f e = e

step_stops : (l at b : ℕ) (y : Text) (p : Piece) (f : LexFault) → length (b ∷ y) ≤ suc l → next_piece (b ∷ y) ≡ p
    → ((at : ℕ) (z : Text) (f : LexFault) → length z ≤ l → scan_from 0 at z ≡ Err f → Stopped at z f) → scan_from 0 at (b ∷ y) ≡ Err f → Stopped at (b ∷ y) f
step_stops l at b y (piece.Gap n) f h is after e =
    let part : IsPart (b ∷ y) n = next_gap b y n is in
    let rest : scan_from 0 (at + n) (drop n (b ∷ y)) ≡ Err f = sym (gap_goes (b ∷ y) n at (omega arith) (sym is) (omega (arith, part.some)) part.size) ∙ e in
    let x : Stopped (at + n) (drop n (b ∷ y)) f = after (at + n) (drop n (b ∷ y)) f (longer (b ∷ y) n l part.some part.size h) rest in
    record { tokens = x.tokens; behind = x.behind; rest = x.rest; cause = x.cause; place = x.place; cuts = cuts_gap at n (b ∷ y) x.tokens x.behind x.rest part x.cuts; named = x.named; is = x.is }
step_stops l at b y (piece.Token kind n) f h is after e =
    let first : IsFirst (b ∷ y) kind n = next_token b y kind n is in
    let whole : before (token_of kind at n ∷ []) (scan_from 0 (at + n) (drop n (b ∷ y))) ≡ Err f = sym (token_goes (b ∷ y) kind n at (omega arith) (sym is) (omega (arith, first.some)) first.token.size) ∙ e in
    let x : Stopped (at + n) (drop n (b ∷ y)) f = after (at + n) (drop n (b ∷ y)) f (longer (b ∷ y) n l first.some first.token.size h) (before_err (token_of kind at n) (scan_from 0 (at + n) (drop n (b ∷ y))) f whole) in
    record { tokens = token_of kind at n ∷ x.tokens; behind = x.behind; rest = x.rest; cause = x.cause; place = x.place; cuts = cuts_token at n (b ∷ y) kind x.tokens x.behind x.rest first x.cuts; named = x.named; is = x.is }
step_stops l at b y (piece.Fault cause n) f h is after e =
    let stop : IsStop (b ∷ y) cause n = next_fault b y cause n is in
    record {
      tokens = [];
      behind = at;
      rest = b ∷ y;
      cause = cause;
      place = n;
      cuts = ([], record { gap = ([], refl); cut = refl; most = stop.gap }, omega arith);
      named = stop.fault;
      is = same_err f (fault_at cause (at + n)) (sym e ∙ fault_goes (b ∷ y) cause n at (omega arith) (sym is));
    }

scan_stopped : (l at : ℕ) (z : Text) (f : LexFault) → length z ≤ l → scan_from 0 at z ≡ Err f → Stopped at z f
scan_stopped l at [] f h e = let g : ok_of [] ≡ err_of f = sym (ends at) ∙ e in absurd cc
scan_stopped zero at (b ∷ y) f h e = absurd (omega (arith, h))
scan_stopped (suc l) at (b ∷ y) f h e = step_stops l at b y (next_piece (b ∷ y)) f h refl (scan_stopped l) e

stops_by : (source : Text) (c : Cause) (ts : List Token) (at : ℕ) (rest : Text) (m : ℕ) → Cuts 0 source ts at rest → IsFault rest c m → StopsAt source (fault_at c (at + m))
stops_by source cause.BadByte ts at rest m x y = (ts, at, rest, m, x, y, refl)
stops_by source cause.UnclosedComment ts at rest m x y = (ts, at, rest, m, x, y, refl)
stops_by source cause.UnclosedString ts at rest m x y = (ts, at, rest, m, x, y, refl)
stops_by source cause.BigNumber ts at rest m x y = (ts, at, rest, m, x, y, refl)

-- The fault of a scan is where the source stops to be cut.
pub scan_stops : (source : Text) (f : LexFault) → scan source ≡ Err f → StopsAt source f
scan_stops source f e =
    let x : Stopped 0 source f = scan_stopped (length source) 0 source f (omega arith) e in
    subst (StopsAt source) (sym x.is) (stops_by source x.cause x.tokens x.behind x.rest x.place x.cuts x.named)
