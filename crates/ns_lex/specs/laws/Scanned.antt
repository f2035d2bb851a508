-- What becomes of a source is what its scan says.
use Rattle.std.proofs.Common.{◌≡◌, ℕ, zero, suc, ◌+◌, ◌-◌, ◌⊎◌, inl, inr, List, [], ◌∷◌, Ok, Err, refl, ap, ◌∙◌}
use Rattle.ns_tree.specs.declared.token.Token.{Token}
use Rattle.ns_lex.specs.Fault.{fault_at}
use Rattle.ns_lex.specs.Lexes.{Lexes, LexStops}
use Rattle.ns_lex.specs.Next.{next_piece}
use Rattle.ns_lex.specs.Piece.{Text}
use Rattle.ns_lex.specs.Scan.{Tokens, scan, scan_from, before, step}
use Rattle.ns_lex.specs.declared.fault.LexFault.TheVariants as fault
use Rattle.ns_lex.specs.declared.piece.Piece.{Piece}
use Rattle.ns_lex.specs.declared.piece.Piece.TheVariants as piece
use Rattle.ns_lex.specs.declared.piece.Cause.{Cause}
use Rattle.ns_lex.specs.declared.piece.Cause.TheVariants as cause
use Rattle.ns_lex.specs.laws.Cutting.{scan_lexes, scan_stops}
use Rattle.ns_lex.specs.lemmas.OneCut.{one_lexes, lexes_whole}
use Rattle.ns_lex.specs.lemmas.OneStop.{one_stop}

-- ---- no scan wants memory

abbrev no_memory_in : Tokens → Type 0
no_memory_in r = r ≡ Err fault.Memory → ⊥

before_memory : (ts : List Token) (r : Tokens) → no_memory_in r → no_memory_in (before ts r)
before_memory ts (Ok us) h e = absurd cc
before_memory ts (Err f) h e = h e

fault_memory : (c : Cause) (n : ℕ) → no_memory_in (Err (fault_at c n))
fault_memory cause.BadByte n e = cc
fault_memory cause.UnclosedComment n e = cc
fault_memory cause.UnclosedString n e = cc
fault_memory cause.BigNumber n e = cc

by_piece : (p : Piece) (at : ℕ) (rest : ℕ → Tokens) → ((n : ℕ) → no_memory_in (rest n)) → no_memory_in (step p at rest)
by_piece (piece.Gap n) at rest h = h n
by_piece (piece.Token kind n) at rest h = before_memory (record { kind = kind; start = at; «end» = at + n } ∷ []) (rest n) (h n)
by_piece (piece.Fault c n) at rest h = fault_memory c (at + n)

no_memory : (skip at : ℕ) (z : Text) → no_memory_in (scan_from skip at z)
unfolding scan_from
no_memory skip at [] e = absurd cc
no_memory zero at (b ∷ z) e = by_piece (next_piece (b ∷ z)) at (λ n. scan_from (n - 1) (at + 1) z) (λ n. no_memory (n - 1) (at + 1) z) e
no_memory (suc skip) at (b ∷ z) e = no_memory skip (at + 1) z e

-- ---- a source that is cut is scanned

by_scan : (source : Text) (ts : List Token) (r : Tokens) → Lexes source ts → scan source ≡ r → r ≡ Ok ts
by_scan source ts (Ok us) x e = ap Ok (one_lexes source us ts (scan_lexes source us e) x)
by_scan source ts (Err (fault.BadByte n)) x e = absurd (lexes_whole source ts n cause.BadByte x (scan_stops source (fault.BadByte n) e))
by_scan source ts (Err (fault.UnclosedComment n)) x e = absurd (lexes_whole source ts n cause.UnclosedComment x (scan_stops source (fault.UnclosedComment n) e))
by_scan source ts (Err (fault.UnclosedString n)) x e = absurd (lexes_whole source ts n cause.UnclosedString x (scan_stops source (fault.UnclosedString n) e))
by_scan source ts (Err (fault.BigNumber n)) x e = absurd (lexes_whole source ts n cause.BigNumber x (scan_stops source (fault.BigNumber n) e))
by_scan source ts (Err fault.Memory) x e = absurd (no_memory 0 0 source e)

-- The tokens that cut a source are those of its scan.
pub lexes_scanned : (source : Text) (ts : List Token) → Lexes source ts → scan source ≡ Ok ts
lexes_scanned source ts x = by_scan source ts (scan source) x refl

-- ---- a source that stops is scanned

abbrev err_of : Cause → ℕ → Tokens
err_of c n = Err (fault_at c n)

fault_same : (source : Text) (n m : ℕ) (c d : Cause) → LexStops source n c → LexStops source m d → err_of d m ≡ err_of c n
fault_same source n m c d x y = let e = one_stop source m n d c y x in ap (err_of d) e.0 ∙ ap (λ i. err_of i n) e.1

stop_by_scan : (source : Text) (n : ℕ) (c : Cause) (r : Tokens) → LexStops source n c → scan source ≡ r → r ≡ Err (fault_at c n)
stop_by_scan source n c (Ok ts) x e = absurd (lexes_whole source ts n c (scan_lexes source ts e) x)
stop_by_scan source n c (Err (fault.BadByte m)) x e = fault_same source n m c cause.BadByte x (scan_stops source (fault.BadByte m) e)
stop_by_scan source n c (Err (fault.UnclosedComment m)) x e = fault_same source n m c cause.UnclosedComment x (scan_stops source (fault.UnclosedComment m) e)
stop_by_scan source n c (Err (fault.UnclosedString m)) x e = fault_same source n m c cause.UnclosedString x (scan_stops source (fault.UnclosedString m) e)
stop_by_scan source n c (Err (fault.BigNumber m)) x e = fault_same source n m c cause.BigNumber x (scan_stops source (fault.BigNumber m) e)
stop_by_scan source n c (Err fault.Memory) x e = absurd (no_memory 0 0 source e)

-- The fault that stops a source is that of its scan.
pub stop_scanned : (source : Text) (n : ℕ) (c : Cause) → LexStops source n c → scan source ≡ Err (fault_at c n)
stop_scanned source n c x = stop_by_scan source n c (scan source) x refl

pub scanned_stop : (source : Text) (n : ℕ) (c : Cause) → scan source ≡ Err (fault_at c n) → LexStops source n c
scanned_stop source n cause.BadByte e = scan_stops source (fault.BadByte n) e
scanned_stop source n cause.UnclosedComment e = scan_stops source (fault.UnclosedComment n) e
scanned_stop source n cause.UnclosedString e = scan_stops source (fault.UnclosedString n) e
scanned_stop source n cause.BigNumber e = scan_stops source (fault.BigNumber n) e

-- ---- each source

-- Tokens cut the source, or a fault stops it.
abbrev CutOrStopped : Text → Type 0
CutOrStopped source = ((tokens : List Token) × Lexes source tokens) ⊎ ((at : ℕ) × (why : Cause) × LexStops source at why)

some_by_scan : (source : Text) (r : Tokens) → scan source ≡ r → CutOrStopped source
some_by_scan source (Ok ts) e = inl (ts, scan_lexes source ts e)
some_by_scan source (Err (fault.BadByte n)) e = inr (n, cause.BadByte, scan_stops source (fault.BadByte n) e)
some_by_scan source (Err (fault.UnclosedComment n)) e = inr (n, cause.UnclosedComment, scan_stops source (fault.UnclosedComment n) e)
some_by_scan source (Err (fault.UnclosedString n)) e = inr (n, cause.UnclosedString, scan_stops source (fault.UnclosedString n) e)
some_by_scan source (Err (fault.BigNumber n)) e = inr (n, cause.BigNumber, scan_stops source (fault.BigNumber n) e)
some_by_scan source (Err fault.Memory) e = absurd (no_memory 0 0 source e)

-- Tokens cut each source, or a fault stops it.
pub cut_or_stopped : (source : Text) → CutOrStopped source
cut_or_stopped source = some_by_scan source (scan source) refl
