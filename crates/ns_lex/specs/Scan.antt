-- The tokens of a source, or its first fault: a piece after a piece.
use Rattle.std.specs.Prelude.{ℕ, zero, suc, ◌+◌, ◌-◌, ◌≤◌, ◌<◌, List, [], ◌∷◌, ◌++◌, Result, Ok, Err}
use Rattle.ns_tree.specs.declared.token.Token.{Token}
use Rattle.ns_lex.specs.declared.piece.Piece.{Piece}
use Rattle.ns_lex.specs.declared.piece.Piece.TheVariants as piece
use Rattle.ns_lex.specs.declared.fault.LexFault.{LexFault}
use Rattle.ns_lex.specs.Fault.{fault_at}
use Rattle.ns_lex.specs.Next.{next_piece}
use Rattle.ns_lex.specs.Piece.{Text}

abbrev pub Tokens : Type 0
Tokens = Result (List Token) LexFault

-- these tokens, before those of the rest
abbrev pub before : List Token → Tokens → Tokens
before ts (Ok us) = Ok (ts ++ us)
before ts (Err fault) = Err fault

-- what a piece at this place gives, where `rest n` is what comes n bytes further on
abbrev pub step : Piece → ℕ → (ℕ → Tokens) → Tokens
step (piece.Gap n) at rest = rest n
step (piece.Token kind n) at rest = before (record { kind = kind; start = at; «end» = at + n } ∷ []) (rest n)
step (piece.Fault cause n) at rest = Err (fault_at cause (at + n))

-- the tokens of a text that stands at a place, but for its first bytes, which an earlier piece takes
unfoldable pub scan_from : ℕ → ℕ → Text → Tokens
scan_from skip at [] = Ok []
scan_from zero at (b ∷ z) = step (next_piece (b ∷ z)) at (λ n. scan_from (n - 1) (at + 1) z)
scan_from (suc skip) at (b ∷ z) = scan_from skip (at + 1) z

-- the tokens of a source, or its first fault
abbrev pub scan : Text → Tokens
scan = scan_from 0 0

-- The tokens stand one behind the other, none of them empty, from one place up to another.
abbrev pub InOrder : ℕ → ℕ → List Token → Type 0
InOrder from to [] = from ≤ to
InOrder from to (t ∷ ts) = (from ≤ t.start) × (t.start < t.«end») × InOrder t.«end» to ts
