-- Which tokens cut a source, and where a source stops to be cut: what the lexer answers, said of the whole source.
use Rattle.std.specs.Prelude.{◌≡◌, ◌≢◌, ℕ, ◌+◌, ◌≤◌, ◌<◌, ◌⊎◌, true, false, List, [], ◌∷◌, ◌++◌, length, slice_index}
use Rattle.ns_base.specs.Spelling.{is_digit, begins_name}
use Rattle.ns_tree.specs.declared.token.Token.{Token}
use Rattle.ns_tree.specs.declared.token.Kind.{Kind}
use Rattle.ns_tree.specs.declared.token.Kind.TheVariants as k
use Rattle.ns_lex.specs.declared.piece.Cause.{Cause}
use Rattle.ns_lex.specs.declared.piece.Cause.TheVariants as cause
use Rattle.ns_lex.specs.declared.fault.LexFault.{LexFault}
use Rattle.ns_lex.specs.declared.fault.LexFault.TheVariants as fault
use Rattle.ns_lex.specs.Piece.{Text}
use Rattle.ns_lex.specs.Number.{value, greatest}
use Rattle.ns_lex.specs.Spells.{AllOf, IsIdentifierText, SpellsToken}
use Rattle.ns_lex.specs.Gap.{IsGap, IsGapPart, BeginsNoGap}

-- The text w with q behind it spells the token. A string ends at a quote that no quote follows.
abbrev pub SpellsInText : Text → Text → Kind → Type 0
SpellsInText w q (k.Str s) = SpellsToken w (k.Str s) × (slice_index q 0 ≢ 39)
SpellsInText w q t = SpellsToken w t

-- No longer text from the same start spells a token.
abbrev pub Longest : Text → Text → Type 0
Longest w q = (p r : Text) (t : Kind) → w ++ q ≡ p ++ r → SpellsInText p r t → length p ≤ length w

-- An identifier's text stands directly before `::=`.
abbrev pub BeforeSlotSet : Text → Text → Type 0
BeforeSlotSet w q = IsIdentifierText w × ((r : Text) × (q ≡ 58 ∷ 58 ∷ 61 ∷ r))

-- The next token of a text is t, spelled by w with q behind it: the longest, but an identifier's text before `::=` is a token.
abbrev pub IsNext : Text → Text → Kind → Type 0
IsNext w q t = SpellsInText w q t × (BeforeSlotSet w q ⊎ (Longest w q × ((p r : Text) → w ++ q ≡ p ++ r → BeforeSlotSet p r → ⊥)))

-- The text is a run of digits, one at least.
abbrev pub IsDigits : Text → Type 0
IsDigits d = (0 < length d) × AllOf is_digit d

-- A letter or _ stands first.
abbrev pub BeginsName : Text → Type 0
BeginsName q = begins_name (slice_index q 0) ≡ true

-- A full stop and a digit stand first.
abbrev pub BeginsFraction : Text → Type 0
BeginsFraction q = (slice_index q 0 ≡ 46) × (is_digit (slice_index q 1) ≡ true)

-- A run of digits may end here: no digit stands first, no letter or _, and no full stop and a digit.
abbrev pub EndsDigits : Text → Type 0
EndsDigits q = (is_digit (slice_index q 0) ≡ false) × (BeginsName q → ⊥) × (BeginsFraction q → ⊥)

-- The byte begins no token and no gap.
abbrev pub BeginsNothing : ℕ → Type 0
BeginsNothing b = ((u : Text) (t : Kind) → SpellsToken (b ∷ u) t → ⊥) × ((u : Text) → IsGapPart (b ∷ u) → ⊥)

-- The text, which begins with no gap, has a fault of that cause at its byte n.
abbrev pub IsFault : Text → Cause → ℕ → Type 0
IsFault z cause.BadByte n =
    ((d q : Text) × (z ≡ d ++ q) × IsDigits d × (BeginsName q ⊎ BeginsFraction q) × (n ≡ length d))
    ⊎ ((q : Text) × (z ≡ 35 ∷ q) × ((p r s : Text) → z ≡ p ++ r → SpellsToken p (k.Symbol s) → ⊥) × (n ≡ 0))
    ⊎ ((b : ℕ) × (q : Text) × (z ≡ b ∷ q) × BeginsNothing b × (n ≡ 0))
IsFault z cause.BigNumber n = (d q : Text) × (z ≡ d ++ q) × IsDigits d × EndsDigits q × (greatest < value d) × (n ≡ 0)
IsFault z cause.UnclosedComment n = ((q : Text) × ((z ≡ 40 ∷ 42 ∷ q) ⊎ (z ≡ 34 ∷ q))) × (n ≡ 0)
IsFault z cause.UnclosedString n = ((q : Text) × (z ≡ 39 ∷ q)) × ((p r s : Text) → z ≡ p ++ r → SpellsInText p r (k.Str s) → ⊥) × (n ≡ 0)

-- No fault is named for what begins here.
abbrev pub BeginsNoFault : Text → Type 0
BeginsNoFault z = (c : Cause) (n : ℕ) → IsFault z c n → ⊥

-- The text z is the gap g, which can't be longer, and then y.
pub record Gapped (z g y : Text) : Type 0 where
  pub gap : IsGap g
  pub cut : z ≡ g ++ y
  pub most : BeginsNoGap y

-- The text z, which stands at a place of the source, is the gap g and then w, the text of the token t, with q behind it. No
-- fault is named for what follows the gap.
pub record IsStep (at : ℕ) (z g w q : Text) (t : Token) : Type 0 where
  pub front : Gapped z g (w ++ q)
  pub fault : BeginsNoFault (w ++ q)
  pub next : IsNext w q t.kind
  pub start : t.start ≡ at + length g
  pub stop : t.«end» ≡ at + length g + length w

-- The text z, which stands at a place of the source, is a gap, then each token's text followed by a gap, and then the rest,
-- which stands at its own place. No gap can be longer, and no fault is named for what follows one.
abbrev pub Cuts : ℕ → Text → List Token → ℕ → Text → Type 0
Cuts at z [] behind rest = (g : Text) × Gapped z g rest × (behind ≡ at + length g)
Cuts at z (t ∷ ts) behind rest = (g w q : Text) × IsStep at z g w q t × Cuts (at + length g + length w) q ts behind rest

-- The source is cut into these tokens.
abbrev pub Lexes : Text → List Token → Type 0
Lexes source ts = Cuts 0 source ts (length source) []

-- Tokens cut the source up to a place behind which it has a fault: of that cause, at byte n.
abbrev pub LexStops : Text → ℕ → Cause → Type 0
LexStops source n c = (ts : List Token) × (at : ℕ) × (rest : Text) × (m : ℕ) × Cuts 0 source ts at rest × IsFault rest c m × (n ≡ at + m)

-- The source stops at that fault. Want of memory says nothing of the source.
abbrev pub StopsAt : Text → LexFault → Type 0
StopsAt source (fault.BadByte n) = LexStops source n cause.BadByte
StopsAt source (fault.UnclosedComment n) = LexStops source n cause.UnclosedComment
StopsAt source (fault.UnclosedString n) = LexStops source n cause.UnclosedString
StopsAt source (fault.BigNumber n) = LexStops source n cause.BigNumber
StopsAt source fault.Memory = Unit {0}
