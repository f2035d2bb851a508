-- A source is read as its tokens and the grammar say.
use Rattle.std.proofs.Common.{◌≡◌, ℕ, ◌⊎◌, inl, inr, List, Result, Ok, Err, refl, sym, ap, subst, ◌∙◌}
use Rattle.std.specs.Prelude.{◌↔◌}
use Rattle.ns_parse.specs.Answers.{ParsesAs}
use Rattle.ns_lex.specs.Fault.{fault_at}
use Rattle.ns_lex.specs.Lexes.{LexStops, Lexes}
use Rattle.ns_lex.specs.Scan.{scan}
use Rattle.ns_lex.specs.declared.piece.Cause.{Cause}
use Rattle.ns_load.specs.Source.{FileReading, spells, refused, parsed, read, scanned}
use Rattle.ns_parse.specs.Parse.{parse}
use Rattle.ns_load_laws.specs.Reads.{SourceReadsAs}
use Rattle.ns_parse_tokens.specs.declared.fault.ParseFault.{ParseFault}
use Rattle.ns_tree.specs.Plain as p
use Rattle.ns_tree.specs.Tokens.{kinds}
use Rattle.ns_tree.specs.Tree.{AllHaveText}
use Rattle.ns_tree.specs.declared.token.Kind.{Kind}
use Rattle.ns_tree.specs.declared.token.Token.{Token}

-- How a source is cut, and that its tokens have texts.
pub record IsCutOneWay (source : List ℕ) : Type 0 where
  pub some : ((tokens : List Token) × Lexes source tokens) ⊎ ((at : ℕ) × (cause : Cause) × LexStops source at cause)
  pub scan_is : (tokens : List Token) → Lexes source tokens ↔ (scan source ≡ Ok tokens)
  pub stop_is : (at : ℕ) (cause : Cause) → LexStops source at cause ↔ (scan source ≡ Err (fault_at cause at))
  pub told : (tokens : List Token) → Lexes source tokens → AllHaveText (kinds tokens)

-- What is parsed is what the grammar answers.
abbrev pub IsAnswered : Type 0
IsAnswered = (ts : List Kind) (answer : Result p.SourceUnit ParseFault) → AllHaveText ts → parse ts ≡ answer ↔ ParsesAs ts answer

-- ---- what is read is so

by_answer : (file : ℕ) (source : List ℕ) (tokens : List Token) (answer : Result p.SourceUnit ParseFault) → Lexes source tokens → ParsesAs (kinds tokens) answer → SourceReadsAs file source (parsed file source tokens answer)
by_answer file source tokens (Ok unit) cut h = record { tokens = tokens; cut = cut; spelled = h.0; shallow = h.1; placed = refl }
by_answer file source tokens (Err found) cut h = inr (record { tokens = tokens; found = found; cut = cut; answer = h; named = refl })

tokens_read : (file : ℕ) (source : List ℕ) (tokens : List Token) → IsCutOneWay source → IsAnswered → Lexes source tokens → SourceReadsAs file source (read file source)
tokens_read file source tokens way answered cut =
    let answer = (answered (kinds tokens) (parse (kinds tokens)) (way.told tokens cut)).0 refl in
    subst (λ cuts. SourceReadsAs file source (scanned file source cuts)) (sym ((way.scan_is tokens).0 cut)) (by_answer file source tokens (parse (kinds tokens)) cut answer)

stop_read : (file : ℕ) (source : List ℕ) (at : ℕ) (cause : Cause) → IsCutOneWay source → LexStops source at cause → SourceReadsAs file source (read file source)
stop_read file source at cause way stops =
    subst (λ cuts. SourceReadsAs file source (scanned file source cuts)) (sym ((way.stop_is at cause).0 stops)) (inl (record { at = at; cause = cause; stops = stops; named = refl }))

-- What a source is read as, tokens and grammar say of it.
pub reads : (file : ℕ) (source : List ℕ) → IsCutOneWay source → IsAnswered → SourceReadsAs file source (read file source)
reads file source way answered =
    elim (way.some) [
      | inl x ↦ tokens_read file source x.0 way answered x.1
      | inr x ↦ stop_read file source x.0 x.1 way x.2
    ]

-- ---- what is so is read

read_by : (file : ℕ) (source : List ℕ) (tokens : List Token) (answer : Result p.SourceUnit ParseFault) → IsCutOneWay source → IsAnswered → Lexes source tokens → ParsesAs (kinds tokens) answer → read file source ≡ parsed file source tokens answer
read_by file source tokens answer way answered cut h =
    ap (scanned file source) ((way.scan_is tokens).0 cut) ∙ ap (parsed file source tokens) ((answered (kinds tokens) answer (way.told tokens cut)).1 h)

-- What tokens and grammar say of a source, it is read as.
pub is_read : (file : ℕ) (source : List ℕ) (reading : FileReading) → IsCutOneWay source → IsAnswered → SourceReadsAs file source reading → read file source ≡ reading
is_read file source (spells unit places) way answered h =
    read_by file source h.tokens (Ok unit) way answered h.cut (h.spelled, h.shallow) ∙ ap (spells unit) (sym h.placed)
is_read file source (refused fault) way answered (inl h) =
    ap (scanned file source) ((way.stop_is h.at h.cause).0 h.stops) ∙ ap refused (sym h.named)
is_read file source (refused fault) way answered (inr h) =
    read_by file source h.tokens (Err h.found) way answered h.cut h.answer ∙ ap refused (sym h.named)

pub read_is : (file : ℕ) (source : List ℕ) (reading : FileReading) → IsCutOneWay source → IsAnswered → read file source ≡ reading ↔ SourceReadsAs file source reading
read_is file source reading way answered =
    (λ e. subst (SourceReadsAs file source) e (reads file source way answered), is_read file source reading way answered)
