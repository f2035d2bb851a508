-- What the source of a file is read as, by its tokens and the grammar alone.
use Rattle.std.specs.Prelude.{◌≡◌, ℕ, ◌⊎◌, List, None, Err}
use Rattle.ns_base.specs.declared.place.Place.{Place}
use Rattle.ns_parse.specs.Answers.{ParsesAs}
use Rattle.ns_lex.specs.Fault.{fault_at}
use Rattle.ns_lex.specs.Lexes.{LexStops, Lexes}
use Rattle.ns_lex.specs.declared.piece.Cause.{Cause}
use Rattle.ns_load.specs.Place.{marks}
use Rattle.ns_load.specs.Source.{FileReading, spells, refused, lexical, grammatical}
use Rattle.ns_load.specs.declared.fault.LoadFault.{LoadFault}
use Rattle.ns_parse_tokens.specs.declared.fault.ParseFault.{ParseFault}
use Rattle.ns_tree.specs.Deep.{deep}
use Rattle.ns_tree.specs.Plain as p
use Rattle.ns_tree.specs.Tokens.{kinds}
use Rattle.ns_tree.specs.Tree.{Spells}
use Rattle.ns_tree.specs.declared.token.Token.{Token}

-- Tokens that cut the source spell the unit, with no bracket too deep, and the places are theirs and last that of the end.
pub record SpellsWith (file : ℕ) (source : List ℕ) (unit : p.SourceUnit) (places : List Place) : Type 0 where
  pub tokens : List Token
  pub cut : Lexes source tokens
  pub spelled : Spells (kinds tokens) unit
  pub shallow : deep (kinds tokens) ≡ None
  pub placed : places ≡ marks file source tokens

-- The source stops to be cut, and the fault is of that cause, at that byte.
pub record StopsWith (file : ℕ) (source : List ℕ) (fault : LoadFault) : Type 0 where
  pub at : ℕ
  pub cause : Cause
  pub stops : LexStops source at cause
  pub named : fault ≡ lexical file source (fault_at cause at)

-- Tokens cut the source, and the fault is what the grammar answers of them: at a token, or at the end.
pub record FailsWith (file : ℕ) (source : List ℕ) (fault : LoadFault) : Type 0 where
  pub tokens : List Token
  pub found : ParseFault
  pub cut : Lexes source tokens
  pub answer : ParsesAs (kinds tokens) (Err found)
  pub named : fault ≡ grammatical file source tokens found

-- The source spells a unit with its places; or it is refused where it stops to be cut, or by the grammar.
abbrev pub SourceReadsAs : ℕ → List ℕ → FileReading → Type 0
SourceReadsAs file source (spells unit places) = SpellsWith file source unit places
SourceReadsAs file source (refused fault) = StopsWith file source fault ⊎ FailsWith file source fault
