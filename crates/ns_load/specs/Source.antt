-- What the text of a file is read as.
use Rattle.std.specs.Prelude.{ℕ, List, Option, Some, None, Result, Ok, Err, length, nat_lt, slice_get, if◌then◌else◌}
use Rattle.ns_base.specs.declared.place.Place.{Place}
use Rattle.ns_lex.specs.Scan.{Tokens, scan}
use Rattle.ns_lex.specs.declared.fault.LexFault.{LexFault}
use Rattle.ns_lex.specs.declared.fault.LexFault.TheVariants as lexing
use Rattle.ns_load.specs.Place.{marks, place_of}
use Rattle.ns_load.specs.declared.fault.LoadCause.TheVariants.{Missing, TooLong, Spelling}
use Rattle.ns_load.specs.declared.fault.SpellingCause.{SpellingCause}
use Rattle.ns_load.specs.declared.fault.SpellingCause.TheVariants.{BadByte, UnclosedComment, UnclosedString, BigNumber, TooDeep, Syntax}
use Rattle.ns_load.specs.declared.fault.LoadFault.{LoadFault}
use Rattle.ns_load.specs.declared.fault.LoadFault.TheVariants.{At, Memory}
use Rattle.ns_parse.specs.Parse.{parse}
use Rattle.ns_parse_tokens.specs.declared.fault.ParseFault.{ParseFault}
use Rattle.ns_parse_tokens.specs.declared.fault.ParseFault.TheVariants as parsing
use Rattle.ns_tree.specs.Plain as p
use Rattle.ns_tree.specs.Tokens.{kinds}
use Rattle.ns_tree.specs.declared.token.Token.{Token}

-- A file is a unit, with the place of each of its tokens and last that of its end; or it is refused.
pub data FileReading : Type 0 where
  spells : (unit : p.SourceUnit) (places : List Place) → FileReading
  refused : (fault : LoadFault) → FileReading

-- the fault of a text that is wrong so at that offset
abbrev pub wrong : ℕ → List ℕ → SpellingCause → ℕ → LoadFault
wrong file source cause offset = At (Spelling cause (place_of file source offset)) file

-- a fault of the tokens (no source wants memory)
abbrev pub lexical : ℕ → List ℕ → LexFault → LoadFault
lexical file source (lexing.BadByte at) = wrong file source BadByte at
lexical file source (lexing.UnclosedComment at) = wrong file source UnclosedComment at
lexical file source (lexing.UnclosedString at) = wrong file source UnclosedString at
lexical file source (lexing.BigNumber at) = wrong file source BigNumber at
lexical file source lexing.Memory = Memory

-- where a token begins, or the end where there is none
abbrev pub offset_from : Option Token → ℕ → ℕ
offset_from (Some token) end_of = token.start
offset_from None end_of = end_of

-- where the token of that number begins, or the end where there is none
abbrev pub offset_of : List Token → ℕ → ℕ → ℕ
offset_of tokens k end_of = offset_from (slice_get tokens k) end_of

-- a fault of the grammar, which stands at a token or at the end
abbrev pub grammatical : ℕ → List ℕ → List Token → ParseFault → LoadFault
grammatical file source tokens (parsing.TooDeep k) = wrong file source TooDeep (offset_of tokens k (length source))
grammatical file source tokens (parsing.Syntax k) = wrong file source Syntax (offset_of tokens k (length source))
grammatical file source tokens parsing.Memory = Memory

abbrev pub parsed : ℕ → List ℕ → List Token → Result p.SourceUnit ParseFault → FileReading
parsed file source tokens (Ok unit) = spells unit (marks file source tokens)
parsed file source tokens (Err fault) = refused (grammatical file source tokens fault)

-- what the tokens of a source are read as
abbrev pub read_tokens : ℕ → List ℕ → List Token → FileReading
read_tokens file source tokens = parsed file source tokens (parse (kinds tokens))

abbrev pub scanned : ℕ → List ℕ → Tokens → FileReading
scanned file source (Ok tokens) = read_tokens file source tokens
scanned file source (Err fault) = refused (lexical file source fault)

-- what a source of at most 1,048,576 bytes is read as
abbrev pub read : ℕ → List ℕ → FileReading
read file source = scanned file source (scan source)

-- what is read where these bytes are there
abbrev pub read_bytes : ℕ → List ℕ → FileReading
read_bytes file source =
    if nat_lt 1048576 (length source) then refused (At TooLong file) else read file source

-- what a file of that number is read as
abbrev pub read_file : ℕ → Option (List ℕ) → FileReading
read_file file None = refused (At Missing file)
read_file file (Some source) = read_bytes file source
