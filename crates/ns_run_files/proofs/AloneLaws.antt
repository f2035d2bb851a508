-- What is done with one file that is alone on its shelf.
use Rattle.std.proofs.Common.{◌≡◌, ℕ, List, [], ◌∷◌, length, map, nat_lt, cond, Bool, true, false, Option, Some, Result, Ok, Err, refl, subst}
use Rattle.std.specs.Global.{Vec}
use Rattle.std.specs.Str.{bytes_eq}
use Rattle.std.proofs.lemmas.Slice.Eq.{bytes_eq-Decides}
use Rattle.ns_base.specs.Files.{Files}
use Rattle.ns_base.specs.Stored.{file_at}
use Rattle.ns_base.specs.declared.place.Place.{Place}
use Rattle.ns_lex.specs.Scan.{Tokens, scan}
use Rattle.ns_lex.specs.declared.fault.LexFault.{LexFault}
use Rattle.ns_lex.specs.declared.fault.LexFault.TheVariants as lexing
use Rattle.ns_lib.specs.Collections.{collections}
use Rattle.ns_load.specs.Answer.{AnswerTells, IsFaultOfTexts, IsOfTexts, TellsFault}
use Rattle.ns_load.specs.Loaded.{Loading, after, load_from, loaded_texts, library, stopped, units, with_file}
use Rattle.ns_load.specs.Source.{FileReading, grammatical, lexical, parsed, read, read_bytes, refused, scanned, spells}
use Rattle.ns_load.specs.declared.fault.LoadCause.TheVariants.{Missing, TooLong, ReadFault, Spelling}
use Rattle.ns_load.specs.declared.fault.LoadFault.{LoadFault}
use Rattle.ns_load.specs.declared.fault.LoadFault.TheVariants.{At, Memory}
use Rattle.ns_parse.specs.Parse.{parse}
use Rattle.ns_parse_tokens.specs.declared.fault.ParseFault.{ParseFault}
use Rattle.ns_parse_tokens.specs.declared.fault.ParseFault.TheVariants as parsing
use Rattle.ns_scope.specs.declared.program.Program.{Program}
use Rattle.ns_tree.specs.Plain as p
use Rattle.ns_tree.specs.Tokens.{kinds}
use Rattle.ns_tree.specs.declared.token.Token.{Token}

-- Under its name the one file is found.
pub kept_alone : (name : List ℕ) (source : Vec ℕ) → file_at ((name, source) ∷ []) name ≡ Some source.items
kept_alone name source =
    let same : bytes_eq name name ≡ true = (bytes_eq-Decides name name).1 refl in rw same refl

-- ---- the answer of a load

-- What is answered of files that are told is answered of their texts.
fault_of_texts : (names : List (List ℕ)) (lib : Bool) (files : Files) (fault : LoadFault) → TellsFault names lib files fault →
    IsFaultOfTexts (map files names) lib fault
fault_of_texts names lib files (At Missing k) t = t
fault_of_texts names lib files (At TooLong k) t = t
fault_of_texts names lib files (At ReadFault k) t = tt
fault_of_texts names lib files (At (Spelling wrong place) k) t = t
fault_of_texts names lib files Memory t = tt

pub texts_answered : (names : List (List ℕ)) (lib : Bool) (files : Files) (result : Result Program LoadFault) → AnswerTells names lib files result →
    IsOfTexts (map files names) lib result
texts_answered names lib files (Ok program) t = t
texts_answered names lib files (Err fault) t = fault_of_texts names lib files fault t

-- Of the one file, these are the texts.
pub text_answered : (name source : List ℕ) (names : List (List ℕ)) (lib : Bool) (files : Files) (result : Result Program LoadFault) → names ≡ name ∷ [] → files name ≡ Some source
    → AnswerTells names lib files result → IsOfTexts (Some source ∷ []) lib result
text_answered name source names lib files result named kept t =
    subst (λ (text : Option (List ℕ)). IsOfTexts (text ∷ []) lib result) kept
    (subst (λ each. IsOfTexts (map files each) lib result) named (texts_answered names lib files result t))

-- ---- no text is missing

abbrev IsThere : FileReading → Type 0
IsThere (spells unit places) = Unit {0}
IsThere (refused fault) = (k : ℕ) → fault ≡ At Missing k → ⊥

lexed : (file : ℕ) (source : List ℕ) (fault : LexFault) (k : ℕ) → lexical file source fault ≡ At Missing k → ⊥
lexed file source (lexing.BadByte at) k e = absurd (cc (e))
lexed file source (lexing.UnclosedComment at) k e = absurd (cc (e))
lexed file source (lexing.UnclosedString at) k e = absurd (cc (e))
lexed file source (lexing.BigNumber at) k e = absurd (cc (e))
lexed file source lexing.Memory k e = absurd (cc (e))

spelled : (file : ℕ) (source : List ℕ) (tokens : List Token) (fault : ParseFault) (k : ℕ) → grammatical file source tokens fault ≡ At Missing k → ⊥
spelled file source tokens (parsing.TooDeep at) k e = absurd (cc (e))
spelled file source tokens (parsing.Syntax at) k e = absurd (cc (e))
spelled file source tokens parsing.Memory k e = absurd (cc (e))

parse_there : (file : ℕ) (source : List ℕ) (tokens : List Token) (result : Result p.SourceUnit ParseFault) → IsThere (parsed file source tokens result)
parse_there file source tokens (Ok unit) = tt
parse_there file source tokens (Err fault) = spelled file source tokens fault

scan_there : (file : ℕ) (source : List ℕ) (tokens : Tokens) → IsThere (scanned file source tokens)
scan_there file source (Ok tokens) = parse_there file source tokens (parse (kinds tokens))
scan_there file source (Err fault) = lexed file source fault

bytes_there : (file : ℕ) (source : List ℕ) → IsThere (read_bytes file source)
bytes_there file source =
    elim (nat_lt 1048576 (length source)) as (λ q. IsThere (cond q (refused (At TooLong file)) (read file source))) [
      | true ↦ λ k e. absurd (cc (e))
      | false ↦ scan_there file source (scan source)
    ]

abbrev NoneIsMissing : Loading → Type 0
NoneIsMissing (units trees places) = Unit {0}
NoneIsMissing (stopped fault) = (k : ℕ) → fault ≡ At Missing k → ⊥

after_there : (trees : List p.SourceUnit) (places : List (List Place)) (rest : Loading) → NoneIsMissing rest → NoneIsMissing (after trees places rest)
after_there trees places (units more others) n = tt
after_there trees places (stopped fault) n = n

file_there : (reading : FileReading) (rest : Loading) → IsThere reading → NoneIsMissing rest → NoneIsMissing (with_file reading rest)
file_there (spells unit places) rest t n = after_there (unit ∷ []) (places ∷ []) rest n
file_there (refused fault) rest t n = t

library_there : (k : ℕ) (lib : Bool) → NoneIsMissing (load_from k (library lib))
library_there k false = tt
library_there k true = file_there (read_bytes k collections) (units [] []) (bytes_there k collections) tt

text_there : (source : List ℕ) (lib : Bool) → NoneIsMissing (loaded_texts (Some source ∷ []) lib)
text_there source lib = file_there (read_bytes 0 source) (load_from 1 (library lib)) (bytes_there 0 source) (library_there 1 lib)

-- One text alone isn't said to be missing.
pub alone_is_there : (source : List ℕ) (lib : Bool) (k : ℕ) → loaded_texts (Some source ∷ []) lib ≡ stopped (At Missing k) → ⊥
alone_is_there source lib k e = subst NoneIsMissing e (text_there source lib) k refl
