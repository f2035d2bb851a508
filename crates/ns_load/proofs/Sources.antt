-- The faults of a source.
use Rattle.std.proofs.Common.{◌≡◌, ◌≢◌, ℕ, List, Err, ap, refl, length, nat_lt, false}
use Rattle.ns_lex.specs.Scan.{scan}
use Rattle.ns_lex.specs.declared.fault.LexFault.{LexFault}
use Rattle.ns_lex.specs.declared.fault.LexFault.TheVariants as lexing
use Rattle.ns_lib.specs.Collections.{collections}
use Rattle.ns_load.specs.Source.{grammatical, lexical, parsed, read, read_tokens, refused, scanned}
use Rattle.ns_load.specs.declared.fault.LoadFault.TheVariants.{Memory}
use Rattle.ns_parse.specs.Parse.{parse}
use Rattle.ns_parse_tokens.specs.declared.fault.ParseFault.{ParseFault}
use Rattle.ns_parse_tokens.specs.declared.fault.ParseFault.TheVariants as parsing
use Rattle.ns_tree.specs.Tokens.{kinds}
use Rattle.ns_tree.specs.declared.token.Token.{Token}

-- What is a fault of the tokens is the source's.
pub lexical_fault : (file : ℕ) (source : List ℕ) (fault : LexFault) → (fault ≢ lexing.Memory → scan source ≡ Err fault) → lexical file source fault ≢ Memory → read file source ≡ refused (lexical file source fault)
lexical_fault file source (lexing.BadByte at) h n = ap (scanned file source) (h (λ e. cc (e)))
lexical_fault file source (lexing.UnclosedComment at) h n = ap (scanned file source) (h (λ e. cc (e)))
lexical_fault file source (lexing.UnclosedString at) h n = ap (scanned file source) (h (λ e. cc (e)))
lexical_fault file source (lexing.BigNumber at) h n = ap (scanned file source) (h (λ e. cc (e)))
lexical_fault file source lexing.Memory h n = absurd (n refl)

-- What is a fault of the grammar is that of the tokens.
pub grammatical_fault : (file : ℕ) (source : List ℕ) (tokens : List Token) (fault : ParseFault) → (fault ≢ parsing.Memory → parse (kinds tokens) ≡ Err fault) → grammatical file source tokens fault ≢ Memory → read_tokens file source tokens ≡ refused (grammatical file source tokens fault)
grammatical_fault file source tokens (parsing.TooDeep at) h n = ap (parsed file source tokens) (h (λ e. cc (e)))
grammatical_fault file source tokens (parsing.Syntax at) h n = ap (parsed file source tokens) (h (λ e. cc (e)))
grammatical_fault file source tokens parsing.Memory h n = absurd (n refl)

-- The library is a source.
pub library_fits : nat_lt 1048576 (length collections) ≡ false
library_fits = refl
