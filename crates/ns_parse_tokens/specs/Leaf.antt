-- Single tokens that are values: numbers, strings, access words, and primaries of one token.
use Rattle.std.specs.Prelude.{ℕ, List, Option, Some, None, Bool, true, false, ◌||◌}
use Rattle.ns_tree.specs.declared.token.Kind.{Kind}
use Rattle.ns_tree.specs.declared.token.Kind.TheVariants as k
use Rattle.ns_tree.specs.declared.tree.Access.{Access}
use Rattle.ns_tree.specs.Plain as p
use Rattle.ns_tree.specs.Grammar.{word_access, word_primary, make_number}
use Rattle.ns_parse_tokens.specs.declared.mark.Mark.TheVariants as m
use Rattle.ns_parse_tokens.specs.declared.name.Sort.TheVariants as s
use Rattle.ns_parse_tokens.specs.Read.{Reader, read_one, read_many, read_mapped, read_after, read_or, read_maybe}
use Rattle.ns_parse_tokens.specs.Mark.{is_mark, skip}
use Rattle.ns_parse_tokens.specs.Name.{name}

abbrev pub is_some : {A : Type 0} → Option A → Bool
is_some (Some a) = true
is_some None = false

-- ---- numbers and strings

abbrev pub number : Reader ℕ
number = read_one make_number

abbrev pub string_text : Kind → Option (List ℕ)
string_text (k.Str text) = Some text
string_text _ = None

abbrev pub is_string : Kind → Bool
is_string kind = is_some (string_text kind)

abbrev pub make_string : ℕ → Kind → Option (List ℕ)
make_string n kind = string_text kind

abbrev pub string : Reader (List ℕ)
string = read_one make_string

-- strings, any number of them
abbrev pub strings : Reader (List (List ℕ))
strings = read_many is_string string

-- ---- access words

abbrev pub kind_access : Kind → Option Access
kind_access (k.Word word) = word_access word
kind_access _ = None

abbrev pub is_access : Kind → Bool
is_access kind = is_some (kind_access kind)

abbrev pub make_access : ℕ → Kind → Option Access
make_access n kind = kind_access kind

abbrev pub access : Reader Access
access = read_one make_access

-- an access word, if there is one
abbrev pub maybe_access : Reader (Option Access)
maybe_access = read_maybe is_access access

-- ---- primaries without brackets

-- the primary of one token
abbrev pub kind_primary : Kind → Option p.Primary
kind_primary (k.Ident text) = Some (p.name text)
kind_primary (k.Number size) = Some (p.number false size)
kind_primary (k.Str text) = Some (p.string text)
kind_primary (k.Symbol text) = Some (p.symbol text)
kind_primary (k.Word word) = word_primary word
kind_primary _ = None

abbrev pub is_simple : Kind → Bool
is_simple kind = is_some (kind_primary kind)

abbrev pub make_simple : ℕ → Kind → Option p.Primary
make_simple n kind = kind_primary kind

abbrev pub simple : Reader p.Primary
simple = read_one make_simple

-- a primary of one token, or a minus and a number, or `outer` and a name
unfoldable pub leaf : Reader p.Primary
leaf =
    read_or is_simple simple
    (read_or (is_mark m.Minus) (read_mapped (p.number true) (read_after (skip m.Minus) number))
    (read_mapped p.outer_name (read_after (skip m.OuterWord) (name s.Ident))))

abbrev pub starts_leaf : Kind → Bool
starts_leaf kind = is_simple kind || (is_mark m.Minus kind || is_mark m.OuterWord kind)

abbrev pub starts_bracketed : Kind → Bool
starts_bracketed kind = is_mark m.Open kind || (is_mark m.OpenBlock kind || is_mark m.OpenTuple kind)
