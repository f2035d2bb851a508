-- Names, keys and operators.
use Rattle.std.specs.Prelude.{ℕ, List, [], Option, Some, None, Bool, true, false, not, cond, codes}
use Rattle.std.specs.Str.{bytes_eq}
use Rattle.ns_tree.specs.declared.token.Kind.{Kind}
use Rattle.ns_tree.specs.declared.token.Kind.TheVariants as k
use Rattle.ns_tree.specs.declared.tree.Named.{Named}
use Rattle.ns_tree.specs.Grammar.{named}
use Rattle.ns_parse_tokens.specs.declared.name.Sort.{Sort}
use Rattle.ns_parse_tokens.specs.declared.name.Sort.TheVariants as s
use Rattle.ns_parse_tokens.specs.declared.name.Operators.TheVariants as o
use Rattle.ns_parse_tokens.specs.Read.{Reader, read_one, read_many}

abbrev is_ident : Sort → Bool
is_ident s.Ident = true
is_ident _ = false

abbrev is_key : Sort → Bool
is_key s.Key = true
is_key _ = false

abbrev is_set_key : Sort → Bool
is_set_key s.SetKey = true
is_set_key _ = false

-- Which operators are of the sort. A bar is no message where it closes slots.
abbrev pub is_operator : Sort → List ℕ → Bool
is_operator (s.Operator o.All) text = true
is_operator (s.Operator o.ButBar) text = not (bytes_eq text (codes "|"))
is_operator _ text = false

-- The token is of that sort.
abbrev pub is_name : Sort → Kind → Bool
is_name sort (k.Ident text) = is_ident sort
is_name sort (k.Key text) = is_key sort
is_name sort (k.SetKey text) = is_set_key sort
is_name sort (k.Oper text) = is_operator sort text
is_name sort _ = false

-- the text of a name, a key or an operator
abbrev pub text_of : Kind → List ℕ
text_of (k.Ident text) = text
text_of (k.Key text) = text
text_of (k.SetKey text) = text
text_of (k.Oper text) = text
text_of _ = []

-- a token of that sort, with its number
abbrev pub make_name : Sort → ℕ → Kind → Option Named
make_name sort n kind = cond (is_name sort kind) (Some (named n (text_of kind))) None

abbrev pub name : Sort → Reader Named
name sort = read_one (make_name sort)

-- tokens of that sort, any number of them
abbrev pub names : Sort → Reader (List Named)
names sort = read_many (is_name sort) (name sort)
