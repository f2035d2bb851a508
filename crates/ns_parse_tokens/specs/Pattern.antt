-- Patterns of methods and factories, and the bases of a superclass clause.
use Rattle.std.specs.Prelude.{List, [], ◌∷◌, map, Option, Some, None, Bool, ◌||◌}
use Rattle.ns_tree.specs.declared.token.Kind.{Kind}
use Rattle.ns_tree.specs.declared.tree.Named.{Named}
use Rattle.ns_tree.specs.declared.tree.Base.{Base}
use Rattle.ns_tree.specs.declared.tree.Origin.{Origin}
use Rattle.ns_tree.specs.declared.tree.Origin.TheVariants as from
use Rattle.ns_tree.specs.Plain as p
use Rattle.ns_parse_tokens.specs.declared.mark.Mark.TheVariants as m
use Rattle.ns_parse_tokens.specs.declared.name.Sort.TheVariants as s
use Rattle.ns_parse_tokens.specs.declared.name.Operators.TheVariants as o
use Rattle.ns_parse_tokens.specs.Read.{Reader, read_both, read_many, read_mapped, read_or, read_after, read_until, read_none, read_never}
use Rattle.ns_parse_tokens.specs.Mark.{is_mark, skip}
use Rattle.ns_parse_tokens.specs.Name.{is_name, name}

-- the pattern of a name alone
abbrev pub unary : Named → p.Pattern
unary name = p.pattern_with (name ∷ []) []

-- the pattern of an operator and its parameter
abbrev pub binary : Named × Named → p.Pattern
binary x = p.pattern_with (x.0 ∷ []) (x.1 ∷ [])

-- the pattern of keys, each with its parameter
abbrev pub keyword : List (Named × Named) → p.Pattern
keyword pairs = p.pattern_with (map (λ x. x.0) pairs) (map (λ x. x.1) pairs)

-- a key and its parameter
abbrev pub key_param : Reader (Named × Named)
key_param = read_both (name s.Key) (name s.Ident)

-- keys, each with its parameter
abbrev pub key_params : Reader (List (Named × Named))
key_params = read_many (is_name s.Key) key_param

-- a name, an operator and a name, or keys and names
unfoldable pub pattern : Reader p.Pattern
pattern =
    read_or (is_name s.Ident) (read_mapped unary (name s.Ident))
    (read_or (is_name (s.Operator o.All)) (read_mapped binary (read_both (name (s.Operator o.All)) (name s.Ident)))
    (read_or (is_name s.Key) (read_mapped keyword key_params) read_never))

-- a name, or keys and names, or nothing
unfoldable pub factory : Reader (Option p.Pattern)
factory =
    read_or (is_name s.Ident) (read_mapped (λ n. Some (unary n)) (name s.Ident))
    (read_or (is_name s.Key) (read_mapped (λ pairs. Some (keyword pairs)) key_params) (read_none None))

abbrev pub base_of : Origin → Named → Base
base_of origin name = record { origin = origin; name = name }

-- a name, `super` and a name, or `outer` and two names
unfoldable pub base : Reader Base
base =
    read_or (is_mark m.SuperWord) (read_mapped (base_of from.Super) (read_after (skip m.SuperWord) (name s.Ident)))
    (read_or (is_mark m.OuterWord) (read_mapped (λ x. base_of (from.Outer x.0) x.1) (read_after (skip m.OuterWord) (read_both (name s.Ident) (name s.Ident))))
    (read_mapped (base_of from.Here) (name s.Ident)))

abbrev pub starts_base : Kind → Bool
starts_base kind = is_name s.Ident kind || (is_mark m.SuperWord kind || is_mark m.OuterWord kind)

-- a colon and a name
abbrev pub param : Reader Named
param = read_after (skip m.Colon) (name s.Ident)

abbrev pub colon_params : Reader (List Named)
colon_params = read_many (is_mark m.Colon) param

-- the parameters of a block: colons and names, and a bar; or nothing
unfoldable pub params : Reader (List Named)
params = read_or (is_mark m.Colon) (read_until colon_params (skip m.Bar)) (read_none [])
