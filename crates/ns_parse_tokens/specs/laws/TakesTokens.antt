-- How many tokens the readers of single tokens and of patterns take at least.
use Rattle.std.proofs.Common.{ℕ, ◌+◌, List, [], ◌∷◌, Bool, true, false, cond, None, arith}
use Rattle.ns_tree.specs.declared.token.Kind.{Kind}
use Rattle.ns_tree.specs.Grammar.{make_number}
use Rattle.ns_parse_tokens.specs.declared.mark.Mark.{Mark}
use Rattle.ns_parse_tokens.specs.declared.mark.Mark.TheVariants as m
use Rattle.ns_parse_tokens.specs.declared.name.Sort.{Sort}
use Rattle.ns_parse_tokens.specs.declared.name.Sort.TheVariants as s
use Rattle.ns_parse_tokens.specs.declared.name.Operators.TheVariants as o
use Rattle.ns_parse_tokens.specs.Leaf as leaves
use Rattle.ns_parse_tokens.specs.Mark.{is_mark, skip, place, flag, maybe_place}
use Rattle.ns_parse_tokens.specs.Name.{is_name, make_name, name, names}
use Rattle.ns_parse_tokens.specs.Pattern as patterns
use Rattle.ns_parse_tokens.specs.Read.{got, fault}
use Rattle.ns_parse_tokens.specs.laws.Takes.{LeavesTokens, Takes, takes_none, takes_never, takes_one, takes_some, takes_any, takes_mapped, takes_both, takes_after, takes_until, takes_or, takes_maybe, takes_many}

-- ---- marks

mark_leaves : {A : Type 0} (a : A) (there : Bool) (n : ℕ) (k : Kind) (ts : List Kind) → LeavesTokens 1 (k ∷ ts) (cond there (got a (n + 1) ts) (fault n))
mark_leaves a true n k ts = omega arith
mark_leaves a false n k ts = tt

skip_leaves : (mark : Mark) (n : ℕ) (ts : List Kind) → LeavesTokens 1 ts (skip mark n ts)
skip_leaves mark n [] = tt
skip_leaves mark n (k ∷ ts) = mark_leaves tt (is_mark mark k) n k ts

pub takes_skip : (mark : Mark) → Takes 1 (skip mark)
takes_skip mark = record { takes = skip_leaves mark }

place_leaves : (mark : Mark) (n : ℕ) (ts : List Kind) → LeavesTokens 1 ts (place mark n ts)
place_leaves mark n [] = tt
place_leaves mark n (k ∷ ts) = mark_leaves n (is_mark mark k) n k ts

pub takes_place : (mark : Mark) → Takes 1 (place mark)
takes_place mark = record { takes = place_leaves mark }

pub takes_flag : (mark : Mark) → Takes 0 (flag mark)
takes_flag mark = takes_or (is_mark mark) (takes_mapped (λ _. true) (takes_any (takes_skip mark))) (takes_none false)

pub takes_maybe_place : (mark : Mark) → Takes 0 (maybe_place mark)
takes_maybe_place mark = takes_maybe (is_mark mark) (takes_place mark)

-- ---- names and values

pub takes_name : (sort : Sort) → Takes 1 (name sort)
takes_name sort = takes_one (make_name sort)

pub takes_names : (sort : Sort) → Takes 0 (names sort)
takes_names sort = takes_many (is_name sort) (takes_any (takes_name sort))

pub takes_string : Takes 1 leaves.string
takes_string = takes_one leaves.make_string

pub takes_strings : Takes 0 leaves.strings
takes_strings = takes_many leaves.is_string (takes_any takes_string)

pub takes_access : Takes 0 leaves.maybe_access
takes_access = takes_maybe leaves.is_access (takes_one leaves.make_access)

pub takes_leaf : Takes 1 leaves.leaf
unfolding leaves.leaf
takes_leaf =
    takes_or leaves.is_simple (takes_one leaves.make_simple)
    (takes_or (is_mark m.Minus) (takes_some (takes_mapped _ (takes_after (takes_skip m.Minus) (takes_one make_number))))
    (takes_some (takes_mapped _ (takes_after (takes_skip m.OuterWord) (takes_name s.Ident)))))

-- ---- patterns

pub takes_key_param : Takes 1 patterns.key_param
takes_key_param = takes_some (takes_both (takes_name s.Key) (takes_name s.Ident))

takes_key_params : Takes 0 patterns.key_params
takes_key_params = takes_many (is_name s.Key) (takes_any takes_key_param)

pub takes_pattern : Takes 0 patterns.pattern
unfolding patterns.pattern
takes_pattern =
    takes_or (is_name s.Ident) (takes_any (takes_mapped _ (takes_name s.Ident)))
    (takes_or (is_name (s.Operator o.All)) (takes_any (takes_mapped _ (takes_both (takes_name (s.Operator o.All)) (takes_name s.Ident))))
    (takes_or (is_name s.Key) (takes_mapped _ takes_key_params) (takes_never 0)))

pub takes_factory : Takes 0 patterns.factory
unfolding patterns.factory
takes_factory =
    takes_or (is_name s.Ident) (takes_any (takes_mapped _ (takes_name s.Ident)))
    (takes_or (is_name s.Key) (takes_mapped _ takes_key_params) (takes_none None))

pub takes_base : Takes 1 patterns.base
unfolding patterns.base
takes_base =
    takes_or (is_mark m.SuperWord) (takes_some (takes_mapped _ (takes_after (takes_skip m.SuperWord) (takes_name s.Ident))))
    (takes_or (is_mark m.OuterWord) (takes_some (takes_mapped _ (takes_after (takes_skip m.OuterWord) (takes_both (takes_name s.Ident) (takes_name s.Ident)))))
    (takes_mapped _ (takes_name s.Ident)))

pub takes_param : Takes 1 patterns.param
takes_param = takes_some (takes_after (takes_skip m.Colon) (takes_name s.Ident))

pub takes_params : Takes 0 patterns.params
unfolding patterns.params
takes_params = takes_or (is_mark m.Colon) (takes_any (takes_until (takes_many (is_mark m.Colon) (takes_any takes_param)) (takes_skip m.Bar))) (takes_none [])
