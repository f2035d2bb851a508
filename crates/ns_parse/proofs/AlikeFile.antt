-- The readers of all rules look no further than the token with which they end or stop, whatever number of levels they know.
use Rattle.std.proofs.Common.{ℕ, zero, suc, ◌+◌, ◌≤◌, List, [], ◌∷◌, ◌++◌, Some, None, Bool, true, false, cond, refl, arith}
use Rattle.ns_tree.specs.declared.token.Kind.{Kind}
use Rattle.ns_tree.specs.Lists.{list_keys, list_opers, list_messages, list_slots}
use Rattle.ns_tree.specs.Plain as p
use Rattle.ns_tree.specs.Made.{made_un, made_slot, made_statement, made_clause, made_unit, made_method}
use Rattle.ns_tree.specs.Grammar.{make_number}
use Rattle.ns_parse_tokens.specs.declared.mark.Mark.{Mark}
use Rattle.ns_parse_tokens.specs.declared.mark.Mark.TheVariants as m
use Rattle.ns_parse_tokens.specs.declared.name.Sort.{Sort}
use Rattle.ns_parse_tokens.specs.declared.name.Sort.TheVariants as s
use Rattle.ns_parse_tokens.specs.declared.name.Operators.{Operators}
use Rattle.ns_parse_tokens.specs.declared.name.Operators.TheVariants as o
use Rattle.ns_parse_exprs.specs.declared.expressions.Holder.{Holder}
use Rattle.ns_parse_exprs.specs.declared.expressions.Holder.TheVariants as h
use Rattle.ns_parse.specs.declared.classes.SideOf.{SideOf}
use Rattle.ns_parse.specs.declared.classes.SideOf.TheVariants as sides
use Rattle.ns_parse_tokens.specs.Leaf as leaves
use Rattle.ns_parse_tokens.specs.Mark.{is_mark, skip, place, flag}
use Rattle.ns_parse_tokens.specs.Name.{is_name, make_name, name, names}
use Rattle.ns_parse_tokens.specs.Pattern as patterns
use Rattle.ns_parse_tokens.specs.Read.{Reader, got, fault}
use Rattle.ns_parse_tokens.specs.laws.TakesTokens.{takes_skip, takes_name, takes_string, takes_key_param, takes_param}
use Rattle.ns_parse_exprs.specs.Expressions as x
use Rattle.ns_parse_exprs.specs.laws.TakesPhrases.{takes_oper, takes_key, takes_cascaded, takes_expr, takes_slot, takes_statement}
use Rattle.ns_parse.specs.Classes as c
use Rattle.ns_parse.specs.laws.TakesClasses.{takes_member}
use Rattle.ns_parse.proofs.Alike.{Moved, Alike, Same, alike_nothing, same_none, same_never, same_one, same_mapped, same_both, same_after, same_inside, same_until, same_placed, same_or, same_maybe, same_less, same_at_none, same_before_none, same_many, same_listed, same_labelled}

-- ---- marks

module _ {A : Type 0} (value : ℕ → A) where
  mark_moved : (n : ℕ) (k : Kind) (ts : List Kind) (is : Bool) → Moved n (k ∷ ts) (cond is (got (value n) (n + 1) ts) (fault n))
  mark_moved n k ts true = (omega arith, omega arith)
  mark_moved n k ts false = omega arith

  mark_alike : (n : ℕ) (k : Kind) (f g g' : List Kind) (is : Bool) → Alike n (k ∷ f) g g' (cond is (got (value n) (n + 1) (f ++ g)) (fault n)) (cond is (got (value n) (n + 1) (f ++ g')) (fault n))
  mark_alike n k f g g' true = λ more. record { left = f; here = refl; there = refl; place = omega arith }
  mark_alike n k f g g' false = λ less. refl

skip_moves : (mark : Mark) (n : ℕ) (ts : List Kind) → Moved n ts (skip mark n ts)
skip_moves mark n [] = omega arith
skip_moves mark n (k ∷ ts) = mark_moved (λ _. tt) n k ts (is_mark mark k)

skip_alike : (mark : Mark) (n : ℕ) (f g g' : List Kind) → Alike n f g g' (skip mark n (f ++ g)) (skip mark n (f ++ g'))
skip_alike mark n [] g g' = alike_nothing n g g' (skip mark n g) (skip mark n g') (skip_moves mark n g)
skip_alike mark n (k ∷ f) g g' = mark_alike (λ _. tt) n k f g g' (is_mark mark k)

same_skip : {d e : ℕ} (mark : Mark) → Same d e (skip mark) (skip mark)
same_skip mark = record { moves = skip_moves mark; alike = λ n f g g' room room'. skip_alike mark n f g g' }

place_moves : (mark : Mark) (n : ℕ) (ts : List Kind) → Moved n ts (place mark n ts)
place_moves mark n [] = omega arith
place_moves mark n (k ∷ ts) = mark_moved (λ n. n) n k ts (is_mark mark k)

place_alike : (mark : Mark) (n : ℕ) (f g g' : List Kind) → Alike n f g g' (place mark n (f ++ g)) (place mark n (f ++ g'))
place_alike mark n [] g g' = alike_nothing n g g' (place mark n g) (place mark n g') (place_moves mark n g)
place_alike mark n (k ∷ f) g g' = mark_alike (λ n. n) n k f g g' (is_mark mark k)

same_place : {d e : ℕ} (mark : Mark) → Same d e (place mark) (place mark)
same_place mark = record { moves = place_moves mark; alike = λ n f g g' room room'. place_alike mark n f g g' }

same_flag : {d e : ℕ} (mark : Mark) → Same d e (flag mark) (flag mark)
same_flag mark = same_or (is_mark mark) (same_mapped (λ _. true) (same_skip mark)) (same_none false)

-- ---- names, values, patterns

same_name : {d e : ℕ} (sort : Sort) → Same d e (name sort) (name sort)
same_name sort = same_one (make_name sort)

same_names : {d e : ℕ} (sort : Sort) → Same d e (names sort) (names sort)
same_names sort = same_many (is_name sort) (takes_name sort) (same_name sort)

same_strings : (d e : ℕ) → Same d e leaves.strings leaves.strings
same_strings d e = same_many leaves.is_string takes_string (same_one leaves.make_string)

same_access : {d e : ℕ} → Same d e leaves.maybe_access leaves.maybe_access
same_access = same_maybe leaves.is_access (same_one leaves.make_access)

same_leaf : {d e : ℕ} → Same d e leaves.leaf leaves.leaf
unfolding leaves.leaf
same_leaf =
    same_or leaves.is_simple (same_one leaves.make_simple)
    (same_or (is_mark m.Minus) (same_mapped (p.number true) (same_after (same_skip m.Minus) (same_one make_number)))
    (same_mapped p.outer_name (same_after (same_skip m.OuterWord) (same_name s.Ident))))

same_key_params : {d e : ℕ} → Same d e patterns.key_params patterns.key_params
same_key_params = same_many (is_name s.Key) takes_key_param (same_both (same_name s.Key) (same_name s.Ident))

same_pattern : {d e : ℕ} → Same d e patterns.pattern patterns.pattern
unfolding patterns.pattern
same_pattern =
    same_or (is_name s.Ident) (same_mapped patterns.unary (same_name s.Ident))
    (same_or (is_name (s.Operator o.All)) (same_mapped patterns.binary (same_both (same_name (s.Operator o.All)) (same_name s.Ident)))
    (same_or (is_name s.Key) (same_mapped patterns.keyword same_key_params) same_never))

same_factory : {d e : ℕ} → Same d e patterns.factory patterns.factory
unfolding patterns.factory
same_factory =
    same_or (is_name s.Ident) (same_mapped (λ n. Some (patterns.unary n)) (same_name s.Ident))
    (same_or (is_name s.Key) (same_mapped (λ pairs. Some (patterns.keyword pairs)) same_key_params) (same_none None))

same_base : {d e : ℕ} → Same d e patterns.base patterns.base
unfolding patterns.base
same_base =
    same_or (is_mark m.SuperWord) (same_mapped _ (same_after (same_skip m.SuperWord) (same_name s.Ident)))
    (same_or (is_mark m.OuterWord) (same_mapped _ (same_after (same_skip m.OuterWord) (same_both (same_name s.Ident) (same_name s.Ident))))
    (same_mapped _ (same_name s.Ident)))

same_params : {d e : ℕ} → Same d e patterns.params patterns.params
unfolding patterns.params
same_params = same_or (is_mark m.Colon) (same_until (same_many (is_mark m.Colon) takes_param (same_after (same_skip m.Colon) (same_name s.Ident))) (same_skip m.Bar)) (same_none [])

-- ---- expressions, slots, statements and blocks, where the readers know d and e levels

module _ (d e i j : ℕ) (P : Same i j (x.primary d) (x.primary e)) where
  same_un : Same i j (x.un (x.primary d)) (x.un (x.primary e))
  unfolding x.un
  same_un = same_mapped made_un (same_both (same_placed P) (same_names s.Ident))

  module _ (operators : Operators) where
    same_oper : Same i j (x.oper (x.primary d) operators) (x.oper (x.primary e) operators)
    same_oper = same_both (same_name (s.Operator operators)) same_un

    same_bin : Same i j (x.bin (x.primary d) operators) (x.bin (x.primary e) operators)
    unfolding x.bin
    same_bin = same_mapped x.bin_from (same_both same_un (same_mapped list_opers (same_many (is_name (s.Operator operators)) (takes_oper d operators) same_oper)))

    same_keys : Same i j (x.keys (x.primary d) operators) (x.keys (x.primary e) operators)
    same_keys = same_mapped list_keys (same_many (is_name s.Key) (takes_key d operators) (same_both (same_name s.Key) same_bin))

    same_key_expr : Same i j (x.key_expr (x.primary d) operators) (x.key_expr (x.primary e) operators)
    unfolding x.key_expr
    same_key_expr = same_or x.starts_un (same_mapped x.sent_from (same_both same_bin same_keys)) (same_or (is_name s.Key) (same_mapped p.implicit same_keys) same_never)

    same_message : Same i j (x.message (x.primary d) operators) (x.message (x.primary e) operators)
    unfolding x.message
    same_message =
        same_or (is_name s.Ident) (same_mapped p.unary (same_name s.Ident))
        (same_or (is_name (s.Operator operators)) (same_mapped x.binary_from same_oper)
        (same_or (is_name s.Key) (same_mapped p.keywords same_keys) same_never))

    same_expr : Same i j (x.expr (x.primary d) operators) (x.expr (x.primary e) operators)
    unfolding x.expr
    same_expr = same_mapped x.expr_from (same_both (same_names s.SetKey) (same_both same_key_expr (same_mapped list_messages (same_many (is_mark m.Semi) (takes_cascaded d operators) (same_both (same_place m.Semi) same_message)))))

  same_value : Same i j (x.value (x.primary d)) (x.value (x.primary e))
  same_value = same_until (same_expr o.ButBar) (same_skip m.Stop)

  same_init : Same i j (x.init (x.primary d)) (x.init (x.primary e))
  unfolding x.init
  same_init =
      same_or (is_mark m.Equals) (same_mapped p.fixed (same_after (same_skip m.Equals) same_value))
      (same_or (is_mark m.SlotSet) (same_mapped p.mutable (same_after (same_skip m.SlotSet) same_value))
      (same_mapped p.bare (same_flag m.Stop)))

  same_slot_access : (holder : Holder) → Same i j (x.slot_access holder) (x.slot_access holder)
  same_slot_access h.Object = same_access
  same_slot_access h.Code = same_none None

  same_slot : (holder : Holder) → Same i j (x.slot (x.primary d) holder) (x.slot (x.primary e) holder)
  unfolding x.slot
  same_slot holder = same_mapped made_slot (same_both (same_slot_access holder) (same_both (same_name s.Ident) same_init))

  same_bars : (holder : Holder) → Same i j (x.bars (x.primary d) holder) (x.bars (x.primary e) holder)
  unfolding x.bars
  same_bars holder = same_or (is_mark m.Bar)
      (same_mapped p.bars_around (same_after (same_skip m.Bar) (same_until (same_mapped list_slots (same_many (x.starts_slot holder) (takes_slot d holder) (same_slot holder))) (same_skip m.Bar)))) (same_none p.no_bars)

  same_statement : Same i j (x.statement (x.primary d)) (x.statement (x.primary e))
  unfolding x.statement
  same_statement = same_mapped made_statement (same_both (same_maybe (is_mark m.Caret) (same_place m.Caret)) (same_expr o.All))

  same_statements : Same i j (x.statements (x.primary d)) (x.statements (x.primary e))
  same_statements = same_mapped x.statements_from (same_listed x.starts_statement (is_mark m.Stop) (takes_statement d) same_statement)

  same_block : Same i j (x.block (x.primary d)) (x.block (x.primary e))
  unfolding x.block
  same_block = same_mapped x.block_from (same_both same_params (same_both (same_bars h.Code) same_statements))

  -- within brackets there is a token less
  same_any : Same (suc i) (suc j) (x.any_primary (x.primary d)) (x.any_primary (x.primary e))
  unfolding x.any_primary x.bracketed
  same_any = same_or leaves.starts_leaf same_leaf
      (same_or (is_mark m.Open) (same_mapped p.paren (same_inside (takes_skip m.Open) (same_skip m.Open) (same_until (same_expr o.All) (same_skip m.Close))))
      (same_or (is_mark m.OpenBlock) (same_mapped p.block_literal (same_inside (takes_skip m.OpenBlock) (same_skip m.OpenBlock) (same_until same_block (same_skip m.CloseBlock))))
      (same_inside (takes_skip m.OpenTuple) (same_skip m.OpenTuple) (same_until (same_mapped x.tuple_from (same_listed x.starts_expr (is_mark m.Stop) (takes_expr d o.All) (same_expr o.All))) (same_skip m.CloseTuple)))))

-- Readers that know as many levels as there are tokens read primaries alike.
same_primary : (d e : ℕ) → Same d e (x.primary d) (x.primary e)
unfolding x.primary
same_primary zero e = let leaf : Same 0 0 leaves.leaf leaves.leaf = same_leaf in same_at_none leaves.leaf (x.primary e) leaf.moves
same_primary (suc d) zero = same_before_none (x.any_primary (x.primary d)) leaves.leaf (same_any d d d d (same_primary d d)).moves
same_primary (suc d) (suc e) = same_any d e d e (same_primary d e)

-- ---- classes, where there are at most d and e tokens

module _ (d e : ℕ) where
  abbrev one : Reader p.Primary
  one = x.primary d

  abbrev other : Reader p.Primary
  other = x.primary e

  module _ (i j : ℕ) (hi : i ≤ d) (hj : j ≤ e) where
    P : Same i j one other
    P = same_less i j hi hj (same_primary d e)

    same_super_message : Same i j (c.super_message one) (c.super_message other)
    unfolding c.super_message
    same_super_message =
        same_or (is_name s.Ident) (same_mapped (λ n. Some (p.unary n)) (same_name s.Ident))
        (same_or (is_name s.Key) (same_mapped (λ ks. Some (p.keywords ks)) (same_keys d e i j P o.All)) (same_none None))

    same_clause : Same i j (c.clause one) (c.clause other)
    unfolding c.clause
    same_clause = same_mapped made_clause (same_both same_base (same_both (same_maybe (is_mark m.Over) (same_after (same_skip m.Over) same_base)) same_super_message))

    same_body : (holder : Holder) → Same i j (c.body one holder) (c.body other holder)
    unfolding c.body
    same_body holder = same_after (same_skip m.Open) (same_until (same_both (same_bars d e i j P holder) (same_statements d e i j P)) (same_skip m.Close))

    same_method : Same i j (c.method one) (c.method other)
    unfolding c.method
    same_method = same_mapped made_method (same_both same_pattern (same_after (same_skip m.Equals) (same_body h.Code)))

    same_method_member : Same i j (c.method_member one) (c.method_member other)
    same_method_member = same_mapped p.method_member same_method

    same_head : Same i j (c.head one) (c.head other)
    unfolding c.head
    same_head = same_after (same_skip m.ClassWord) (same_both (same_name s.Ident) (same_both same_factory (same_after (same_skip m.Equals) (same_maybe patterns.starts_base same_clause))))

  -- members know t and u levels of classes; those of a side have a token less
  module _ (t u i j : ℕ) (hi : i ≤ d) (hj : j ≤ e) (W : Same i j (c.what one t) (c.what other u)) where
    same_what_of : (side : SideOf) → Same i j (c.what_of one (c.what one t) side) (c.what_of other (c.what other u) side)
    same_what_of sides.Instance = W
    same_what_of sides.ClassObject = same_method_member i j hi hj

    same_side : (side : SideOf) → Same (suc i) (suc j) (c.side one (c.what one t) side) (c.side other (c.what other u) side)
    unfolding c.side
    same_side side = same_inside (takes_skip m.Open) (same_skip m.Open)
        (same_until (same_mapped c.side_from (same_labelled (c.starts_member side) (takes_member d t side) (same_both same_access (same_what_of side)) same_strings)) (same_skip m.Close))

    module _ (i' j' : ℕ) (hi' : i' ≤ d) (hj' : j' ≤ e) (near : i' ≤ suc i) (near' : j' ≤ suc j) where
      same_class : Same i' j' (c.class one (c.what one t)) (c.class other (c.what other u))
      unfolding c.class c.class_side
      same_class = same_mapped c.class_from (same_both (same_both (same_head i' j' hi' hj') (same_body i' j' hi' hj' h.Object))
          (same_both (same_less i' j' near near' (same_side sides.Instance)) (same_or (is_mark m.Colon) (same_mapped p.class_side_with (same_after (same_skip m.Colon) (same_less i' j' near near' (same_side sides.ClassObject)))) (same_none p.no_class_side))))

      same_class_or_method : Same i' j' (c.class_or_method one (c.what one t)) (c.class_or_method other (c.what other u))
      unfolding c.class_or_method
      same_class_or_method = same_or (is_mark m.ClassWord) (same_mapped p.class_member same_class) (same_method_member i' j' hi' hj')

  same_what : (t u : ℕ) → t ≤ d → u ≤ e → Same t u (c.what one t) (c.what other u)
  unfolding c.what
  same_what zero u ht hu = same_at_none (c.method_member one) (c.what other u) (same_method_member 0 0 (omega arith) (omega arith)).moves
  same_what (suc t) zero ht hu = same_before_none (c.class_or_method one (c.what one t)) (c.method_member other)
      (same_class_or_method t zero t zero (omega (arith, ht)) (omega arith) (same_what t zero (omega (arith, ht)) hu) 0 0 (omega arith) (omega arith) (omega arith) (omega arith)).moves
  same_what (suc t) (suc u) ht hu = same_class_or_method t u t u (omega (arith, ht)) (omega (arith, hu)) (same_what t u (omega (arith, ht)) (omega (arith, hu))) (suc t) (suc u) ht hu (omega arith) (omega arith)

pub same_file : (d e : ℕ) → Same d e (c.file d) (c.file e)
unfolding c.file
same_file d e = same_mapped made_unit (same_both (same_flag m.Newspeak3) (same_both (same_maybe leaves.is_string (same_one leaves.make_string))
    (same_class d e d e d e (omega arith) (omega arith) (same_what d e d e (omega arith) (omega arith)) d e (omega arith) (omega arith) (omega arith) (omega arith))))
