-- How many tokens the readers of expressions take at least.
use Rattle.std.proofs.Common.{ℕ, zero, suc, None}
use Rattle.ns_tree.specs.Plain as p
use Rattle.ns_tree.specs.Lists.{list_keys, list_opers, list_messages, list_slots}
use Rattle.ns_parse_exprs.specs.declared.expressions.Holder.{Holder}
use Rattle.ns_parse_exprs.specs.declared.expressions.Holder.TheVariants as h
use Rattle.ns_parse_tokens.specs.declared.mark.Mark.TheVariants as m
use Rattle.ns_parse_tokens.specs.declared.name.Sort.TheVariants as s
use Rattle.ns_parse_tokens.specs.declared.name.Operators.{Operators}
use Rattle.ns_parse_tokens.specs.declared.name.Operators.TheVariants as o
use Rattle.ns_parse_exprs.specs.Expressions as x
use Rattle.ns_parse_tokens.specs.Leaf.{starts_leaf}
use Rattle.ns_parse_tokens.specs.Mark.{is_mark}
use Rattle.ns_parse_tokens.specs.Name.{is_name}
use Rattle.ns_parse_tokens.specs.Read.{Reader}
use Rattle.ns_parse_tokens.specs.laws.Takes.{Takes, takes_none, takes_never, takes_some, takes_any, takes_mapped, takes_placed, takes_both, takes_after, takes_until, takes_or, takes_many, takes_begun, takes_listed}
use Rattle.ns_parse_tokens.specs.laws.TakesTokens.{takes_skip, takes_place, takes_flag, takes_maybe_place, takes_name, takes_names, takes_access, takes_leaf, takes_params}

-- ---- expressions

module _ (primary : Reader p.Primary) (P : Takes 1 primary) where
  takes_un : Takes 1 (x.un primary)
  unfolding x.un
  takes_un = takes_mapped _ (takes_both (takes_placed P) (takes_names s.Ident))

  module _ (operators : Operators) where
    pub oper_takes : Takes 1 (x.oper primary operators)
    oper_takes = takes_some (takes_both (takes_name (s.Operator operators)) takes_un)

    takes_bin : Takes 1 (x.bin primary operators)
    unfolding x.bin
    takes_bin = takes_mapped _ (takes_both takes_un (takes_mapped list_opers (takes_many (is_name (s.Operator operators)) (takes_any oper_takes))))

    pub key_takes : Takes 1 (x.key primary operators)
    key_takes = takes_some (takes_both (takes_name s.Key) takes_bin)

    pub keys_take : Takes 0 (x.keys primary operators)
    keys_take = takes_mapped list_keys (takes_many (is_name s.Key) (takes_any key_takes))

    takes_key_expr : Takes 1 (x.key_expr primary operators)
    unfolding x.key_expr
    takes_key_expr =
        takes_or x.starts_un (takes_mapped _ (takes_both takes_bin keys_take))
        (takes_begun (is_name s.Key) list_keys p.implicit key_takes (takes_never 1))

    takes_message : Takes 0 (x.message primary operators)
    unfolding x.message
    takes_message =
        takes_or (is_name s.Ident) (takes_any (takes_mapped _ (takes_name s.Ident)))
        (takes_or (is_name (s.Operator operators)) (takes_any (takes_mapped _ oper_takes))
        (takes_or (is_name s.Key) (takes_mapped _ keys_take) (takes_never 0)))

    pub cascaded_takes : Takes 1 (x.cascaded primary operators)
    cascaded_takes = takes_both (takes_place m.Semi) takes_message

    pub expr_takes : Takes 1 (x.expr primary operators)
    unfolding x.expr
    expr_takes = takes_mapped _
        (takes_both (takes_names s.SetKey) (takes_both takes_key_expr (takes_mapped list_messages (takes_many (is_mark m.Semi) (takes_any cascaded_takes)))))

  -- ---- slots and statements

  takes_init : Takes 0 (x.init primary)
  unfolding x.init
  takes_init =
      takes_or (is_mark m.Equals) (takes_any (takes_mapped _ (takes_after (takes_skip m.Equals) (takes_until (expr_takes o.ButBar) (takes_skip m.Stop)))))
      (takes_or (is_mark m.SlotSet) (takes_any (takes_mapped _ (takes_after (takes_skip m.SlotSet) (takes_until (expr_takes o.ButBar) (takes_skip m.Stop)))))
      (takes_mapped _ (takes_flag m.Stop)))

  takes_slot_access : (holder : Holder) → Takes 0 (x.slot_access holder)
  takes_slot_access h.Object = takes_access
  takes_slot_access h.Code = takes_none None

  pub slot_takes : (holder : Holder) → Takes 1 (x.slot primary holder)
  unfolding x.slot
  slot_takes holder = takes_mapped _ (takes_both (takes_slot_access holder) (takes_both (takes_name s.Ident) takes_init))

  pub takes_bars : (holder : Holder) → Takes 0 (x.bars primary holder)
  unfolding x.bars
  takes_bars holder =
      takes_or (is_mark m.Bar) (takes_any (takes_mapped _ (takes_after (takes_skip m.Bar)
      (takes_until (takes_mapped list_slots (takes_many (x.starts_slot holder) (takes_any (slot_takes holder)))) (takes_skip m.Bar)))))
      (takes_none _)

  pub statement_takes : Takes 1 (x.statement primary)
  unfolding x.statement
  statement_takes = takes_mapped _ (takes_both (takes_maybe_place m.Caret) (expr_takes o.All))

  pub takes_statements : Takes 0 (x.statements primary)
  takes_statements = takes_mapped _ (takes_listed x.starts_statement (is_mark m.Stop) (takes_any statement_takes))

  -- ---- brackets

  takes_tuple_items : Takes 0 (x.tuple_items primary)
  takes_tuple_items = takes_mapped _ (takes_listed x.starts_expr (is_mark m.Stop) (takes_any (expr_takes o.All)))

  takes_block : Takes 0 (x.block primary)
  unfolding x.block
  takes_block = takes_mapped _ (takes_both takes_params (takes_both (takes_bars h.Code) takes_statements))

  takes_bracketed : Takes 1 (x.bracketed primary)
  unfolding x.bracketed
  takes_bracketed =
      takes_or (is_mark m.Open) (takes_some (takes_mapped _ (takes_after (takes_skip m.Open) (takes_until (expr_takes o.All) (takes_skip m.Close)))))
      (takes_or (is_mark m.OpenBlock) (takes_some (takes_mapped _ (takes_after (takes_skip m.OpenBlock) (takes_until takes_block (takes_skip m.CloseBlock)))))
      (takes_some (takes_after (takes_skip m.OpenTuple) (takes_until takes_tuple_items (takes_skip m.CloseTuple)))))

  takes_any_primary : Takes 1 (x.any_primary primary)
  unfolding x.any_primary
  takes_any_primary = takes_or starts_leaf takes_leaf takes_bracketed

pub takes_primary : (depth : ℕ) → Takes 1 (x.primary depth)
unfolding x.primary
takes_primary zero = takes_leaf
takes_primary (suc depth) = takes_any_primary (x.primary depth) (takes_primary depth)

-- ---- within so many brackets

pub takes_oper : (depth : ℕ) (operators : Operators) → Takes 1 (x.oper (x.primary depth) operators)
takes_oper depth = oper_takes (x.primary depth) (takes_primary depth)

pub takes_key : (depth : ℕ) (operators : Operators) → Takes 1 (x.key (x.primary depth) operators)
takes_key depth = key_takes (x.primary depth) (takes_primary depth)

pub takes_cascaded : (depth : ℕ) (operators : Operators) → Takes 1 (x.cascaded (x.primary depth) operators)
takes_cascaded depth = cascaded_takes (x.primary depth) (takes_primary depth)

pub takes_expr : (depth : ℕ) (operators : Operators) → Takes 1 (x.expr (x.primary depth) operators)
takes_expr depth = expr_takes (x.primary depth) (takes_primary depth)

pub takes_slot : (depth : ℕ) (holder : Holder) → Takes 1 (x.slot (x.primary depth) holder)
takes_slot depth = slot_takes (x.primary depth) (takes_primary depth)

pub takes_statement : (depth : ℕ) → Takes 1 (x.statement (x.primary depth))
takes_statement depth = statement_takes (x.primary depth) (takes_primary depth)
