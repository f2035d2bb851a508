-- Expressions, slots, statements and blocks: a reader for each rule of the grammar, over the reader of primaries.
use Rattle.std.specs.Prelude.{ℕ, zero, suc, List, Option, None, Bool, ◌||◌}
use Rattle.ns_tree.specs.declared.token.Kind.{Kind}
use Rattle.ns_tree.specs.declared.tree.Named.{Named}
use Rattle.ns_tree.specs.declared.tree.Access.{Access}
use Rattle.ns_tree.specs.Lists.{list_keys, list_opers, list_messages, list_exprs, list_slots, list_statements}
use Rattle.ns_tree.specs.Plain as p
use Rattle.ns_tree.specs.Rule.{Listed}
use Rattle.ns_tree.specs.Made.{made_un, made_slot, made_statement, listed_items}
use Rattle.ns_parse_exprs.specs.declared.expressions.Holder.{Holder}
use Rattle.ns_parse_exprs.specs.declared.expressions.Holder.TheVariants as h
use Rattle.ns_parse_tokens.specs.declared.mark.Mark.TheVariants as m
use Rattle.ns_parse_tokens.specs.declared.name.Sort.TheVariants as s
use Rattle.ns_parse_tokens.specs.declared.name.Operators.{Operators}
use Rattle.ns_parse_tokens.specs.declared.name.Operators.TheVariants as o
use Rattle.ns_parse_tokens.specs.Read.{Reader, read_none, read_never, read_mapped, read_both, read_after, read_until, read_placed, read_or, read_many, read_listed, ends_separated}
use Rattle.ns_parse_tokens.specs.Mark.{is_mark, skip, place, flag, maybe_place}
use Rattle.ns_parse_tokens.specs.Name.{is_name, name, names}
use Rattle.ns_parse_tokens.specs.Pattern.{params}
use Rattle.ns_parse_tokens.specs.Leaf.{maybe_access, is_access, leaf, starts_leaf, starts_bracketed}

-- ---- what begins a part

abbrev pub starts_un : Kind → Bool
starts_un kind = starts_leaf kind || starts_bracketed kind

abbrev pub starts_expr : Kind → Bool
starts_expr kind = is_name s.SetKey kind || (is_name s.Key kind || starts_un kind)

abbrev pub starts_statement : Kind → Bool
starts_statement kind = is_mark m.Caret kind || starts_expr kind

-- A slot of an object may have an access word, a local has none.
abbrev pub starts_slot : Holder → Kind → Bool
starts_slot h.Object kind = is_access kind || is_name s.Ident kind
starts_slot h.Code kind = is_name s.Ident kind

-- ---- trees from their parts

abbrev pub bin_from : p.UnExpr × p.Opers → p.BinExpr
bin_from x = p.bin_with x.0 x.1

abbrev pub sent_from : p.BinExpr × p.Keys → p.KeyExpr
sent_from x = p.sent x.0 x.1

abbrev pub binary_from : Named × p.UnExpr → p.Message
binary_from x = p.binary x.0 x.1

abbrev pub expr_from : List Named × (p.KeyExpr × p.Cascade) → p.Expr
expr_from x = p.expr_with x.0 x.1.0 x.1.1

abbrev pub statements_from : Listed p.Statement → p.Statements
statements_from l = p.statements_with (list_statements (listed_items l)) (ends_separated l)

abbrev pub tuple_from : Listed p.Expr → p.Primary
tuple_from l = p.tuple (list_exprs (listed_items l)) (ends_separated l)

abbrev pub block_from : List Named × (p.Bars × p.Statements) → p.Block
block_from x = p.block_with x.0 x.1.0 x.1.1

-- ---- the readers

-- the access word of an object's slot, if it has one
abbrev pub slot_access : Holder → Reader (Option Access)
slot_access h.Object = maybe_access
slot_access h.Code = read_none None

module _ (primary : Reader p.Primary) where
  -- a primary, and names that are sent to it
  unfoldable pub un : Reader p.UnExpr
  un = read_mapped made_un (read_both (read_placed primary) (names s.Ident))

  -- over the operators that are messages there
  module _ (operators : Operators) where
    -- an operator and its argument
    abbrev pub oper : Reader (Named × p.UnExpr)
    oper = read_both (name (s.Operator operators)) un

    abbrev pub opers : Reader p.Opers
    opers = read_mapped list_opers (read_many (is_name (s.Operator operators)) oper)

    unfoldable pub bin : Reader p.BinExpr
    bin = read_mapped bin_from (read_both un opers)

    -- a key and its argument
    abbrev pub key : Reader (Named × p.BinExpr)
    key = read_both (name s.Key) bin

    abbrev pub keys : Reader p.Keys
    keys = read_mapped list_keys (read_many (is_name s.Key) key)

    -- a receiver and keys, or keys alone
    unfoldable pub key_expr : Reader p.KeyExpr
    key_expr = read_or starts_un (read_mapped sent_from (read_both bin keys)) (read_or (is_name s.Key) (read_mapped p.implicit keys) read_never)

    unfoldable pub message : Reader p.Message
    message =
        read_or (is_name s.Ident) (read_mapped p.unary (name s.Ident))
        (read_or (is_name (s.Operator operators)) (read_mapped binary_from oper)
        (read_or (is_name s.Key) (read_mapped p.keywords keys) read_never))

    -- a semicolon and a message
    abbrev pub cascaded : Reader (ℕ × p.Message)
    cascaded = read_both (place m.Semi) message

    abbrev pub cascade : Reader p.Cascade
    cascade = read_mapped list_messages (read_many (is_mark m.Semi) cascaded)

    unfoldable pub expr : Reader p.Expr
    expr = read_mapped expr_from (read_both (names s.SetKey) (read_both key_expr cascade))

  -- ---- slots and statements

  -- an expression and a full stop
  abbrev pub value : Reader p.Expr
  value = read_until (expr o.ButBar) (skip m.Stop)

  -- an equals sign or `::=`, an expression and a full stop; or a full stop or none
  unfoldable pub init : Reader p.SlotInit
  init =
      read_or (is_mark m.Equals) (read_mapped p.fixed (read_after (skip m.Equals) value))
      (read_or (is_mark m.SlotSet) (read_mapped p.mutable (read_after (skip m.SlotSet) value))
      (read_mapped p.bare (flag m.Stop)))

  unfoldable pub slot : Holder → Reader p.Slot
  slot holder = read_mapped made_slot (read_both (slot_access holder) (read_both (name s.Ident) init))

  abbrev pub slots : Holder → Reader p.Slots
  slots holder = read_mapped list_slots (read_many (starts_slot holder) (slot holder))

  -- slots between bars, or nothing
  unfoldable pub bars : Holder → Reader p.Bars
  bars holder = read_or (is_mark m.Bar) (read_mapped p.bars_around (read_after (skip m.Bar) (read_until (slots holder) (skip m.Bar)))) (read_none p.no_bars)

  unfoldable pub statement : Reader p.Statement
  statement = read_mapped made_statement (read_both (maybe_place m.Caret) (expr o.All))

  -- statements with a full stop between two, and perhaps one behind the last
  abbrev pub statements : Reader p.Statements
  statements = read_mapped statements_from (read_listed starts_statement (is_mark m.Stop) statement)

  -- ---- brackets

  -- expressions with a full stop between two, and perhaps one behind the last
  abbrev pub tuple_items : Reader p.Primary
  tuple_items = read_mapped tuple_from (read_listed starts_expr (is_mark m.Stop) (expr o.All))

  unfoldable pub block : Reader p.Block
  block = read_mapped block_from (read_both params (read_both (bars h.Code) statements))

  abbrev pub paren : Reader p.Primary
  paren = read_mapped p.paren (read_after (skip m.Open) (read_until (expr o.All) (skip m.Close)))

  abbrev pub block_literal : Reader p.Primary
  block_literal = read_mapped p.block_literal (read_after (skip m.OpenBlock) (read_until block (skip m.CloseBlock)))

  abbrev pub tuple : Reader p.Primary
  tuple = read_after (skip m.OpenTuple) (read_until tuple_items (skip m.CloseTuple))

  -- an expression in parentheses, a block or a tuple
  unfoldable pub bracketed : Reader p.Primary
  bracketed = read_or (is_mark m.Open) paren (read_or (is_mark m.OpenBlock) block_literal tuple)

  -- a primary with brackets or without
  unfoldable pub any_primary : Reader p.Primary
  any_primary = read_or starts_leaf leaf bracketed

-- primaries in which so many brackets nest
unfoldable pub primary : ℕ → Reader p.Primary
primary zero = leaf
primary (suc depth) = any_primary (primary depth)
