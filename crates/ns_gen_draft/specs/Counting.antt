-- How many blocks stand in a part of a tree: as many as there are scopes of its blocks, wherever it stands.
use Rattle.std.specs.Prelude.{ℕ, ◌+◌}
use Rattle.ns_tree.specs.Plain as p

abbrev mutual
  pub expr_count : p.Expr → ℕ
  expr_count (p.expr_with sets first more) = key_expr_count first + cascade_count more

  pub cascade_count : p.Cascade → ℕ
  cascade_count p.no_messages = 0
  cascade_count (p.more_messages at message rest) = message_count message + cascade_count rest

  pub message_count : p.Message → ℕ
  message_count (p.unary name) = 0
  message_count (p.binary name argument) = un_count argument
  message_count (p.keywords keys) = keys_count keys

  pub key_expr_count : p.KeyExpr → ℕ
  key_expr_count (p.sent receiver keys) = bin_count receiver + keys_count keys
  key_expr_count (p.implicit keys) = keys_count keys

  pub keys_count : p.Keys → ℕ
  keys_count p.no_keys = 0
  keys_count (p.more_keys name argument rest) = bin_count argument + keys_count rest

  pub bin_count : p.BinExpr → ℕ
  bin_count (p.bin_with first more) = un_count first + opers_count more

  pub opers_count : p.Opers → ℕ
  opers_count p.no_opers = 0
  opers_count (p.more_opers name argument rest) = un_count argument + opers_count rest

  pub un_count : p.UnExpr → ℕ
  un_count (p.un_with at primary names) = primary_count primary

  pub primary_count : p.Primary → ℕ
  primary_count (p.paren inner) = expr_count inner
  primary_count (p.block_literal block) = block_count block
  primary_count (p.tuple items stop) = items_count items
  primary_count (p.name text) = 0
  primary_count (p.number minus size) = 0
  primary_count (p.string text) = 0
  primary_count (p.symbol text) = 0
  primary_count p.nil_word = 0
  primary_count p.true_word = 0
  primary_count p.false_word = 0
  primary_count p.self_word = 0
  primary_count p.super_word = 0
  primary_count (p.outer_name name) = 0

  pub items_count : p.Exprs → ℕ
  items_count p.no_exprs = 0
  items_count (p.more_exprs expr rest) = expr_count expr + items_count rest

  pub block_count : p.Block → ℕ
  block_count (p.block_with params bars body) = 1 + (bars_count bars + statements_count body)

  pub bars_count : p.Bars → ℕ
  bars_count p.no_bars = 0
  bars_count (p.bars_around slots) = slots_count slots

  pub slots_count : p.Slots → ℕ
  slots_count p.no_slots = 0
  slots_count (p.more_slots slot rest) = slot_count slot + slots_count rest

  pub slot_count : p.Slot → ℕ
  slot_count (p.slot_with access name init) = init_count init

  pub init_count : p.SlotInit → ℕ
  init_count (p.bare stop) = 0
  init_count (p.fixed value) = expr_count value
  init_count (p.mutable value) = expr_count value

  pub statements_count : p.Statements → ℕ
  statements_count (p.statements_with list stop) = list_count list

  pub list_count : p.StatementList → ℕ
  list_count p.no_statements = 0
  list_count (p.more_statements statement rest) = statement_count statement + list_count rest

  pub statement_count : p.Statement → ℕ
  statement_count (p.statement_with caret expr) = expr_count expr
