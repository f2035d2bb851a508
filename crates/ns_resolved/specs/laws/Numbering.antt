-- The bodies of an expression are as many as the scopes of its blocks, so that both have the same numbers.
use Rattle.std.proofs.Common.{◌≡◌, ℕ, ◌+◌, List, ◌++◌, length, refl, sym, ap, ◌∙◌, length-append, suc}
use Rattle.ns_tree.specs.Plain as p
use Rattle.ns_scope.specs.Scopes.{block_scope}
use Rattle.ns_scope.specs.Bodies as b
use Rattle.ns_resolved.specs.Expressions.{Standing}
use Rattle.ns_resolved.specs.Statements.{inside, expr_bodies, cascade_bodies, message_bodies, key_expr_bodies, keys_bodies, bin_bodies, opers_bodies}
use Rattle.ns_resolved.specs.Statements.{un_bodies, primary_bodies, items_bodies, block_bodies, bars_bodies, slots_bodies, slot_bodies, init_bodies}
use Rattle.ns_resolved.specs.Statements.{statements_bodies, list_bodies, statement_bodies}

-- two parts that are as many as two others
pub both : {A B : Type 0} (x y : List A) (z w : List B) → length x ≡ length z → length y ≡ length w → length (x ++ y) ≡ length (z ++ w)
both x y z w e f = length-append x y ∙ ap (λ n. n + length y) e ∙ ap (length z +◌) f ∙ sym (length-append z w)

mutual
  -- An expression has as many bodies as blocks are counted in it.
  pub expr_counted : (part : p.Expr) (here : Standing) (next : ℕ) → length (expr_bodies here next part) ≡ length (b.expr_blocks here.scope part)
  expr_counted (p.expr_with sets first more) here next =
      both _ _ _ _ (key_expr_counted first here next) (cascade_counted more here (next + length (b.key_expr_blocks here.scope first)))

  cascade_counted : (part : p.Cascade) (here : Standing) (next : ℕ) → length (cascade_bodies here next part) ≡ length (b.cascade_blocks here.scope part)
  cascade_counted p.no_messages here next = refl
  cascade_counted (p.more_messages at message rest) here next =
      both _ _ _ _ (message_counted message here next) (cascade_counted rest here (next + length (b.message_blocks here.scope message)))

  -- A message has as many bodies as blocks are counted in it.
  pub message_counted : (part : p.Message) (here : Standing) (next : ℕ) → length (message_bodies here next part) ≡ length (b.message_blocks here.scope part)
  message_counted (p.unary name) here next = refl
  message_counted (p.binary name argument) here next = un_counted argument here next
  message_counted (p.keywords keys) here next = keys_counted keys here next

  -- A keyword expression has as many bodies as blocks are counted in it.
  pub key_expr_counted : (part : p.KeyExpr) (here : Standing) (next : ℕ) → length (key_expr_bodies here next part) ≡ length (b.key_expr_blocks here.scope part)
  key_expr_counted (p.sent receiver keys) here next =
      both _ _ _ _ (bin_counted receiver here next) (keys_counted keys here (next + length (b.bin_blocks here.scope receiver)))
  key_expr_counted (p.implicit keys) here next = keys_counted keys here next

  keys_counted : (part : p.Keys) (here : Standing) (next : ℕ) → length (keys_bodies here next part) ≡ length (b.keys_blocks here.scope part)
  keys_counted p.no_keys here next = refl
  keys_counted (p.more_keys name argument rest) here next =
      both _ _ _ _ (bin_counted argument here next) (keys_counted rest here (next + length (b.bin_blocks here.scope argument)))

  -- A binary expression has as many bodies as blocks are counted in it.
  pub bin_counted : (part : p.BinExpr) (here : Standing) (next : ℕ) → length (bin_bodies here next part) ≡ length (b.bin_blocks here.scope part)
  bin_counted (p.bin_with first more) here next =
      both _ _ _ _ (un_counted first here next) (opers_counted more here (next + length (b.un_blocks here.scope first)))

  opers_counted : (part : p.Opers) (here : Standing) (next : ℕ) → length (opers_bodies here next part) ≡ length (b.opers_blocks here.scope part)
  opers_counted p.no_opers here next = refl
  opers_counted (p.more_opers name argument rest) here next =
      both _ _ _ _ (un_counted argument here next) (opers_counted rest here (next + length (b.un_blocks here.scope argument)))

  -- A unary expression has as many bodies as blocks are counted in it.
  pub un_counted : (part : p.UnExpr) (here : Standing) (next : ℕ) → length (un_bodies here next part) ≡ length (b.un_blocks here.scope part)
  un_counted (p.un_with at primary names) here next = primary_counted primary here next

  primary_counted : (part : p.Primary) (here : Standing) (next : ℕ) → length (primary_bodies here next part) ≡ length (b.primary_blocks here.scope part)
  primary_counted (p.paren inner) here next = expr_counted inner here next
  primary_counted (p.block_literal block) here next = block_counted block here next
  primary_counted (p.tuple items stop) here next = items_counted items here next
  primary_counted (p.name text) here next = refl
  primary_counted (p.number minus size) here next = refl
  primary_counted (p.string text) here next = refl
  primary_counted (p.symbol text) here next = refl
  primary_counted p.nil_word here next = refl
  primary_counted p.true_word here next = refl
  primary_counted p.false_word here next = refl
  primary_counted p.self_word here next = refl
  primary_counted p.super_word here next = refl
  primary_counted (p.outer_name name) here next = refl

  items_counted : (part : p.Exprs) (here : Standing) (next : ℕ) → length (items_bodies here next part) ≡ length (b.items_blocks here.scope part)
  items_counted p.no_exprs here next = refl
  items_counted (p.more_exprs expr rest) here next =
      both _ _ _ _ (expr_counted expr here next) (items_counted rest here (next + length (b.expr_blocks here.scope expr)))

  block_counted : (part : p.Block) (here : Standing) (next : ℕ) → length (block_bodies here next part) ≡ length (b.block_blocks here.scope part)
  block_counted (p.block_with params bars body) here next =
      ap suc
      (both _ _ _ _ (bars_counted bars (inside here next params bars) (next + 1))
      (statements_counted body (inside here next params bars) (next + 1 + length (b.bars_blocks (block_scope here.scope params bars) bars))))

  -- Slots have as many bodies as blocks are counted in them.
  pub bars_counted : (part : p.Bars) (here : Standing) (next : ℕ) → length (bars_bodies here next part) ≡ length (b.bars_blocks here.scope part)
  bars_counted p.no_bars here next = refl
  bars_counted (p.bars_around slots) here next = slots_counted slots here next

  slots_counted : (part : p.Slots) (here : Standing) (next : ℕ) → length (slots_bodies here next part) ≡ length (b.slots_blocks here.scope part)
  slots_counted p.no_slots here next = refl
  slots_counted (p.more_slots slot rest) here next =
      both _ _ _ _ (slot_counted slot here next) (slots_counted rest here (next + length (b.slot_blocks here.scope slot)))

  -- A slot has as many bodies as blocks are counted in it.
  pub slot_counted : (part : p.Slot) (here : Standing) (next : ℕ) → length (slot_bodies here next part) ≡ length (b.slot_blocks here.scope part)
  slot_counted (p.slot_with access name init) here next = init_counted init here next

  pub init_counted : (part : p.SlotInit) (here : Standing) (next : ℕ) → length (init_bodies here next part) ≡ length (b.init_blocks here.scope part)
  init_counted (p.bare stop) here next = refl
  init_counted (p.fixed value) here next = expr_counted value here next
  init_counted (p.mutable value) here next = expr_counted value here next

  -- Statements have as many bodies as blocks are counted in them.
  pub statements_counted : (part : p.Statements) (here : Standing) (next : ℕ) →
      length (statements_bodies here next part) ≡ length (b.statements_blocks here.scope part)
  statements_counted (p.statements_with list stop) here next = list_counted list here next

  list_counted : (part : p.StatementList) (here : Standing) (next : ℕ) → length (list_bodies here next part) ≡ length (b.list_blocks here.scope part)
  list_counted p.no_statements here next = refl
  list_counted (p.more_statements statement rest) here next =
      both _ _ _ _ (statement_counted statement here next) (list_counted rest here (next + length (b.statement_blocks here.scope statement)))

  -- A statement has as many bodies as blocks are counted in it.
  pub statement_counted : (part : p.Statement) (here : Standing) (next : ℕ) →
      length (statement_bodies here next part) ≡ length (b.statement_blocks here.scope part)
  statement_counted (p.statement_with caret expr) here next = expr_counted expr here next
