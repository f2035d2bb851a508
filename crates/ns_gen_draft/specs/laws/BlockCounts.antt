-- The blocks of a part are as many as are counted, wherever it stands.
use Rattle.std.proofs.Common.{◌≡◌, ℕ, ◌+◌, List, ◌++◌, length, refl, ap, ◌∙◌, length-append, arith}
use Rattle.ns_tree.specs.Plain as p
use Rattle.ns_scope.specs.declared.scope.Scope.{Scope}
use Rattle.ns_scope.specs.Scopes.{block_scope}
use Rattle.ns_scope.specs.Bodies as b
use Rattle.ns_gen_draft.specs.Counting.{expr_count, cascade_count, message_count, key_expr_count, keys_count, bin_count, opers_count, un_count, primary_count}
use Rattle.ns_gen_draft.specs.Counting.{items_count, block_count, bars_count, slots_count, slot_count, init_count, statements_count, list_count, statement_count}

both : (x y : List Scope) (n k : ℕ) → length x ≡ n → length y ≡ k → length (x ++ y) ≡ n + k
both x y n k e f = length-append x y ∙ ap (λ m. m + length y) e ∙ ap (n +◌) f

mutual
  expr_counted : (part : p.Expr) (scope : Scope) → length (b.expr_blocks scope part) ≡ expr_count part
  expr_counted (p.expr_with sets first more) scope = both _ _ _ _ (key_expr_counted first scope) (cascade_counted more scope)

  cascade_counted : (part : p.Cascade) (scope : Scope) → length (b.cascade_blocks scope part) ≡ cascade_count part
  cascade_counted p.no_messages scope = refl
  cascade_counted (p.more_messages at message rest) scope = both _ _ _ _ (message_counted message scope) (cascade_counted rest scope)

  -- As many blocks are counted in a message as are listed in it.
  pub message_counted : (part : p.Message) (scope : Scope) → length (b.message_blocks scope part) ≡ message_count part
  message_counted (p.unary name) scope = refl
  message_counted (p.binary name argument) scope = un_counted argument scope
  message_counted (p.keywords keys) scope = keys_counted keys scope

  key_expr_counted : (part : p.KeyExpr) (scope : Scope) → length (b.key_expr_blocks scope part) ≡ key_expr_count part
  key_expr_counted (p.sent receiver keys) scope = both _ _ _ _ (bin_counted receiver scope) (keys_counted keys scope)
  key_expr_counted (p.implicit keys) scope = keys_counted keys scope

  keys_counted : (part : p.Keys) (scope : Scope) → length (b.keys_blocks scope part) ≡ keys_count part
  keys_counted p.no_keys scope = refl
  keys_counted (p.more_keys name argument rest) scope = both _ _ _ _ (bin_counted argument scope) (keys_counted rest scope)

  bin_counted : (part : p.BinExpr) (scope : Scope) → length (b.bin_blocks scope part) ≡ bin_count part
  bin_counted (p.bin_with first more) scope = both _ _ _ _ (un_counted first scope) (opers_counted more scope)

  opers_counted : (part : p.Opers) (scope : Scope) → length (b.opers_blocks scope part) ≡ opers_count part
  opers_counted p.no_opers scope = refl
  opers_counted (p.more_opers name argument rest) scope = both _ _ _ _ (un_counted argument scope) (opers_counted rest scope)

  un_counted : (part : p.UnExpr) (scope : Scope) → length (b.un_blocks scope part) ≡ un_count part
  un_counted (p.un_with at primary names) scope = primary_counted primary scope

  primary_counted : (part : p.Primary) (scope : Scope) → length (b.primary_blocks scope part) ≡ primary_count part
  primary_counted (p.paren inner) scope = expr_counted inner scope
  primary_counted (p.block_literal block) scope = block_counted block scope
  primary_counted (p.tuple items stop) scope = items_counted items scope
  primary_counted (p.name text) scope = refl
  primary_counted (p.number minus size) scope = refl
  primary_counted (p.string text) scope = refl
  primary_counted (p.symbol text) scope = refl
  primary_counted p.nil_word scope = refl
  primary_counted p.true_word scope = refl
  primary_counted p.false_word scope = refl
  primary_counted p.self_word scope = refl
  primary_counted p.super_word scope = refl
  primary_counted (p.outer_name name) scope = refl

  items_counted : (part : p.Exprs) (scope : Scope) → length (b.items_blocks scope part) ≡ items_count part
  items_counted p.no_exprs scope = refl
  items_counted (p.more_exprs expr rest) scope = both _ _ _ _ (expr_counted expr scope) (items_counted rest scope)

  pub block_counted : (part : p.Block) (scope : Scope) → length (b.block_blocks scope part) ≡ block_count part
  block_counted (p.block_with params bars body) scope =
      let inner = block_scope scope params bars in
      let e : length (b.bars_blocks inner bars ++ b.statements_blocks inner body) ≡ bars_count bars + statements_count body =
      both _ _ _ _ (bars_counted bars inner) (statements_counted body inner) in
      omega (e, arith)

  bars_counted : (part : p.Bars) (scope : Scope) → length (b.bars_blocks scope part) ≡ bars_count part
  bars_counted p.no_bars scope = refl
  bars_counted (p.bars_around slots) scope = slots_counted slots scope

  -- As many blocks are counted in slots as are listed in them.
  pub slots_counted : (part : p.Slots) (scope : Scope) → length (b.slots_blocks scope part) ≡ slots_count part
  slots_counted p.no_slots scope = refl
  slots_counted (p.more_slots slot rest) scope = both _ _ _ _ (slot_counted slot scope) (slots_counted rest scope)

  slot_counted : (part : p.Slot) (scope : Scope) → length (b.slot_blocks scope part) ≡ slot_count part
  slot_counted (p.slot_with access name init) scope = init_counted init scope

  init_counted : (part : p.SlotInit) (scope : Scope) → length (b.init_blocks scope part) ≡ init_count part
  init_counted (p.bare stop) scope = refl
  init_counted (p.fixed value) scope = expr_counted value scope
  init_counted (p.mutable value) scope = expr_counted value scope

  -- As many blocks are counted in statements as are listed in them.
  pub statements_counted : (part : p.Statements) (scope : Scope) → length (b.statements_blocks scope part) ≡ statements_count part
  statements_counted (p.statements_with list stop) scope = list_counted list scope

  list_counted : (part : p.StatementList) (scope : Scope) → length (b.list_blocks scope part) ≡ list_count part
  list_counted p.no_statements scope = refl
  list_counted (p.more_statements statement rest) scope = both _ _ _ _ (statement_counted statement scope) (list_counted rest scope)

  statement_counted : (part : p.Statement) (scope : Scope) → length (b.statement_blocks scope part) ≡ statement_count part
  statement_counted (p.statement_with caret expr) scope = expr_counted expr scope
