-- In a program without faults the locals of a body are few: those of blocks.
use Rattle.std.proofs.Common.{◌≡◌, ◌<◌, ℕ, ◌+◌, List, [], ◌∷◌, ◌++◌, length, ◌^◌, arith}
use Rattle.std.specs.Prelude.{map}
use Rattle.std.proofs.lemmas.List.{length-map}
use Rattle.ns_tree.specs.declared.tree.Named.{Named}
use Rattle.ns_tree.specs.Plain as p
use Rattle.ns_scope.specs.declared.names.Declared.{Declared}
use Rattle.ns_scope.specs.declared.names.Local.{Local}
use Rattle.ns_scope.specs.Names.{locals_of}
use Rattle.ns_scope.specs.Bodies as b
use Rattle.ns_static_rules.specs.declared.fault.Many.TheVariants as many
use Rattle.ns_static_rules.specs.declared.fault.StaticCause.TheVariants as c
use Rattle.ns_static_rules.specs.declared.fault.Role.{Role}
use Rattle.ns_static_rules.specs.Rules.{locals_found, found_repeated, cascade_found}
use Rattle.ns_static_rules.specs.Faults as f
use Rattle.ns_resolved.specs.Program as m
use Rattle.ns_resolved.specs.Expressions.{Standing}
use Rattle.ns_resolved.specs.Statements.{inside, local_names, expr_bodies, cascade_bodies, message_bodies, key_expr_bodies, keys_bodies, bin_bodies}
use Rattle.ns_resolved.specs.Statements.{opers_bodies, un_bodies, primary_bodies, items_bodies, block_bodies, bars_bodies, slots_bodies, slot_bodies}
use Rattle.ns_resolved.specs.Statements.{init_bodies, statements_bodies, list_bodies, statement_bodies}
use Rattle.ns_link.proofs.Faults.{empty_left, empty_right}
use Rattle.ns_link.proofs.Differ.{not_past}

-- each of these bodies has few locals
abbrev pub AllFew : List m.Body → Type 0
AllFew [] = Unit {0}
AllFew (body ∷ bodies) = (length body.locals < 2 ^ 8) × AllFew bodies

pub few_both : (a b : List m.Body) → AllFew a → AllFew b → AllFew (a ++ b)
few_both [] b left right = right
few_both (body ∷ a) b left right = (left.0, few_both a b left.1 right)

pub few_locals : (params : List Named) (bars : p.Bars) → locals_found (locals_of params bars) ≡ [] →
    length (local_names params bars) < 2 ^ 8
few_locals params bars e =
    let locals = locals_of params bars in
    let few = not_past 255 many.Locals (map (λ (d : Declared Local). d.at) locals) (empty_right (found_repeated c.DuplicateLocal [] locals) _ e) in
    omega (few, length-map locals (λ (d : Declared Local). d.at), length-map locals (λ (d : Declared Local). d.name), arith)

mutual
  pub expr_few : (part : p.Expr) (here : Standing) (next : ℕ) → f.expr_faults here.scope part ≡ [] → AllFew (expr_bodies here next part)
  expr_few (p.expr_with sets first more) here next e =
      let both = empty_right (cascade_found first more) (f.key_expr_faults here.scope first ++ f.cascade_faults here.scope more) (empty_right _ _ e) in
      few_both _ _ (key_expr_few first here next (empty_left (f.key_expr_faults here.scope first) (f.cascade_faults here.scope more) both))
      (cascade_few more here (next + length (b.key_expr_blocks here.scope first)) (empty_right (f.key_expr_faults here.scope first) (f.cascade_faults here.scope more) both))

  pub cascade_few : (part : p.Cascade) (here : Standing) (next : ℕ) → f.cascade_faults here.scope part ≡ [] → AllFew (cascade_bodies here next part)
  cascade_few p.no_messages here next e = tt
  cascade_few (p.more_messages at message rest) here next e =
      few_both _ _ (message_few message here next (empty_left (f.message_faults here.scope message) (f.cascade_faults here.scope rest) e))
      (cascade_few rest here (next + length (b.message_blocks here.scope message)) (empty_right (f.message_faults here.scope message) (f.cascade_faults here.scope rest) e))

  pub message_few : (part : p.Message) (here : Standing) (next : ℕ) → f.message_faults here.scope part ≡ [] → AllFew (message_bodies here next part)
  message_few (p.unary name) here next e = tt
  message_few (p.binary name argument) here next e = un_few argument _ here next e
  message_few (p.keywords keys) here next e = keys_few keys here next (empty_right (f.keywords_found keys) (f.keys_faults here.scope keys) e)

  pub key_expr_few : (part : p.KeyExpr) (here : Standing) (next : ℕ) → f.key_expr_faults here.scope part ≡ [] → AllFew (key_expr_bodies here next part)
  key_expr_few (p.sent receiver keys) here next e =
      few_both _ _ (bin_few receiver _ here next (empty_left _ (f.keywords_found keys ++ f.keys_faults here.scope keys) e))
      (keys_few keys here (next + length (b.bin_blocks here.scope receiver))
      (empty_right (f.keywords_found keys) (f.keys_faults here.scope keys) (empty_right _ (f.keywords_found keys ++ f.keys_faults here.scope keys) e)))
  key_expr_few (p.implicit keys) here next e = keys_few keys here next (empty_right (f.keywords_found keys) (f.keys_faults here.scope keys) e)

  pub keys_few : (part : p.Keys) (here : Standing) (next : ℕ) → f.keys_faults here.scope part ≡ [] → AllFew (keys_bodies here next part)
  keys_few p.no_keys here next e = tt
  keys_few (p.more_keys name argument rest) here next e =
      few_both _ _ (bin_few argument _ here next (empty_left _ (f.keys_faults here.scope rest) e))
      (keys_few rest here (next + length (b.bin_blocks here.scope argument)) (empty_right _ (f.keys_faults here.scope rest) e))

  pub bin_few : (part : p.BinExpr) (role : Role) (here : Standing) (next : ℕ) → f.bin_faults here.scope role part ≡ [] → AllFew (bin_bodies here next part)
  bin_few (p.bin_with first more) role here next e =
      few_both _ _ (un_few first _ here next (empty_left _ (f.opers_faults here.scope more) e))
      (opers_few more here (next + length (b.un_blocks here.scope first)) (empty_right _ (f.opers_faults here.scope more) e))

  pub opers_few : (part : p.Opers) (here : Standing) (next : ℕ) → f.opers_faults here.scope part ≡ [] → AllFew (opers_bodies here next part)
  opers_few p.no_opers here next e = tt
  opers_few (p.more_opers name argument rest) here next e =
      few_both _ _ (un_few argument _ here next (empty_left _ (f.opers_faults here.scope rest) e))
      (opers_few rest here (next + length (b.un_blocks here.scope argument)) (empty_right _ (f.opers_faults here.scope rest) e))

  pub un_few : (part : p.UnExpr) (role : Role) (here : Standing) (next : ℕ) → f.un_faults here.scope role part ≡ [] → AllFew (un_bodies here next part)
  un_few (p.un_with at primary names) role here next e = primary_few primary _ at here next e

  pub primary_few : (part : p.Primary) (role : Role) (at : ℕ) (here : Standing) (next : ℕ) → f.primary_faults here.scope role at part ≡ [] →
      AllFew (primary_bodies here next part)
  primary_few (p.paren inner) role at here next e = expr_few inner here next e
  primary_few (p.block_literal block) role at here next e = block_few block here next e
  primary_few (p.tuple items stop) role at here next e = items_few items here next (empty_right (f.elements_found items) (f.items_faults here.scope items) e)
  primary_few (p.name text) role at here next e = tt
  primary_few (p.number minus size) role at here next e = tt
  primary_few (p.string text) role at here next e = tt
  primary_few (p.symbol text) role at here next e = tt
  primary_few p.nil_word role at here next e = tt
  primary_few p.true_word role at here next e = tt
  primary_few p.false_word role at here next e = tt
  primary_few p.self_word role at here next e = tt
  primary_few p.super_word role at here next e = tt
  primary_few (p.outer_name name) role at here next e = tt

  pub items_few : (part : p.Exprs) (here : Standing) (next : ℕ) → f.items_faults here.scope part ≡ [] → AllFew (items_bodies here next part)
  items_few p.no_exprs here next e = tt
  items_few (p.more_exprs expr rest) here next e =
      few_both _ _ (expr_few expr here next (empty_left (f.expr_faults here.scope expr) (f.items_faults here.scope rest) e))
      (items_few rest here (next + length (b.expr_blocks here.scope expr)) (empty_right (f.expr_faults here.scope expr) (f.items_faults here.scope rest) e))

  pub block_few : (part : p.Block) (here : Standing) (next : ℕ) → f.block_faults here.scope part ≡ [] → AllFew (block_bodies here next part)
  block_few (p.block_with params bars body) here next e =
      let at = inside here next params bars in
      let inner = f.bars_faults at.scope bars ++ f.statements_faults at.scope body in
      let both = empty_right (locals_found (locals_of params bars)) inner e in (
        few_locals params bars (empty_left (locals_found (locals_of params bars)) inner e),
        few_both _ _ (bars_few bars at (next + 1) (empty_left (f.bars_faults at.scope bars) (f.statements_faults at.scope body) both))
            (statements_few body at (next + 1 + length (b.bars_blocks at.scope bars)) (empty_right (f.bars_faults at.scope bars) (f.statements_faults at.scope body) both)),
      )

  pub bars_few : (part : p.Bars) (here : Standing) (next : ℕ) → f.bars_faults here.scope part ≡ [] → AllFew (bars_bodies here next part)
  bars_few p.no_bars here next e = tt
  bars_few (p.bars_around slots) here next e = slots_few slots here next e

  pub slots_few : (part : p.Slots) (here : Standing) (next : ℕ) → f.slots_faults here.scope part ≡ [] → AllFew (slots_bodies here next part)
  slots_few p.no_slots here next e = tt
  slots_few (p.more_slots slot rest) here next e =
      few_both _ _ (slot_few slot here next (empty_left (f.slot_faults here.scope slot) (f.slots_faults here.scope rest) e))
      (slots_few rest here (next + length (b.slot_blocks here.scope slot)) (empty_right (f.slot_faults here.scope slot) (f.slots_faults here.scope rest) e))

  pub slot_few : (part : p.Slot) (here : Standing) (next : ℕ) → f.slot_faults here.scope part ≡ [] → AllFew (slot_bodies here next part)
  slot_few (p.slot_with access name init) here next e = init_few init here next e

  pub init_few : (part : p.SlotInit) (here : Standing) (next : ℕ) → f.init_faults here.scope part ≡ [] → AllFew (init_bodies here next part)
  init_few (p.bare stop) here next e = tt
  init_few (p.fixed value) here next e = expr_few value here next e
  init_few (p.mutable value) here next e = expr_few value here next e

  pub statements_few : (part : p.Statements) (here : Standing) (next : ℕ) → f.statements_faults here.scope part ≡ [] → AllFew (statements_bodies here next part)
  statements_few (p.statements_with list stop) here next e = list_few list here next e

  pub list_few : (part : p.StatementList) (here : Standing) (next : ℕ) → f.list_faults here.scope part ≡ [] → AllFew (list_bodies here next part)
  list_few p.no_statements here next e = tt
  list_few (p.more_statements statement rest) here next e =
      few_both _ _ (statement_few statement here next (empty_left (f.statement_faults here.scope statement) (f.list_faults here.scope rest) e))
      (list_few rest here (next + length (b.statement_blocks here.scope statement)) (empty_right (f.statement_faults here.scope statement) (f.list_faults here.scope rest) e))

  pub statement_few : (part : p.Statement) (here : Standing) (next : ℕ) → f.statement_faults here.scope part ≡ [] → AllFew (statement_bodies here next part)
  statement_few (p.statement_with caret expr) here next e = expr_few expr here next (empty_right _ (f.expr_faults here.scope expr) e)
