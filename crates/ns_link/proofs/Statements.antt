-- What the slots and statements of a body without faults use.
use Rattle.std.proofs.Common.{◌≡◌, ◌<◌, ◌≤◌, ℕ, ◌+◌, List, [], ◌∷◌, ◌++◌, length, arith}
use Rattle.std.specs.Prelude.{map, Option, Some, None}
use Rattle.ns_tree.specs.declared.token.Kind.TheVariants as k
use Rattle.ns_tree.specs.Flat.{bar, ident, flat_access, flat_caret, flat_expr, flat_init, flat_slots, flat_bars, flat_statement, flat_list, flat_more_list}
use Rattle.ns_tree.specs.Flat.{flat_statements, stop_if}
use Rattle.ns_tree.specs.Plain as p
use Rattle.ns_tree.specs.Tree.{AllHaveText}
use Rattle.ns_scope.specs.Bodies as b
use Rattle.ns_static_rules.specs.Rules.{return_found}
use Rattle.ns_static_rules.specs.Faults as f
use Rattle.ns_resolved.specs.Program as m
use Rattle.ns_resolved.specs.Uses.{Use, a_local, a_slot, a_return_home, NodeHas, LocalsHave, SlotsHave, MethodHas, BlockHas, ExpressionsHave}
use Rattle.ns_resolved.specs.Expressions.{Standing, expr_node}
use Rattle.ns_resolved.specs.Statements.{first_values, slots_values, bars_values, list_steps, statements_steps}
use Rattle.ns_resolved.specs.Tables.{step_node}
use Rattle.ns_link.specs.Reaching.{NamesHave}
use Rattle.ns_link.proofs.Faults.{empty_left, empty_right}
use Rattle.ns_link.proofs.Patterns.{texts_left, texts_right}
use Rattle.ns_link.proofs.Expressions.{expr_has}

-- how many slots there are
abbrev pub slots_count : p.Slots → ℕ
slots_count p.no_slots = 0
slots_count (p.more_slots slot rest) = slots_count rest + 1

abbrev pub bars_count : p.Bars → ℕ
bars_count p.no_bars = 0
bars_count (p.bars_around slots) = slots_count slots

more_list : (list : p.StatementList) → AllHaveText (flat_more_list list) → AllHaveText (flat_list list)
more_list p.no_statements texts = tt
more_list (p.more_statements statement rest) texts = texts.1

module _ (Has : Use → Type 0) (here : Standing) (reaches : NamesHave Has here.scope) where
  -- ---- slots

  first_locals : (init : p.SlotInit) (next index : ℕ) (others : List m.First) → f.init_faults here.scope init ≡ [] → AllHaveText (flat_init init) →
      Has (a_local 0 index) → LocalsHave Has others → LocalsHave Has (first_values here next index init ++ others)
  first_locals (p.bare stop) next index others e texts l h = h
  first_locals (p.fixed value) next index others e texts l h = (expr_has Has here reaches value next e (texts_left (flat_expr value) (k.Stop ∷ []) texts.1), l, h)
  first_locals (p.mutable value) next index others e texts l h = (expr_has Has here reaches value next e (texts_left (flat_expr value) (k.Stop ∷ []) texts.1), l, h)

  first_slots : (init : p.SlotInit) (next index : ℕ) (others : List m.First) → f.init_faults here.scope init ≡ [] → AllHaveText (flat_init init) →
      Has (a_slot index) → SlotsHave Has others → SlotsHave Has (first_values here next index init ++ others)
  first_slots (p.bare stop) next index others e texts l h = h
  first_slots (p.fixed value) next index others e texts l h = (expr_has Has here reaches value next e (texts_left (flat_expr value) (k.Stop ∷ []) texts.1), l, h)
  first_slots (p.mutable value) next index others e texts l h = (expr_has Has here reaches value next e (texts_left (flat_expr value) (k.Stop ∷ []) texts.1), l, h)

  locals_have : (slots : p.Slots) (next index most : ℕ) → index + slots_count slots ≤ most → ((i : ℕ) → i < most → Has (a_local 0 i)) →
      f.slots_faults here.scope slots ≡ [] → AllHaveText (flat_slots slots) → LocalsHave Has (slots_values here next index slots)
  locals_have p.no_slots next index most few local e texts = tt
  locals_have (p.more_slots (p.slot_with access name init) rest) next index most few local e texts =
      let slot = flat_access access ++ ident name ∷ flat_init init in
      let told = texts_right (flat_access access) (ident name ∷ flat_init init) (texts_left slot (flat_slots rest) texts) in
      first_locals init next index (slots_values here (next + length (b.init_blocks here.scope init)) (index + 1) rest)
      (empty_left (f.init_faults here.scope init) (f.slots_faults here.scope rest) e) told.1 (local index (omega (few, arith)))
      (locals_have rest (next + length (b.init_blocks here.scope init)) (index + 1) most (omega (few, arith)) local
      (empty_right (f.init_faults here.scope init) (f.slots_faults here.scope rest) e) (texts_right slot (flat_slots rest) texts))

  slots_have : (slots : p.Slots) (next index most : ℕ) → index + slots_count slots ≤ most → ((i : ℕ) → i < most → Has (a_slot i)) →
      f.slots_faults here.scope slots ≡ [] → AllHaveText (flat_slots slots) → SlotsHave Has (slots_values here next index slots)
  slots_have p.no_slots next index most few slot e texts = tt
  slots_have (p.more_slots (p.slot_with access name init) rest) next index most few has_slot e texts =
      let slot = flat_access access ++ ident name ∷ flat_init init in
      let told = texts_right (flat_access access) (ident name ∷ flat_init init) (texts_left slot (flat_slots rest) texts) in
      first_slots init next index (slots_values here (next + length (b.init_blocks here.scope init)) (index + 1) rest)
      (empty_left (f.init_faults here.scope init) (f.slots_faults here.scope rest) e) told.1 (has_slot index (omega (few, arith)))
      (slots_have rest (next + length (b.init_blocks here.scope init)) (index + 1) most (omega (few, arith)) has_slot
      (empty_right (f.init_faults here.scope init) (f.slots_faults here.scope rest) e) (texts_right slot (flat_slots rest) texts))

  pub bars_locals : (bars : p.Bars) (next index most : ℕ) → index + bars_count bars ≤ most → ((i : ℕ) → i < most → Has (a_local 0 i)) →
      f.bars_faults here.scope bars ≡ [] → AllHaveText (flat_bars bars) → LocalsHave Has (bars_values here next index bars)
  bars_locals p.no_bars next index most few local e texts = tt
  bars_locals (p.bars_around slots) next index most few local e texts =
      locals_have slots next index most few local e (texts_left (flat_slots slots) (bar ∷ []) texts.1)

  pub bars_slots : (bars : p.Bars) (next most : ℕ) → bars_count bars ≤ most → ((i : ℕ) → i < most → Has (a_slot i)) →
      f.bars_faults here.scope bars ≡ [] → AllHaveText (flat_bars bars) → SlotsHave Has (bars_values here next 0 bars)
  bars_slots p.no_bars next most few slot e texts = tt
  bars_slots (p.bars_around slots) next most few slot e texts =
      slots_have slots next 0 most (omega (few, arith)) slot e (texts_left (flat_slots slots) (bar ∷ []) texts.1)

  -- ---- statements

  -- the expression of a statement
  statement_has : (caret : Option ℕ) (expr : p.Expr) (next : ℕ) → f.statement_faults here.scope (p.statement_with caret expr) ≡ [] →
      AllHaveText (flat_statement (p.statement_with caret expr)) → NodeHas Has (expr_node here next expr)
  statement_has caret expr next e texts =
      expr_has Has here reaches expr next (empty_right (return_found here.scope caret) (f.expr_faults here.scope expr) e) (texts_right (flat_caret caret) (flat_expr expr) texts)

  list_method : (list : p.StatementList) (next : ℕ) → f.list_faults here.scope list ≡ [] → AllHaveText (flat_list list) → MethodHas Has (list_steps here next list)
  list_method p.no_statements next e texts = tt
  list_method (p.more_statements (p.statement_with None expr) rest) next e texts =
      let first = p.statement_with None expr in (
        statement_has None expr next (empty_left (f.statement_faults here.scope first) (f.list_faults here.scope rest) e) (texts_left (flat_statement first) (flat_more_list rest) texts),
        list_method rest (next + length (b.expr_blocks here.scope expr)) (empty_right (f.statement_faults here.scope first) (f.list_faults here.scope rest) e)
            (more_list rest (texts_right (flat_statement first) (flat_more_list rest) texts)),
      )
  list_method (p.more_statements (p.statement_with (Some at) expr) rest) next e texts =
      let first = p.statement_with (Some at) expr in (
        statement_has (Some at) expr next (empty_left (f.statement_faults here.scope first) (f.list_faults here.scope rest) e) (texts_left (flat_statement first) (flat_more_list rest) texts),
        list_method rest (next + length (b.expr_blocks here.scope expr)) (empty_right (f.statement_faults here.scope first) (f.list_faults here.scope rest) e)
            (more_list rest (texts_right (flat_statement first) (flat_more_list rest) texts)),
      )

  list_block : (list : p.StatementList) (next : ℕ) → ((at : ℕ) → return_found here.scope (Some at) ≡ [] → Has a_return_home) → f.list_faults here.scope list ≡ [] →
      AllHaveText (flat_list list) → BlockHas Has (list_steps here next list)
  list_block p.no_statements next home e texts = tt
  list_block (p.more_statements (p.statement_with None expr) rest) next home e texts =
      let first = p.statement_with None expr in (
        statement_has None expr next (empty_left (f.statement_faults here.scope first) (f.list_faults here.scope rest) e) (texts_left (flat_statement first) (flat_more_list rest) texts),
        list_block rest (next + length (b.expr_blocks here.scope expr)) home (empty_right (f.statement_faults here.scope first) (f.list_faults here.scope rest) e)
            (more_list rest (texts_right (flat_statement first) (flat_more_list rest) texts)),
      )
  list_block (p.more_statements (p.statement_with (Some at) expr) rest) next home e texts =
      let first = p.statement_with (Some at) expr in
      let here_none = empty_left (f.statement_faults here.scope first) (f.list_faults here.scope rest) e in (
        statement_has (Some at) expr next here_none (texts_left (flat_statement first) (flat_more_list rest) texts),
        home at (empty_left (return_found here.scope (Some at)) (f.expr_faults here.scope expr) here_none),
        list_block rest (next + length (b.expr_blocks here.scope expr)) home (empty_right (f.statement_faults here.scope first) (f.list_faults here.scope rest) e)
            (more_list rest (texts_right (flat_statement first) (flat_more_list rest) texts)),
      )

  list_expressions : (list : p.StatementList) (next : ℕ) → f.list_faults here.scope list ≡ [] → AllHaveText (flat_list list) →
      ExpressionsHave Has (map step_node (list_steps here next list))
  list_expressions p.no_statements next e texts = tt
  list_expressions (p.more_statements (p.statement_with None expr) rest) next e texts =
      let first = p.statement_with None expr in (
        statement_has None expr next (empty_left (f.statement_faults here.scope first) (f.list_faults here.scope rest) e) (texts_left (flat_statement first) (flat_more_list rest) texts),
        list_expressions rest (next + length (b.expr_blocks here.scope expr)) (empty_right (f.statement_faults here.scope first) (f.list_faults here.scope rest) e)
            (more_list rest (texts_right (flat_statement first) (flat_more_list rest) texts)),
      )
  list_expressions (p.more_statements (p.statement_with (Some at) expr) rest) next e texts =
      let first = p.statement_with (Some at) expr in (
        statement_has (Some at) expr next (empty_left (f.statement_faults here.scope first) (f.list_faults here.scope rest) e) (texts_left (flat_statement first) (flat_more_list rest) texts),
        list_expressions rest (next + length (b.expr_blocks here.scope expr)) (empty_right (f.statement_faults here.scope first) (f.list_faults here.scope rest) e)
            (more_list rest (texts_right (flat_statement first) (flat_more_list rest) texts)),
      )

  pub statements_method : (body : p.Statements) (next : ℕ) → f.statements_faults here.scope body ≡ [] → AllHaveText (flat_statements body) →
      MethodHas Has (statements_steps here next body)
  statements_method (p.statements_with list stop) next e texts = list_method list next e (texts_left (flat_list list) (stop_if stop) texts)

  pub statements_block : (body : p.Statements) (next : ℕ) → ((at : ℕ) → return_found here.scope (Some at) ≡ [] → Has a_return_home) →
      f.statements_faults here.scope body ≡ [] → AllHaveText (flat_statements body) → BlockHas Has (statements_steps here next body)
  statements_block (p.statements_with list stop) next home e texts = list_block list next home e (texts_left (flat_list list) (stop_if stop) texts)

  pub statements_expressions : (body : p.Statements) (next : ℕ) → f.statements_faults here.scope body ≡ [] → AllHaveText (flat_statements body) →
      ExpressionsHave Has (map step_node (statements_steps here next body))
  statements_expressions (p.statements_with list stop) next e texts = list_expressions list next e (texts_left (flat_list list) (stop_if stop) texts)
