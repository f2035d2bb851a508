-- What the slots and statements of a body mean, and what kind of body they make. A number beside where they stand is
-- that of the next block's body.
use Rattle.std.specs.Prelude.{ℕ, ◌+◌, Bool, nat_lt, List, [], ◌∷◌, ◌++◌, length, map, Option, Some, None}
use Rattle.ns_tree.specs.declared.tree.Named.{Named}
use Rattle.ns_tree.specs.Plain as p
use Rattle.ns_scope.specs.declared.scope.Scope.{Scope}
use Rattle.ns_scope.specs.Names.{locals_of}
use Rattle.ns_scope.specs.Scopes.{block_scope}
use Rattle.ns_scope.specs.Bodies as b
use Rattle.ns_resolved.specs.Program as m
use Rattle.ns_resolved.specs.Expressions.{Standing, expr_node}

-- ---- slots and statements

-- the values of slots or locals, which are numbered from this one on
abbrev pub first_values : Standing → ℕ → ℕ → p.SlotInit → List m.First
first_values here next index (p.bare stop) = []
first_values here next index (p.fixed value) = record { index = index; value = expr_node here next value } ∷ []
first_values here next index (p.mutable value) = record { index = index; value = expr_node here next value } ∷ []

abbrev pub slots_values : Standing → ℕ → ℕ → p.Slots → List m.First
slots_values here next index p.no_slots = []
slots_values here next index (p.more_slots (p.slot_with access name init) rest) =
    first_values here next index init ++ slots_values here (next + length (b.init_blocks here.scope init)) (index + 1) rest

abbrev pub bars_values : Standing → ℕ → ℕ → p.Bars → List m.First
bars_values here next index p.no_bars = []
bars_values here next index (p.bars_around slots) = slots_values here next index slots

abbrev pub step_of : Standing → ℕ → p.Statement → m.Step
step_of here next (p.statement_with None expr) = m.evaluate (expr_node here next expr)
step_of here next (p.statement_with (Some at) expr) = m.return (expr_node here next expr)

abbrev pub list_steps : Standing → ℕ → p.StatementList → List m.Step
list_steps here next p.no_statements = []
list_steps here next (p.more_statements statement rest) =
    step_of here next statement ∷ list_steps here (next + length (b.statement_blocks here.scope statement)) rest

abbrev pub statements_steps : Standing → ℕ → p.Statements → List m.Step
statements_steps here next (p.statements_with list stop) = list_steps here next list

-- ---- bodies

-- where the expressions of a block stand, which has this number
abbrev pub inside : Standing → ℕ → List Named → p.Bars → Standing
inside here number params bars = record here { scope = block_scope here.scope params bars; body = number }

-- the names of the parameters and locals of a body
abbrev pub local_names : List Named → p.Bars → List (List ℕ)
local_names params bars = map (λ local. local.name) (locals_of params bars)

-- whether there is one
abbrev pub are_any : {A : Type 0} → List A → Bool
are_any items = nat_lt 0 (length items)

-- the body in which such expressions stand: its parent, its parameters and locals, the blocks in it, and what it does
abbrev pub body_with : Standing → Option ℕ → List Named → p.Bars → List Scope → m.Does → m.Body
body_with here parent params bars blocks does =
    record {
      side = here.scope.side;
      class = here.class;
      parent = parent;
      params = length params;
      locals = local_names params bars;
      environment = are_any blocks;
      does = does;
    }

-- a method or block with these locals and statements: its body, where its expressions stand
abbrev pub routine : Standing → Option ℕ → (List m.First → List m.Step → m.Does) → List Named → p.Bars → p.Statements → m.Body
routine here parent kind params bars body =
    body_with here parent params bars (b.bars_blocks here.scope bars ++ b.statements_blocks here.scope body)
    (kind
    (bars_values here (here.body + 1) (length params) bars)
    (statements_steps here (here.body + 1 + length (b.bars_blocks here.scope bars)) body))

-- the body of a block in an expression that stands so
abbrev pub block_body : Standing → ℕ → p.Block → m.Body
block_body here number (p.block_with params bars body) =
    routine (inside here number params bars) (Some here.body) m.as_block params bars body

-- ---- the bodies of the blocks in an expression, in the order of the text

abbrev mutual
  pub expr_bodies : Standing → ℕ → p.Expr → List m.Body
  expr_bodies here next (p.expr_with sets first more) =
      key_expr_bodies here next first ++ cascade_bodies here (next + length (b.key_expr_blocks here.scope first)) more

  pub cascade_bodies : Standing → ℕ → p.Cascade → List m.Body
  cascade_bodies here next p.no_messages = []
  cascade_bodies here next (p.more_messages at message rest) =
      message_bodies here next message ++ cascade_bodies here (next + length (b.message_blocks here.scope message)) rest

  pub message_bodies : Standing → ℕ → p.Message → List m.Body
  message_bodies here next (p.unary name) = []
  message_bodies here next (p.binary name argument) = un_bodies here next argument
  message_bodies here next (p.keywords keys) = keys_bodies here next keys

  pub key_expr_bodies : Standing → ℕ → p.KeyExpr → List m.Body
  key_expr_bodies here next (p.sent receiver keys) = bin_bodies here next receiver ++ keys_bodies here (next + length (b.bin_blocks here.scope receiver)) keys
  key_expr_bodies here next (p.implicit keys) = keys_bodies here next keys

  pub keys_bodies : Standing → ℕ → p.Keys → List m.Body
  keys_bodies here next p.no_keys = []
  keys_bodies here next (p.more_keys name argument rest) =
      bin_bodies here next argument ++ keys_bodies here (next + length (b.bin_blocks here.scope argument)) rest

  pub bin_bodies : Standing → ℕ → p.BinExpr → List m.Body
  bin_bodies here next (p.bin_with first more) = un_bodies here next first ++ opers_bodies here (next + length (b.un_blocks here.scope first)) more

  pub opers_bodies : Standing → ℕ → p.Opers → List m.Body
  opers_bodies here next p.no_opers = []
  opers_bodies here next (p.more_opers name argument rest) =
      un_bodies here next argument ++ opers_bodies here (next + length (b.un_blocks here.scope argument)) rest

  pub un_bodies : Standing → ℕ → p.UnExpr → List m.Body
  un_bodies here next (p.un_with at primary names) = primary_bodies here next primary

  pub primary_bodies : Standing → ℕ → p.Primary → List m.Body
  primary_bodies here next (p.paren inner) = expr_bodies here next inner
  primary_bodies here next (p.block_literal block) = block_bodies here next block
  primary_bodies here next (p.tuple items stop) = items_bodies here next items
  primary_bodies here next (p.name text) = []
  primary_bodies here next (p.number minus size) = []
  primary_bodies here next (p.string text) = []
  primary_bodies here next (p.symbol text) = []
  primary_bodies here next p.nil_word = []
  primary_bodies here next p.true_word = []
  primary_bodies here next p.false_word = []
  primary_bodies here next p.self_word = []
  primary_bodies here next p.super_word = []
  primary_bodies here next (p.outer_name name) = []

  pub items_bodies : Standing → ℕ → p.Exprs → List m.Body
  items_bodies here next p.no_exprs = []
  items_bodies here next (p.more_exprs expr rest) = expr_bodies here next expr ++ items_bodies here (next + length (b.expr_blocks here.scope expr)) rest

  -- the block, and then those in it
  pub block_bodies : Standing → ℕ → p.Block → List m.Body
  block_bodies here next (p.block_with params bars body) =
      block_body here next (p.block_with params bars body)
      ∷ (bars_bodies (inside here next params bars) (next + 1) bars
      ++ statements_bodies (inside here next params bars) (next + 1 + length (b.bars_blocks (block_scope here.scope params bars) bars)) body)

  pub bars_bodies : Standing → ℕ → p.Bars → List m.Body
  bars_bodies here next p.no_bars = []
  bars_bodies here next (p.bars_around slots) = slots_bodies here next slots

  pub slots_bodies : Standing → ℕ → p.Slots → List m.Body
  slots_bodies here next p.no_slots = []
  slots_bodies here next (p.more_slots slot rest) = slot_bodies here next slot ++ slots_bodies here (next + length (b.slot_blocks here.scope slot)) rest

  pub slot_bodies : Standing → ℕ → p.Slot → List m.Body
  slot_bodies here next (p.slot_with access name init) = init_bodies here next init

  pub init_bodies : Standing → ℕ → p.SlotInit → List m.Body
  init_bodies here next (p.bare stop) = []
  init_bodies here next (p.fixed value) = expr_bodies here next value
  init_bodies here next (p.mutable value) = expr_bodies here next value

  pub statements_bodies : Standing → ℕ → p.Statements → List m.Body
  statements_bodies here next (p.statements_with list stop) = list_bodies here next list

  pub list_bodies : Standing → ℕ → p.StatementList → List m.Body
  list_bodies here next p.no_statements = []
  list_bodies here next (p.more_statements statement rest) =
      statement_bodies here next statement ++ list_bodies here (next + length (b.statement_blocks here.scope statement)) rest

  pub statement_bodies : Standing → ℕ → p.Statement → List m.Body
  statement_bodies here next (p.statement_with caret expr) = expr_bodies here next expr

-- the blocks of a body, whose expressions stand so, with slots and statements
abbrev pub routine_bodies : Standing → p.Bars → p.Statements → List m.Body
routine_bodies here bars body =
    bars_bodies here (here.body + 1) bars ++ statements_bodies here (here.body + 1 + length (b.bars_blocks here.scope bars)) body
