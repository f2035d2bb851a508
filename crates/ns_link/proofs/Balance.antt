-- Each expression of a tree closes the brackets that it opens.
use Rattle.std.proofs.Common.{◌≡◌, ℕ, List, [], ◌∷◌, ◌++◌, refl}
use Rattle.std.specs.Prelude.{Bool, true, false, Option, Some, None, map, flat_map, codes, if◌then◌else◌}
use Rattle.ns_tree.specs.declared.token.Kind.TheVariants as k
use Rattle.ns_tree.specs.declared.tree.Named.{Named}
use Rattle.ns_tree.specs.declared.tree.Access.{Access}
use Rattle.ns_tree.specs.declared.tree.Access.TheVariants as a
use Rattle.ns_tree.specs.Flat as f
use Rattle.ns_tree.specs.Plain as p
use Rattle.ns_link.proofs.Tokens.{Balanced, open_after, both, closes, one_less}

-- ---- words and names

pub nothing : Balanced []
nothing depth = refl

pub set_keys : (names : List Named) → Balanced (map f.set_key names)
set_keys [] depth = refl
set_keys (name ∷ names) depth = set_keys names depth

pub idents : (names : List Named) → Balanced (map f.ident names)
idents [] depth = refl
idents (name ∷ names) depth = idents names depth

pub stop_balanced : (stop : Bool) → Balanced (f.stop_if stop)
stop_balanced true depth = refl
stop_balanced false depth = refl

params_turns : (names : List Named) → Balanced (flat_map (λ (n : Named). k.Colon ∷ f.ident n ∷ []) names)
params_turns [] depth = refl
params_turns (name ∷ names) depth = params_turns names depth

pub params_balanced : (params : List Named) → Balanced (f.flat_params params)
params_balanced [] depth = refl
params_balanced (n ∷ ns) depth =
    both (flat_map (λ (n : Named). k.Colon ∷ f.ident n ∷ []) (n ∷ ns)) (f.bar ∷ []) (params_turns (n ∷ ns)) (λ depth. refl) depth

pub access_balanced : (access : Option Access) → Balanced (f.flat_access access)
access_balanced None depth = refl
access_balanced (Some access) depth = by access where
  by : (access : Access) → open_after depth (f.access_word access ∷ []) ≡ depth
  by a.Public = refl
  by a.Protected = refl
  by a.Private = refl

pub caret_balanced : (caret : Option ℕ) → Balanced (f.flat_caret caret)
caret_balanced None depth = refl
caret_balanced (Some at) depth = refl

minus_balanced : (minus : Bool) → Balanced (if minus then k.Oper (codes "-") ∷ [] else [])
minus_balanced true depth = refl
minus_balanced false depth = refl

-- ---- expressions

mutual
  pub expr_balanced : (part : p.Expr) → Balanced (f.flat_expr part)
  expr_balanced (p.expr_with sets first more) =
      both (map f.set_key sets) (f.flat_key_expr first ++ f.flat_cascade more) (set_keys sets)
      (both (f.flat_key_expr first) (f.flat_cascade more) (key_expr_balanced first) (cascade_balanced more))

  pub cascade_balanced : (part : p.Cascade) → Balanced (f.flat_cascade part)
  cascade_balanced p.no_messages = nothing
  cascade_balanced (p.more_messages at message rest) = both (f.flat_message message) (f.flat_cascade rest) (message_balanced message) (cascade_balanced rest)

  pub message_balanced : (part : p.Message) → Balanced (f.flat_message part)
  message_balanced (p.unary name) = nothing
  message_balanced (p.binary name argument) = un_balanced argument
  message_balanced (p.keywords keys) = keys_balanced keys

  pub key_expr_balanced : (part : p.KeyExpr) → Balanced (f.flat_key_expr part)
  key_expr_balanced (p.sent receiver keys) = both (f.flat_bin receiver) (f.flat_keys keys) (bin_balanced receiver) (keys_balanced keys)
  key_expr_balanced (p.implicit keys) = keys_balanced keys

  pub keys_balanced : (part : p.Keys) → Balanced (f.flat_keys part)
  keys_balanced p.no_keys = nothing
  keys_balanced (p.more_keys name argument rest) = both (f.flat_bin argument) (f.flat_keys rest) (bin_balanced argument) (keys_balanced rest)

  pub bin_balanced : (part : p.BinExpr) → Balanced (f.flat_bin part)
  bin_balanced (p.bin_with first more) = both (f.flat_un first) (f.flat_opers more) (un_balanced first) (opers_balanced more)

  pub opers_balanced : (part : p.Opers) → Balanced (f.flat_opers part)
  opers_balanced p.no_opers = nothing
  opers_balanced (p.more_opers name argument rest) = both (f.flat_un argument) (f.flat_opers rest) (un_balanced argument) (opers_balanced rest)

  pub un_balanced : (part : p.UnExpr) → Balanced (f.flat_un part)
  un_balanced (p.un_with at primary names) = both (f.flat_primary primary) (map f.ident names) (primary_balanced primary) (idents names)

  pub primary_balanced : (part : p.Primary) → Balanced (f.flat_primary part)
  primary_balanced (p.name text) = nothing
  primary_balanced (p.number minus size) = both (if minus then k.Oper (codes "-") ∷ [] else []) (k.Number size ∷ []) (minus_balanced minus) nothing
  primary_balanced (p.string text) = nothing
  primary_balanced (p.symbol text) = nothing
  primary_balanced p.nil_word = nothing
  primary_balanced p.true_word = nothing
  primary_balanced p.false_word = nothing
  primary_balanced p.self_word = nothing
  primary_balanced p.super_word = nothing
  primary_balanced (p.outer_name name) = nothing
  primary_balanced (p.paren inner) = closes (f.flat_expr inner) (k.Close ∷ []) (expr_balanced inner) one_less
  primary_balanced (p.block_literal block) = block_balanced block
  primary_balanced (p.tuple items stop) = closes (f.flat_items items) (f.stop_if stop ++ k.CloseTuple ∷ []) (items_balanced items)
      (closes (f.stop_if stop) (k.CloseTuple ∷ []) (stop_balanced stop) one_less)

  pub items_balanced : (part : p.Exprs) → Balanced (f.flat_items part)
  items_balanced p.no_exprs = nothing
  items_balanced (p.more_exprs expr rest) = both (f.flat_expr expr) (f.flat_more_items rest) (expr_balanced expr) (more_items_balanced rest)

  pub more_items_balanced : (part : p.Exprs) → Balanced (f.flat_more_items part)
  more_items_balanced p.no_exprs = nothing
  more_items_balanced (p.more_exprs expr rest) = both (f.flat_expr expr) (f.flat_more_items rest) (expr_balanced expr) (more_items_balanced rest)

  pub block_balanced : (part : p.Block) → Balanced (f.flat_block part)
  block_balanced (p.block_with params bars body) =
      closes (f.flat_params params) (f.flat_bars bars ++ (f.flat_statements body ++ k.CloseBlock ∷ [])) (params_balanced params)
      (closes (f.flat_bars bars) (f.flat_statements body ++ k.CloseBlock ∷ []) (bars_balanced bars)
      (closes (f.flat_statements body) (k.CloseBlock ∷ []) (statements_balanced body) one_less))

  pub bars_balanced : (part : p.Bars) → Balanced (f.flat_bars part)
  bars_balanced p.no_bars = nothing
  bars_balanced (p.bars_around slots) = both (f.flat_slots slots) (f.bar ∷ []) (slots_balanced slots) nothing

  pub slots_balanced : (part : p.Slots) → Balanced (f.flat_slots part)
  slots_balanced p.no_slots = nothing
  slots_balanced (p.more_slots slot rest) = both (f.flat_slot slot) (f.flat_slots rest) (slot_balanced slot) (slots_balanced rest)

  pub slot_balanced : (part : p.Slot) → Balanced (f.flat_slot part)
  slot_balanced (p.slot_with access name init) = both (f.flat_access access) (f.ident name ∷ f.flat_init init) (access_balanced access) (init_balanced init)

  pub init_balanced : (part : p.SlotInit) → Balanced (f.flat_init part)
  init_balanced (p.bare stop) = stop_balanced stop
  init_balanced (p.fixed value) = both (f.flat_expr value) (k.Stop ∷ []) (expr_balanced value) nothing
  init_balanced (p.mutable value) = both (f.flat_expr value) (k.Stop ∷ []) (expr_balanced value) nothing

  pub statements_balanced : (part : p.Statements) → Balanced (f.flat_statements part)
  statements_balanced (p.statements_with list stop) = both (f.flat_list list) (f.stop_if stop) (list_balanced list) (stop_balanced stop)

  pub list_balanced : (part : p.StatementList) → Balanced (f.flat_list part)
  list_balanced p.no_statements = nothing
  list_balanced (p.more_statements statement rest) = both (f.flat_statement statement) (f.flat_more_list rest) (statement_balanced statement) (more_list_balanced rest)

  pub more_list_balanced : (part : p.StatementList) → Balanced (f.flat_more_list part)
  more_list_balanced p.no_statements = nothing
  more_list_balanced (p.more_statements statement rest) = both (f.flat_statement statement) (f.flat_more_list rest) (statement_balanced statement) (more_list_balanced rest)

  pub statement_balanced : (part : p.Statement) → Balanced (f.flat_statement part)
  statement_balanced (p.statement_with caret expr) = both (f.flat_caret caret) (f.flat_expr expr) (caret_balanced caret) (expr_balanced expr)
