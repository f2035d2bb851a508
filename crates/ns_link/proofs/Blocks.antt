-- What the bodies of blocks, slots and statements say.
use Rattle.std.proofs.Common.{◌≡◌, ℕ, ◌+◌, List, [], ◌∷◌, ◌++◌, length, refl}
use Rattle.std.specs.Prelude.{Bool, true, false, Option, Some, None, map, All}
use Rattle.std.proofs.lemmas.List.Elements.{All-nil, All-cons, All-head, All-tail, All-append}
use Rattle.ns_base.specs.declared.place.Place.{Place}
use Rattle.ns_tree.specs.declared.token.Kind.TheVariants as k
use Rattle.ns_tree.specs.declared.tree.Named.{Named}
use Rattle.ns_tree.specs.declared.tree.Access.{Access}
use Rattle.ns_tree.specs.Flat.{bar, equals}
use Rattle.ns_tree.specs.Forms.{listed_of, once_or_more_of, statements_form}
use Rattle.ns_tree.specs.Grammar as g
use Rattle.ns_tree.specs.Lists.{slot_list, statement_list}
use Rattle.ns_tree.specs.Plain as p
use Rattle.ns_tree.specs.Rule.{Rule, ◌&◌, many, maybe, listed, ◌▸◌, ◌◂◌, once_or_more, Listed, GoodFrom, flat_from}
use Rattle.ns_scope.specs.declared.names.Setting.{Setting}
use Rattle.ns_scope.specs.Bodies as b
use Rattle.ns_scope.specs.Names.{numbered, param_settings, bars_settings, slot_settings, setting_of}
use Rattle.ns_code.specs.Fits.{IsLocalName}
use Rattle.ns_resolved.specs.Program as m
use Rattle.ns_resolved.specs.Expressions.{Standing}
use Rattle.ns_resolved.specs.Statements.{first_values, slots_values, bars_values, list_steps, statements_steps, local_names}
use Rattle.ns_resolved.specs.Tables.{step_node}
use Rattle.ns_link.proofs.Held.{Told, Held, AllHeld, both, behind, before, all_held, listed_held}
use Rattle.ns_link.proofs.Says.{FirstsSay, StepsSay, ExpressionsSay}
use Rattle.ns_link.proofs.SoundExpressions.{expr_says}
use Rattle.ns_link.proofs.SoundTokens.{ident_held}
use Rattle.ns_link.proofs.Words.{local_named}

module _ (Fine : Place → Type 0) (marks : List Place) where
  abbrev H : {A : Type 0} → Rule A → A → Type 0
  H r a = Held Fine marks r a

  abbrev pub Each : {A : Type 0} → Rule A → List A → Type 0
  Each r items = AllHeld Fine marks r items

  -- ---- slots

  -- a rule for slots gives each a name and an initial value
  abbrev pub GivesSlot : ℕ → Rule p.Slot → Type 0
  GivesSlot depth slot =
      (access : Option Access) (name : Named) (init : p.SlotInit) → H slot (p.slot_with access name init) → H g.ident name × H (g.init (g.primary depth)) init

  pub local_gives : (depth : ℕ) → GivesSlot depth (g.local (g.primary depth))
  local_gives depth None name init h = both Fine marks g.ident (g.init (g.primary depth)) name init h
  local_gives depth (Some access) name init h = absurd h.1

  pub slot_gives : (depth : ℕ) → GivesSlot depth (g.slot (g.primary depth))
  slot_gives depth access name init h =
      both Fine marks g.ident (g.init (g.primary depth)) name init
      (both Fine marks (maybe g.access) (g.ident & g.init (g.primary depth)) access (name, init) h).1

  -- each slot's name and initial value
  abbrev pub SlotsHeld : ℕ → p.Slots → Type 0
  SlotsHeld depth p.no_slots = Unit {0}
  SlotsHeld depth (p.more_slots (p.slot_with access name init) rest) = H g.ident name × H (g.init (g.primary depth)) init × SlotsHeld depth rest

  abbrev pub BarsHeld : ℕ → p.Bars → Type 0
  BarsHeld depth p.no_bars = Unit {0}
  BarsHeld depth (p.bars_around slots) = SlotsHeld depth slots

  slots_held : (depth : ℕ) (slot : Rule p.Slot) → GivesSlot depth slot → (slots : p.Slots) → Each slot (slot_list slots) → SlotsHeld depth slots
  slots_held depth slot gives p.no_slots h = tt
  slots_held depth slot gives (p.more_slots (p.slot_with access name init) rest) h =
      let one = gives access name init h.0 in (one.0, one.1, slots_held depth slot gives rest h.1)

  pub bars_held : (depth : ℕ) (slot : Rule p.Slot) → GivesSlot depth slot → (bars : p.Bars) → H (g.bars (g.primary depth) slot) bars → BarsHeld depth bars
  bars_held depth slot gives p.no_bars h = tt
  bars_held depth slot gives (p.bars_around slots) h =
      slots_held depth slot gives slots
      (all_held Fine marks slot (slot_list slots) (before Fine marks (many slot) bar (slot_list slots) (behind Fine marks bar (many slot ◂ bar) (slot_list slots) h)))

  pub value_held : (depth : ℕ) (value : p.Expr) → H (equals ▸ g.expr (g.primary depth) g.slot_oper ◂ k.Stop) value → H (g.expr (g.primary depth) g.slot_oper) value
  value_held depth value h =
      let expr = g.expr (g.primary depth) g.slot_oper in before Fine marks expr k.Stop value (behind Fine marks equals (expr ◂ k.Stop) value h)

  pub mutable_held : (depth : ℕ) (value : p.Expr) → H (k.SlotSet ▸ g.expr (g.primary depth) g.slot_oper ◂ k.Stop) value → H (g.expr (g.primary depth) g.slot_oper) value
  mutable_held depth value h =
      let expr = g.expr (g.primary depth) g.slot_oper in before Fine marks expr k.Stop value (behind Fine marks k.SlotSet (expr ◂ k.Stop) value h)

  -- ---- statements

  list_held : (depth n : ℕ) (list : p.StatementList) (stop : Bool) (l : Option (Listed p.Statement)) → listed_of (statement_list list) stop ≡ l →
      GoodFrom statements_form (listed (g.stmt (g.primary depth)) k.Stop) n l → Told Fine marks n (flat_from statements_form (listed (g.stmt (g.primary depth)) k.Stop) l) →
      Each (g.stmt (g.primary depth)) (statement_list list)
  list_held depth n list stop None e good told = absurd good
  list_held depth n list stop (Some l) e good told = listed_held Fine marks (g.stmt (g.primary depth)) k.Stop (statement_list list) stop l e (n, good, told)

  pub statements_held : (depth : ℕ) (list : p.StatementList) (stop : Bool) → H (g.stmts (g.primary depth)) (p.statements_with list stop) →
      Each (g.stmt (g.primary depth)) (statement_list list)
  statements_held depth list stop h = list_held depth h.0 list stop (listed_of (statement_list list) stop) refl h.1 h.2

  pub statement_expr : (depth : ℕ) (caret : Option ℕ) (expr : p.Expr) → H (g.stmt (g.primary depth)) (p.statement_with caret expr) → H (g.expr (g.primary depth) g.oper) expr
  statement_expr depth caret expr h = (both Fine marks (maybe g.caret) (g.expr (g.primary depth) g.oper) caret expr h).1

  -- ---- names of locals

  abbrev pub AreLocals : List Named → Type 0
  AreLocals names = All (λ (name : Named). IsLocalName name.text) names

  pub ident_local : (name : Named) → H g.ident name → IsLocalName name.text
  ident_local name h = let one = ident_held Fine marks name h in local_named name.text one.0 one.1

  pub idents_local : (names : List Named) → Each g.ident names → AreLocals names
  idents_local [] h = All-nil (λ (name : Named). IsLocalName name.text)
  idents_local (name ∷ names) h = All-cons (λ (name : Named). IsLocalName name.text) name names (ident_local name h.0) (idents_local names h.1)

  abbrev AreSettings : List (Named × Setting) → Type 0
  AreSettings settings = All (λ (x : Named × Setting). IsLocalName x.0.text) settings

  numbered_local : (settings : List (Named × Setting)) (index : ℕ) → AreSettings settings → All IsLocalName (map (λ local. local.name) (numbered index settings))
  numbered_local [] index h = All-nil IsLocalName
  numbered_local (x ∷ rest) index h =
      All-cons IsLocalName x.0.text (map (λ local. local.name) (numbered (index + 1) rest)) (All-head (λ (x : Named × Setting). IsLocalName x.0.text) x rest h)
      (numbered_local rest (index + 1) (All-tail (λ (x : Named × Setting). IsLocalName x.0.text) x rest h))

  params_local : (params : List Named) → AreLocals params → AreSettings (param_settings params)
  params_local [] h = All-nil (λ (x : Named × Setting). IsLocalName x.0.text)
  params_local (name ∷ names) h =
      All-cons (λ (x : Named × Setting). IsLocalName x.0.text) (name, _) (param_settings names) (All-head (λ (name : Named). IsLocalName name.text) name names h)
      (params_local names (All-tail (λ (name : Named). IsLocalName name.text) name names h))

  slots_local : (depth : ℕ) (slots : p.Slots) → SlotsHeld depth slots → AreSettings (slot_settings slots)
  slots_local depth p.no_slots h = All-nil (λ (x : Named × Setting). IsLocalName x.0.text)
  slots_local depth (p.more_slots (p.slot_with access name init) rest) h =
      All-cons (λ (x : Named × Setting). IsLocalName x.0.text) (name, setting_of init) (slot_settings rest) (ident_local name h.0) (slots_local depth rest h.2)

  bars_local : (depth : ℕ) (bars : p.Bars) → BarsHeld depth bars → AreSettings (bars_settings bars)
  bars_local depth p.no_bars h = All-nil (λ (x : Named × Setting). IsLocalName x.0.text)
  bars_local depth (p.bars_around slots) h = slots_local depth slots h

  pub locals_named : (params : List Named) (bars : p.Bars) (depth : ℕ) → AreLocals params → BarsHeld depth bars → All IsLocalName (local_names params bars)
  locals_named params bars depth are h =
      numbered_local (param_settings params ++ bars_settings bars) 0
      (All-append (λ (x : Named × Setting). IsLocalName x.0.text) (param_settings params) (bars_settings bars) (params_local params are) (bars_local depth bars h))

  pub params_held : (params : List Named) → H (maybe (once_or_more (k.Colon ▸ g.ident) ◂ bar)) (once_or_more_of params) → AreLocals params
  params_held [] h = All-nil (λ (name : Named). IsLocalName name.text)
  params_held (name ∷ names) h =
      colons (name ∷ names) (all_held Fine marks (k.Colon ▸ g.ident) (name ∷ names) (before Fine marks (once_or_more (k.Colon ▸ g.ident)) bar (name, names) h)) where
        colons : (names : List Named) → Each (k.Colon ▸ g.ident) names → AreLocals names
        colons [] h = All-nil (λ (name : Named). IsLocalName name.text)
        colons (name ∷ names) h =
            All-cons (λ (name : Named). IsLocalName name.text) name names (ident_local name (behind Fine marks k.Colon g.ident name h.0)) (colons names h.1)

module _ (Fine : Place → Type 0) (here : Standing) where
  -- ---- what slots and statements say, where the expressions stand so

  init_says : (init : p.SlotInit) (depth next index : ℕ) → Held Fine here.marks (g.init (g.primary depth)) init → FirstsSay Fine (first_values here next index init)
  init_says (p.bare stop) depth next index h = tt
  init_says (p.fixed value) depth next index h =
      (expr_says Fine here value depth true next (value_held Fine here.marks depth value h), tt)
  init_says (p.mutable value) depth next index h =
      (expr_says Fine here value depth true next (mutable_held Fine here.marks depth value h), tt)

  firsts_both : (left right : List m.First) → FirstsSay Fine left → FirstsSay Fine right → FirstsSay Fine (left ++ right)
  firsts_both [] right l r = r
  firsts_both (first ∷ left) right l r = (l.0, firsts_both left right l.1 r)

  slots_say : (slots : p.Slots) (depth next index : ℕ) → SlotsHeld Fine here.marks depth slots → FirstsSay Fine (slots_values here next index slots)
  slots_say p.no_slots depth next index h = tt
  slots_say (p.more_slots (p.slot_with access name init) rest) depth next index h =
      firsts_both (first_values here next index init) (slots_values here (next + length (b.init_blocks here.scope init)) (index + 1) rest)
      (init_says init depth next index h.1) (slots_say rest depth (next + length (b.init_blocks here.scope init)) (index + 1) h.2)

  pub bars_say : (bars : p.Bars) (depth next index : ℕ) → BarsHeld Fine here.marks depth bars → FirstsSay Fine (bars_values here next index bars)
  bars_say p.no_bars depth next index h = tt
  bars_say (p.bars_around slots) depth next index h = slots_say slots depth next index h

  steps_say : (list : p.StatementList) (depth next : ℕ) → AllHeld Fine here.marks (g.stmt (g.primary depth)) (statement_list list) → StepsSay Fine (list_steps here next list)
  steps_say p.no_statements depth next h = tt
  steps_say (p.more_statements (p.statement_with None expr) rest) depth next h = (
    expr_says Fine here expr depth false next (statement_expr Fine here.marks depth None expr h.0),
    steps_say rest depth (next + length (b.expr_blocks here.scope expr)) h.1,
  )
  steps_say (p.more_statements (p.statement_with (Some at) expr) rest) depth next h = (
    expr_says Fine here expr depth false next (statement_expr Fine here.marks depth (Some at) expr h.0),
    steps_say rest depth (next + length (b.expr_blocks here.scope expr)) h.1,
  )

  pub statements_say : (body : p.Statements) (depth next : ℕ) → Held Fine here.marks (g.stmts (g.primary depth)) body → StepsSay Fine (statements_steps here next body)
  statements_say (p.statements_with list stop) depth next h = steps_say list depth next (statements_held Fine here.marks depth list stop h)

  steps_expressions : (steps : List m.Step) → StepsSay Fine steps → ExpressionsSay Fine (map step_node steps)
  steps_expressions [] h = tt
  steps_expressions (m.evaluate node ∷ steps) h = (h.0, steps_expressions steps h.1)
  steps_expressions (m.return node ∷ steps) h = (h.0, steps_expressions steps h.1)

  pub expressions_say : (body : p.Statements) (depth next : ℕ) → Held Fine here.marks (g.stmts (g.primary depth)) body →
      ExpressionsSay Fine (map step_node (statements_steps here next body))
  expressions_say body depth next h = steps_expressions (statements_steps here next body) (statements_say body depth next h)
