-- All faults of a program, over its whole tree.
use Rattle.std.specs.Prelude.{ℕ, ◌+◌, Bool, true, false, List, [], ◌∷◌, ◌++◌, flat_map, Option, Some, None, nat_eq}
use Rattle.ns_tree.specs.declared.tree.Named.{Named}
use Rattle.ns_tree.specs.declared.tree.Base.{Base}
use Rattle.ns_tree.specs.declared.tree.Origin.{Origin}
use Rattle.ns_tree.specs.declared.tree.Origin.TheVariants as o
use Rattle.ns_tree.specs.Plain as p
use Rattle.ns_tree.specs.Parts.{first_key}
use Rattle.ns_scope.specs.declared.scope.ClassScope.{ClassScope}
use Rattle.ns_scope.specs.declared.scope.Scope.{Scope}
use Rattle.ns_scope.specs.declared.scope.CodeSide.{CodeSide}
use Rattle.ns_scope.specs.declared.scope.CodeSide.TheVariants as side
use Rattle.ns_scope.specs.Table.{TableOf}
use Rattle.ns_scope.specs.Names.{locals_of, instance_members, class_members}
use Rattle.ns_scope.specs.Scopes.{class_scope, initialiser_scope, method_scope, block_scope, factory_params}
use Rattle.ns_static_rules.specs.declared.fault.StaticCause.TheVariants as c
use Rattle.ns_static_rules.specs.declared.fault.Many.TheVariants as many
use Rattle.ns_static_rules.specs.declared.fault.Role.{Role}
use Rattle.ns_static_rules.specs.declared.fault.Role.TheVariants as r
use Rattle.ns_static_rules.specs.Rules.{Found, has_names, has_opers, has_keys, found_if, found_past, members_found, locals_found, params_found, set_found}
use Rattle.ns_static_rules.specs.Rules.{return_found, bare_found, outer_found, number_found, cascade_found, top_found, top_name_found}

-- ---- expressions

-- an expression with messages is their receiver
abbrev pub receiver_if : Bool → Role → Role
receiver_if true role = r.Receiver
receiver_if false role = role

abbrev pub key_places : p.Keys → List ℕ
key_places p.no_keys = []
key_places (p.more_keys name argument rest) = name.at ∷ key_places rest

-- TooMany(Parameters) past 63 keys of a message
abbrev pub keywords_found : p.Keys → List Found
keywords_found keys = found_past 63 many.Parameters (key_places keys)

abbrev pub un_start : p.UnExpr → ℕ
un_start (p.un_with at primary names) = at

abbrev pub bin_start : p.BinExpr → ℕ
bin_start (p.bin_with first opers) = un_start first

abbrev pub key_expr_start : p.KeyExpr → ℕ
key_expr_start (p.sent receiver keys) = bin_start receiver
key_expr_start (p.implicit keys) = first_key keys

-- the number of an expression's first token
abbrev pub expr_start : p.Expr → ℕ
expr_start (p.expr_with [] first more) = key_expr_start first
expr_start (p.expr_with (name ∷ sets) first more) = name.at

abbrev pub expr_starts : p.Exprs → List ℕ
expr_starts p.no_exprs = []
expr_starts (p.more_exprs expr rest) = expr_start expr ∷ expr_starts rest

-- TooMany(Elements) past 255 elements of a tuple
abbrev pub elements_found : p.Exprs → List Found
elements_found items = found_past 255 many.Elements (expr_starts items)

abbrev mutual
  pub expr_faults : Scope → p.Expr → List Found
  expr_faults scope (p.expr_with sets first more) =
      flat_map (set_found scope) sets ++ (cascade_found first more ++ (key_expr_faults scope first ++ cascade_faults scope more))

  pub cascade_faults : Scope → p.Cascade → List Found
  cascade_faults scope p.no_messages = []
  cascade_faults scope (p.more_messages at message rest) = message_faults scope message ++ cascade_faults scope rest

  pub message_faults : Scope → p.Message → List Found
  message_faults scope (p.unary name) = []
  message_faults scope (p.binary name argument) = un_faults scope r.Value argument
  message_faults scope (p.keywords keys) = keywords_found keys ++ keys_faults scope keys

  pub key_expr_faults : Scope → p.KeyExpr → List Found
  key_expr_faults scope (p.sent receiver keys) =
      bin_faults scope (receiver_if (has_keys keys) r.Value) receiver ++ (keywords_found keys ++ keys_faults scope keys)
  key_expr_faults scope (p.implicit keys) = keywords_found keys ++ keys_faults scope keys

  pub keys_faults : Scope → p.Keys → List Found
  keys_faults scope p.no_keys = []
  keys_faults scope (p.more_keys name argument rest) = bin_faults scope r.Value argument ++ keys_faults scope rest

  pub bin_faults : Scope → Role → p.BinExpr → List Found
  bin_faults scope role (p.bin_with first more) = un_faults scope (receiver_if (has_opers more) role) first ++ opers_faults scope more

  pub opers_faults : Scope → p.Opers → List Found
  opers_faults scope p.no_opers = []
  opers_faults scope (p.more_opers name argument rest) = un_faults scope r.Value argument ++ opers_faults scope rest

  pub un_faults : Scope → Role → p.UnExpr → List Found
  un_faults scope role (p.un_with at primary names) = primary_faults scope (receiver_if (has_names names) role) at primary

  pub primary_faults : Scope → Role → ℕ → p.Primary → List Found
  primary_faults scope role at (p.number minus size) = number_found minus size at
  primary_faults scope role at p.super_word = bare_found role at
  primary_faults scope role at (p.outer_name name) = bare_found role at ++ outer_found scope.classes name
  primary_faults scope role at (p.paren inner) = expr_faults scope inner
  primary_faults scope role at (p.block_literal block) = block_faults scope block
  primary_faults scope role at (p.tuple items stop) = elements_found items ++ items_faults scope items
  primary_faults scope role at (p.name text) = []
  primary_faults scope role at (p.string text) = []
  primary_faults scope role at (p.symbol text) = []
  primary_faults scope role at p.nil_word = []
  primary_faults scope role at p.true_word = []
  primary_faults scope role at p.false_word = []
  primary_faults scope role at p.self_word = []

  pub items_faults : Scope → p.Exprs → List Found
  items_faults scope p.no_exprs = []
  items_faults scope (p.more_exprs expr rest) = expr_faults scope expr ++ items_faults scope rest

  pub block_faults : Scope → p.Block → List Found
  block_faults scope (p.block_with params bars body) =
      locals_found (locals_of params bars) ++ (bars_faults (block_scope scope params bars) bars ++ statements_faults (block_scope scope params bars) body)

  pub bars_faults : Scope → p.Bars → List Found
  bars_faults scope p.no_bars = []
  bars_faults scope (p.bars_around slots) = slots_faults scope slots

  pub slots_faults : Scope → p.Slots → List Found
  slots_faults scope p.no_slots = []
  slots_faults scope (p.more_slots slot rest) = slot_faults scope slot ++ slots_faults scope rest

  pub slot_faults : Scope → p.Slot → List Found
  slot_faults scope (p.slot_with access name init) = init_faults scope init

  pub init_faults : Scope → p.SlotInit → List Found
  init_faults scope (p.bare stop) = []
  init_faults scope (p.fixed value) = expr_faults scope value
  init_faults scope (p.mutable value) = expr_faults scope value

  pub statements_faults : Scope → p.Statements → List Found
  statements_faults scope (p.statements_with list stop) = list_faults scope list

  pub list_faults : Scope → p.StatementList → List Found
  list_faults scope p.no_statements = []
  list_faults scope (p.more_statements statement rest) = statement_faults scope statement ++ list_faults scope rest

  pub statement_faults : Scope → p.Statement → List Found
  statement_faults scope (p.statement_with caret expr) = return_found scope caret ++ expr_faults scope expr

-- what stands in a block, which sees this
abbrev pub inside_faults : Scope → p.Block → List Found
inside_faults scope (p.block_with params bars body) = bars_faults scope bars ++ statements_faults scope body

-- ---- declarations

abbrev pub origin_faults : List ClassScope → Origin → List Found
origin_faults classes o.Here = []
origin_faults classes o.Super = []
origin_faults classes (o.Outer name) = outer_found classes name

abbrev pub base_faults : List ClassScope → Base → List Found
base_faults classes base = origin_faults classes base.origin

abbrev pub over_faults : List ClassScope → Option Base → List Found
over_faults classes None = []
over_faults classes (Some base) = base_faults classes base

abbrev pub clause_faults : List ClassScope → p.SuperClause → List Found
clause_faults outer (p.clause_with head over message) = top_found outer (p.clause_with head over message) ++ (base_faults outer head ++ over_faults outer over)

-- the head of a clause, which stands in the declarations around the class
abbrev pub head_faults : List ClassScope → Option p.SuperClause → List Found
head_faults outer None = []
head_faults outer (Some clause) = clause_faults outer clause

abbrev pub clause_message_faults : Scope → p.SuperClause → List Found
clause_message_faults scope (p.clause_with head over None) = []
clause_message_faults scope (p.clause_with head over (Some message)) = message_faults scope message

-- the message of a clause, which belongs to the initialiser
abbrev pub super_faults : Scope → Option p.SuperClause → List Found
super_faults scope None = []
super_faults scope (Some clause) = clause_message_faults scope clause

abbrev pub initialiser_faults : List ClassScope → Option p.Pattern → Option p.SuperClause → p.Bars → p.Statements → List Found
initialiser_faults classes factory clause bars body =
    params_found (factory_params factory) ++ (locals_found (locals_of (factory_params factory) p.no_bars)
    ++ (super_faults (initialiser_scope classes factory) clause
    ++ (bars_faults (initialiser_scope classes factory) bars ++ statements_faults (initialiser_scope classes factory) body)))

abbrev pub method_faults : List ClassScope → CodeSide → p.Method → List Found
method_faults classes side (p.method_with (p.pattern_with parts params) bars body) =
    params_found params ++ (locals_found (locals_of params bars)
    ++ (bars_faults (method_scope classes side params bars) bars ++ statements_faults (method_scope classes side params bars) body))

-- what is wrong with the members of a class
abbrev pub class_members_found : p.Class → List Found
class_members_found (p.class_with name factory clause bars body members others) =
    members_found (instance_members bars members) ++ members_found (class_members others)

-- what is wrong with the members of a class and the head of its clause
abbrev pub class_found : List ClassScope → p.Class → List Found
class_found outer (p.class_with name factory clause bars body members others) =
    let class = p.class_with name factory clause bars body members others in
    class_members_found class ++ head_faults outer clause

abbrev mutual
  pub class_faults : List ClassScope → p.Class → List Found
  class_faults outer (p.class_with name factory clause bars body members others) =
      let class = p.class_with name factory clause bars body members others in
      let classes = class_scope class ∷ outer in
      class_found outer class
      ++ (initialiser_faults classes factory clause bars body
      ++ (side_faults classes side.Instance members ++ class_side_faults classes others))

  pub class_side_faults : List ClassScope → p.ClassSide → List Found
  class_side_faults classes p.no_class_side = []
  class_side_faults classes (p.class_side_with others) = side_faults classes side.Class others

  pub side_faults : List ClassScope → CodeSide → p.Side → List Found
  side_faults classes side (p.side_with members tail) = members_faults classes side members

  pub members_faults : List ClassScope → CodeSide → p.Members → List Found
  members_faults classes side p.no_members = []
  members_faults classes side (p.more_members member rest) = member_faults classes side member ++ members_faults classes side rest

  pub member_faults : List ClassScope → CodeSide → p.Member → List Found
  member_faults classes side (p.member_with categories access what) = what_faults classes side what

  pub what_faults : List ClassScope → CodeSide → p.What → List Found
  what_faults classes side (p.class_member class) = class_faults classes class
  what_faults classes side (p.method_member method) = method_faults classes side method

-- what stands in a class
abbrev pub class_inside_faults : List ClassScope → p.Class → List Found
class_inside_faults classes (p.class_with name factory clause bars body members others) =
    initialiser_faults classes factory clause bars body ++ (side_faults classes side.Instance members ++ class_side_faults classes others)

-- ---- programs

-- the names of a class and of those in it, as they stand in the text
abbrev mutual
  pub class_names : p.Class → List ℕ
  class_names (p.class_with name factory clause bars body members others) = name.at ∷ side_names members

  pub side_names : p.Side → List ℕ
  side_names (p.side_with members tail) = members_names members

  pub members_names : p.Members → List ℕ
  members_names p.no_members = []
  members_names (p.more_members (p.member_with categories access what) rest) = what_names what ++ members_names rest

  pub what_names : p.What → List ℕ
  what_names (p.class_member class) = class_names class
  what_names (p.method_member method) = []

-- TooMany(Classes): at the 4,097th class, where so many stand before these
abbrev pub classes_found : ℕ → List ℕ → List Found
classes_found before [] = []
classes_found before (at ∷ rest) = found_if (nat_eq before 4096) at (c.TooMany many.Classes) ++ classes_found (before + 1) rest

abbrev pub class_name : p.Class → Named
class_name (p.class_with name factory clause bars body members others) = name

-- the faults of a unit, behind units whose classes have the names in the table, and behind so many classes
abbrev pub unit_faults : TableOf ℕ → ℕ → p.Class → List Found
unit_faults seen before class = top_name_found seen (class_name class) ++ (classes_found before (class_names class) ++ class_faults [] class)
