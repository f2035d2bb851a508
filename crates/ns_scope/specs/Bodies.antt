-- The bodies of a program in the order of their numbers, each as what is seen from it: class by class its clause, its
-- initialiser, its methods and its class-side methods, each followed by its blocks. A class stands before those in it.
use Rattle.std.specs.Prelude.{List, [], ◌∷◌, ◌++◌, Option, Some, None, flat_map}
use Rattle.ns_tree.specs.Plain as p
use Rattle.ns_scope.specs.declared.scope.ClassScope.{ClassScope}
use Rattle.ns_scope.specs.declared.scope.Scope.{Scope}
use Rattle.ns_scope.specs.declared.scope.CodeSide.{CodeSide}
use Rattle.ns_scope.specs.declared.scope.CodeSide.TheVariants as side
use Rattle.ns_scope.specs.Scopes.{class_scope, clause_scope, initialiser_scope, method_scope, block_scope}

-- ---- the blocks of an expression, in the order of the text

abbrev mutual
  pub expr_blocks : Scope → p.Expr → List Scope
  expr_blocks scope (p.expr_with sets first more) = key_expr_blocks scope first ++ cascade_blocks scope more

  pub cascade_blocks : Scope → p.Cascade → List Scope
  cascade_blocks scope p.no_messages = []
  cascade_blocks scope (p.more_messages at message rest) = message_blocks scope message ++ cascade_blocks scope rest

  pub message_blocks : Scope → p.Message → List Scope
  message_blocks scope (p.unary name) = []
  message_blocks scope (p.binary name argument) = un_blocks scope argument
  message_blocks scope (p.keywords keys) = keys_blocks scope keys

  pub key_expr_blocks : Scope → p.KeyExpr → List Scope
  key_expr_blocks scope (p.sent receiver keys) = bin_blocks scope receiver ++ keys_blocks scope keys
  key_expr_blocks scope (p.implicit keys) = keys_blocks scope keys

  pub keys_blocks : Scope → p.Keys → List Scope
  keys_blocks scope p.no_keys = []
  keys_blocks scope (p.more_keys name argument rest) = bin_blocks scope argument ++ keys_blocks scope rest

  pub bin_blocks : Scope → p.BinExpr → List Scope
  bin_blocks scope (p.bin_with first more) = un_blocks scope first ++ opers_blocks scope more

  pub opers_blocks : Scope → p.Opers → List Scope
  opers_blocks scope p.no_opers = []
  opers_blocks scope (p.more_opers name argument rest) = un_blocks scope argument ++ opers_blocks scope rest

  pub un_blocks : Scope → p.UnExpr → List Scope
  un_blocks scope (p.un_with at primary names) = primary_blocks scope primary

  pub primary_blocks : Scope → p.Primary → List Scope
  primary_blocks scope (p.paren inner) = expr_blocks scope inner
  primary_blocks scope (p.block_literal block) = block_blocks scope block
  primary_blocks scope (p.tuple items stop) = items_blocks scope items
  primary_blocks scope (p.name text) = []
  primary_blocks scope (p.number minus size) = []
  primary_blocks scope (p.string text) = []
  primary_blocks scope (p.symbol text) = []
  primary_blocks scope p.nil_word = []
  primary_blocks scope p.true_word = []
  primary_blocks scope p.false_word = []
  primary_blocks scope p.self_word = []
  primary_blocks scope p.super_word = []
  primary_blocks scope (p.outer_name name) = []

  pub items_blocks : Scope → p.Exprs → List Scope
  items_blocks scope p.no_exprs = []
  items_blocks scope (p.more_exprs expr rest) = expr_blocks scope expr ++ items_blocks scope rest

  -- the block, and then those in it
  pub block_blocks : Scope → p.Block → List Scope
  block_blocks scope (p.block_with params bars body) =
      block_scope scope params bars
      ∷ (bars_blocks (block_scope scope params bars) bars ++ statements_blocks (block_scope scope params bars) body)

  pub bars_blocks : Scope → p.Bars → List Scope
  bars_blocks scope p.no_bars = []
  bars_blocks scope (p.bars_around slots) = slots_blocks scope slots

  pub slots_blocks : Scope → p.Slots → List Scope
  slots_blocks scope p.no_slots = []
  slots_blocks scope (p.more_slots slot rest) = slot_blocks scope slot ++ slots_blocks scope rest

  pub slot_blocks : Scope → p.Slot → List Scope
  slot_blocks scope (p.slot_with access name init) = init_blocks scope init

  pub init_blocks : Scope → p.SlotInit → List Scope
  init_blocks scope (p.bare stop) = []
  init_blocks scope (p.fixed value) = expr_blocks scope value
  init_blocks scope (p.mutable value) = expr_blocks scope value

  pub statements_blocks : Scope → p.Statements → List Scope
  statements_blocks scope (p.statements_with list stop) = list_blocks scope list

  pub list_blocks : Scope → p.StatementList → List Scope
  list_blocks scope p.no_statements = []
  list_blocks scope (p.more_statements statement rest) = statement_blocks scope statement ++ list_blocks scope rest

  pub statement_blocks : Scope → p.Statement → List Scope
  statement_blocks scope (p.statement_with caret expr) = expr_blocks scope expr

-- the blocks in the slots and statements of a body that sees this
abbrev pub routine_blocks : Scope → p.Bars → p.Statements → List Scope
routine_blocks scope bars body = bars_blocks scope bars ++ statements_blocks scope body

-- the blocks in a block that sees this
abbrev pub inside_blocks : Scope → p.Block → List Scope
inside_blocks scope (p.block_with params bars body) = routine_blocks scope bars body

-- ---- declarations

abbrev pub super_blocks : Scope → Option p.SuperClause → List Scope
super_blocks scope (Some (p.clause_with head over (Some message))) = message_blocks scope message
super_blocks scope (Some (p.clause_with head over None)) = []
super_blocks scope None = []

-- the blocks in an initialiser that sees this: in its superclass message, its slots and its expressions
abbrev pub start_blocks : Scope → Option p.SuperClause → p.Bars → p.Statements → List Scope
start_blocks scope clause bars body = super_blocks scope clause ++ routine_blocks scope bars body

-- A nested class's clause is a body.
abbrev pub clause_bodies : List ClassScope → Option p.SuperClause → List Scope
clause_bodies classes None = []
clause_bodies [] (Some clause) = []
clause_bodies (outer ∷ classes) (Some clause) = clause_scope (outer ∷ classes) ∷ []

-- An initialiser has the superclass message, the slots and the expressions.
abbrev pub initialiser_bodies : List ClassScope → p.Class → List Scope
initialiser_bodies classes (p.class_with name factory clause bars body members others) =
    initialiser_scope classes factory ∷ start_blocks (initialiser_scope classes factory) clause bars body

abbrev pub method_bodies : List ClassScope → CodeSide → p.Method → List Scope
method_bodies classes side (p.method_with (p.pattern_with parts params) bars body) =
    method_scope classes side params bars ∷ routine_blocks (method_scope classes side params bars) bars body

-- the bodies of a member, if it is a method
abbrev pub member_methods : List ClassScope → CodeSide → p.What → List Scope
member_methods classes side (p.class_member class) = []
member_methods classes side (p.method_member method) = method_bodies classes side method

-- the bodies of the methods among the members
abbrev pub methods_bodies : List ClassScope → CodeSide → p.Members → List Scope
methods_bodies classes side p.no_members = []
methods_bodies classes side (p.more_members (p.member_with categories access what) rest) = member_methods classes side what ++ methods_bodies classes side rest

abbrev pub side_bodies : List ClassScope → CodeSide → p.Side → List Scope
side_bodies classes side (p.side_with members tail) = methods_bodies classes side members

abbrev pub class_side_bodies : List ClassScope → p.ClassSide → List Scope
class_side_bodies classes p.no_class_side = []
class_side_bodies classes (p.class_side_with other) = side_bodies classes side.Class other

-- the initialiser and the methods of a class, which stand in these declarations, the innermost of which is the class
abbrev pub own_bodies : List ClassScope → p.Class → List Scope
own_bodies classes (p.class_with name factory clause bars body members others) =
    let class = p.class_with name factory clause bars body members others in
    initialiser_bodies classes class ++ (side_bodies classes side.Instance members ++ class_side_bodies classes others)

abbrev mutual
  -- the bodies of a class and of those in it
  pub class_bodies : List ClassScope → p.Class → List Scope
  class_bodies outer (p.class_with name factory clause bars body side others) =
      let class = p.class_with name factory clause bars body side others in
      clause_bodies outer clause ++ (own_bodies (class_scope class ∷ outer) class ++ nested_bodies (class_scope class ∷ outer) side)

  pub nested_bodies : List ClassScope → p.Side → List Scope
  nested_bodies classes (p.side_with members tail) = members_bodies classes members

  pub members_bodies : List ClassScope → p.Members → List Scope
  members_bodies classes p.no_members = []
  members_bodies classes (p.more_members member rest) = member_nested classes member ++ members_bodies classes rest

  pub member_nested : List ClassScope → p.Member → List Scope
  member_nested classes (p.member_with categories access what) = what_bodies classes what

  pub what_bodies : List ClassScope → p.What → List Scope
  what_bodies classes (p.class_member class) = class_bodies classes class
  what_bodies classes (p.method_member method) = []

-- the bodies that stand in a class
abbrev pub class_inside : List ClassScope → p.Class → List Scope
class_inside classes (p.class_with name factory clause bars body side others) =
    let class = p.class_with name factory clause bars body side others in
    own_bodies classes class ++ nested_bodies classes side

abbrev pub unit_bodies : p.SourceUnit → List Scope
unit_bodies (p.unit_with marker category class) = class_bodies [] class

-- the bodies of a program's units, in order
abbrev pub bodies_of : List p.SourceUnit → List Scope
bodies_of units = flat_map unit_bodies units
