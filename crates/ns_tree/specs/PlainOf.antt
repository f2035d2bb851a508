-- The plain form of each part of a tree. What ends in `_row` or `_held` reads the rows in which the checker keeps
-- a vector's items; nothing outside this crate needs those.
use Rattle.std.specs.Prelude.{ℕ, List, [], ◌∷◌, Option, Some, None, option_map}
use Rattle.std.specs.Global.{Vec}
use Rattle.ns_tree.specs.Plain as p
use Rattle.ns_tree.specs.declared.tree.Expr.TheBlock as b
use Rattle.ns_tree.specs.declared.tree.What.TheBlock as c
use Rattle.ns_tree.specs.declared.tree.Named.{Named}
use Rattle.ns_tree.specs.declared.tree.Expr.{Expr}
use Rattle.ns_tree.specs.declared.tree.FullExpr.{FullExpr}
use Rattle.ns_tree.specs.declared.tree.Message.{Message}
use Rattle.ns_tree.specs.declared.tree.KeyExpr.{KeyExpr}
use Rattle.ns_tree.specs.declared.tree.BinExpr.{BinExpr}
use Rattle.ns_tree.specs.declared.tree.UnExpr.{UnExpr}
use Rattle.ns_tree.specs.declared.tree.SentExpr.{SentExpr}
use Rattle.ns_tree.specs.declared.tree.Primary.{Primary}
use Rattle.ns_tree.specs.declared.tree.Block.{Block}
use Rattle.ns_tree.specs.declared.tree.Slot.{Slot}
use Rattle.ns_tree.specs.declared.tree.SlotInit.{SlotInit}
use Rattle.ns_tree.specs.declared.tree.Statements.{Statements}
use Rattle.ns_tree.specs.declared.tree.Statement.{Statement}
use Rattle.ns_tree.specs.declared.tree.Pattern.{Pattern}
use Rattle.ns_tree.specs.declared.tree.SuperClause.{SuperClause}
use Rattle.ns_tree.specs.declared.tree.Method.{Method}
use Rattle.ns_tree.specs.declared.tree.Class.{Class}
use Rattle.ns_tree.specs.declared.tree.Side.{Side}
use Rattle.ns_tree.specs.declared.tree.Member.{Member}
use Rattle.ns_tree.specs.declared.tree.What.{What}
use Rattle.ns_tree.specs.declared.tree.Unit as u

-- ---- expressions

abbrev mutual
  pub expr_of : Expr → p.Expr
  expr_of (b.Operand un) = p.expr_with [] (p.sent (p.bin_with (un_of un) p.no_opers) p.no_keys) p.no_messages
  expr_of (b.Operation' _ first _ more) = p.expr_with [] (p.sent (p.bin_with (un_of first) (opers_row more)) p.no_keys) p.no_messages
  expr_of (b.Implicit' _ keys) = p.expr_with [] (p.implicit (keys_row keys)) p.no_messages
  expr_of (b.Full' _ full) = full_expr_of full

  pub full_expr_of : FullExpr → p.Expr
  full_expr_of (b.struct-FullExpr sets first _ more) = p.expr_with sets.items (key_expr_of first) (cascade_row more)

  pub cascade_row : {n : _} → b.Row_of-FullExpr-more-2 n → p.Cascade
  cascade_row b.end_of-FullExpr-more-2 = p.no_messages
  cascade_row (b.more_of-FullExpr-more-2 at message rest) = p.more_messages at (message_of message) (cascade_row rest)

  pub message_of : Message → p.Message
  message_of (b.Unary name) = p.unary name
  message_of (b.Binary' _ name argument) = p.binary name (un_of argument)
  message_of (b.Keys' _ keys) = p.keywords (keys_row keys)

  pub keys_row : {n : _} → b.Row_of-Expr-Implicit-0-2 n → p.Keys
  keys_row b.end_of-Expr-Implicit-0-2 = p.no_keys
  keys_row (b.more_of-Expr-Implicit-0-2 name first _ more rest) = p.more_keys name (p.bin_with (un_of first) (opers_row more)) (keys_row rest)

  pub key_expr_of : KeyExpr → p.KeyExpr
  key_expr_of (b.struct-KeyExpr receiver _ keys) = receiver_held receiver (keys_row keys)

  pub receiver_held : b.Held-KeyExpr-receiver → p.Keys → p.KeyExpr
  receiver_held b.KeyExpr-receiver-None' keys = p.implicit keys
  receiver_held (b.KeyExpr-receiver-Some' first _ more) keys = p.sent (p.bin_with (un_of first) (opers_row more)) keys

  pub opers_row : {n : _} → b.Row_of-BinExpr-more-2 n → p.Opers
  opers_row b.end_of-BinExpr-more-2 = p.no_opers
  opers_row (b.more_of-BinExpr-more-2 name argument rest) = p.more_opers name (un_of argument) (opers_row rest)

  pub un_of : UnExpr → p.UnExpr
  un_of (b.Alone at primary) = p.un_with at (primary_of primary) []
  un_of (b.Sent' _ at primary names) = p.un_with at (primary_of primary) names.items

  pub primary_of : Primary → p.Primary
  primary_of (b.Name text) = p.name text
  primary_of (b.Number minus size) = p.number minus size
  primary_of (b.Str text) = p.string text
  primary_of (b.Symbol text) = p.symbol text
  primary_of b.Nil = p.nil_word
  primary_of b.True = p.true_word
  primary_of b.False = p.false_word
  primary_of b.SelfWord = p.self_word
  primary_of b.Super = p.super_word
  primary_of (b.Outer name) = p.outer_name name.value
  primary_of (b.Paren' _ inner) = p.paren (expr_of inner)
  primary_of (b.Block' _ block) = p.block_literal (block_of block)
  primary_of (b.BareBlock' _ body) = p.block_literal (p.block_with [] p.no_bars (statements_of body))
  primary_of (b.Tuple' stop _ items) = p.tuple (exprs_row items) stop

  pub exprs_row : {n : _} → b.Row_of-Expr n → p.Exprs
  exprs_row b.end_of-Expr = p.no_exprs
  exprs_row (b.more_of-Expr expr rest) = p.more_exprs (expr_of expr) (exprs_row rest)

  pub block_of : Block → p.Block
  block_of (b.struct-Block params slots body) = p.block_with params.items (bars_held slots) (statements_of body)

  pub bars_held : b.Held-Block-slots → p.Bars
  bars_held b.Block-slots-None' = p.no_bars
  bars_held (b.Block-slots-Some' _ slots) = p.bars_around (slots_row slots)

  pub slots_row : {n : _} → b.Row_of-Slot n → p.Slots
  slots_row b.end_of-Slot = p.no_slots
  slots_row (b.more_of-Slot access name init rest) = p.more_slots (p.slot_with access name (init_of init)) (slots_row rest)

  pub init_of : SlotInit → p.SlotInit
  init_of (b.Bare stop) = p.bare stop
  init_of (b.Fixed' _ expr) = p.fixed (expr_of expr)
  init_of (b.Mutable' _ expr) = p.mutable (expr_of expr)

  pub statements_of : Statements → p.Statements
  statements_of (b.struct-Statements _ list stop) = p.statements_with (statements_row list) stop

  pub statements_row : {n : _} → b.Row_of-Statement n → p.StatementList
  statements_row b.end_of-Statement = p.no_statements
  statements_row (b.more_of-Statement caret expr rest) = p.more_statements (p.statement_with caret (expr_of expr)) (statements_row rest)

abbrev pub sent_of : SentExpr → p.UnExpr
sent_of sent = p.un_with sent.at (primary_of sent.primary) sent.names.items

abbrev pub statement_of : Statement → p.Statement
statement_of statement = p.statement_with statement.caret (expr_of statement.expr)

abbrev pub slot_of : Slot → p.Slot
slot_of slot = p.slot_with slot.access slot.name (init_of slot.init)

-- ---- the lists of expressions, as a vector's items

abbrev pub opers_of : List (Named × UnExpr) → p.Opers
opers_of [] = p.no_opers
opers_of (x ∷ xs) = p.more_opers x.0 (un_of x.1) (opers_of xs)

abbrev pub bin_of : BinExpr → p.BinExpr
bin_of bin = p.bin_with (un_of bin.first) (opers_of bin.more.items)

abbrev pub keys_of : List (Named × BinExpr) → p.Keys
keys_of [] = p.no_keys
keys_of (x ∷ xs) = p.more_keys x.0 (bin_of x.1) (keys_of xs)

abbrev pub cascade_of : List (ℕ × Message) → p.Cascade
cascade_of [] = p.no_messages
cascade_of (x ∷ xs) = p.more_messages x.0 (message_of x.1) (cascade_of xs)

abbrev pub exprs_of : List Expr → p.Exprs
exprs_of [] = p.no_exprs
exprs_of (x ∷ xs) = p.more_exprs (expr_of x) (exprs_of xs)

abbrev pub slots_of : List Slot → p.Slots
slots_of [] = p.no_slots
slots_of (x ∷ xs) = p.more_slots (slot_of x) (slots_of xs)

abbrev pub statement_list_of : List Statement → p.StatementList
statement_list_of [] = p.no_statements
statement_list_of (x ∷ xs) = p.more_statements (statement_of x) (statement_list_of xs)

-- the slots between bars, or no bars
abbrev pub bars_of : Option (Vec Slot) → p.Bars
bars_of None = p.no_bars
bars_of (Some slots) = p.bars_around (slots_of slots.items)

-- a receiver, if there is one, and keys
abbrev pub received : Option BinExpr → p.Keys → p.KeyExpr
received None keys = p.implicit keys
received (Some receiver) keys = p.sent (bin_of receiver) keys

-- ---- declarations

abbrev pub pattern_of : Pattern → p.Pattern
pattern_of pattern = p.pattern_with pattern.parts.items pattern.params.items

abbrev pub clause_of : SuperClause → p.SuperClause
clause_of clause = p.clause_with clause.head clause.over (option_map message_of clause.message)

abbrev pub method_of : Method → p.Method
method_of method = p.method_with (pattern_of method.pattern) (bars_of method.slots) (statements_of method.body)

abbrev mutual
  pub class_of : Class → p.Class
  class_of (c.struct-Class name factory clause slots body side class_side) =
      p.class_with name (option_map pattern_of factory) (option_map clause_of clause) (bars_of slots)
      (statements_of body) (side_of side) (class_side_held class_side)

  pub class_side_held : c.Held-Class-class_side → p.ClassSide
  class_side_held c.None' = p.no_class_side
  class_side_held (c.Some' side) = p.class_side_with (side_of side)

  pub side_of : Side → p.Side
  side_of (c.struct-Side _ members tail) = p.side_with (members_row members) tail.items

  pub members_row : {n : _} → c.Row_of-Member n → p.Members
  members_row c.end_of-Member = p.no_members
  members_row (c.more_of-Member categories access what rest) = p.more_members (p.member_with categories.items access (what_of what)) (members_row rest)

  pub what_of : What → p.What
  what_of (c.Class' _ class) = p.class_member (class_of class)
  what_of (c.Method method) = p.method_member (method_of method)

abbrev pub member_of : Member → p.Member
member_of member = p.member_with member.categories.items member.access (what_of member.what)

abbrev pub members_of : List Member → p.Members
members_of [] = p.no_members
members_of (x ∷ xs) = p.more_members (member_of x) (members_of xs)

abbrev pub class_side_of : Option Side → p.ClassSide
class_side_of None = p.no_class_side
class_side_of (Some side) = p.class_side_with (side_of side)

abbrev pub unit_of : u.Unit → p.SourceUnit
unit_of unit = p.unit_with unit.marker unit.category (class_of unit.class)
