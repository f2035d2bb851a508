-- The plain forms of trees: a Vec is a list, a Text the list of its bytes, a Box its value. Each type has the
-- name of the tree's type, each constructor that of the variant, or `.._with` where a type has one form alone.
-- A list of things that hold expressions is a type of its own, `no_..` or `more_..`. What holds no Vec, Box or
-- Option of an expression (a name, a base, an access word) is plain already.
use Rattle.std.specs.Prelude.{ℕ, List, Bool, Option}
use Rattle.ns_tree.specs.declared.tree.Named.{Named}
use Rattle.ns_tree.specs.declared.tree.Access.{Access}
use Rattle.ns_tree.specs.declared.tree.Base.{Base}

mutual
  -- the names that are set, an expression, and the messages of its cascade
  pub data Expr : Type 0 where
    expr_with : List Named → KeyExpr → Cascade → Expr

  -- the messages behind `;`, each with the number of its `;`
  pub data Cascade : Type 0 where
    no_messages : Cascade
    more_messages : ℕ → Message → Cascade → Cascade

  pub data Message : Type 0 where
    unary : Named → Message
    binary : Named → UnExpr → Message
    keywords : Keys → Message

  -- a receiver and the keys of the message to it, if there are any; or the keys of an implicit send
  pub data KeyExpr : Type 0 where
    sent : BinExpr → Keys → KeyExpr
    implicit : Keys → KeyExpr

  -- keys, each with its argument
  pub data Keys : Type 0 where
    no_keys : Keys
    more_keys : Named → BinExpr → Keys → Keys

  -- a receiver and the binary messages to it
  pub data BinExpr : Type 0 where
    bin_with : UnExpr → Opers → BinExpr

  -- operators, each with its argument
  pub data Opers : Type 0 where
    no_opers : Opers
    more_opers : Named → UnExpr → Opers → Opers

  -- the number of its first token, a primary, and the unary messages to it
  pub data UnExpr : Type 0 where
    un_with : ℕ → Primary → List Named → UnExpr

  pub data Primary : Type 0 where
    name : List ℕ → Primary
    number : Bool → ℕ → Primary
    string : List ℕ → Primary
    symbol : List ℕ → Primary
    nil_word : Primary
    true_word : Primary
    false_word : Primary
    self_word : Primary
    super_word : Primary
    outer_name : Named → Primary
    paren : Expr → Primary
    block_literal : Block → Primary
    tuple : Exprs → Bool → Primary

  pub data Exprs : Type 0 where
    no_exprs : Exprs
    more_exprs : Expr → Exprs → Exprs

  -- parameters, locals and statements
  pub data Block : Type 0 where
    block_with : List Named → Bars → Statements → Block

  -- the slots between two bars, or no bars
  pub data Bars : Type 0 where
    no_bars : Bars
    bars_around : Slots → Bars

  pub data Slots : Type 0 where
    no_slots : Slots
    more_slots : Slot → Slots → Slots

  pub data Slot : Type 0 where
    slot_with : Option Access → Named → SlotInit → Slot

  pub data SlotInit : Type 0 where
    bare : Bool → SlotInit
    fixed : Expr → SlotInit
    mutable : Expr → SlotInit

  -- statements, and whether a full stop stands behind the last
  pub data Statements : Type 0 where
    statements_with : StatementList → Bool → Statements

  pub data StatementList : Type 0 where
    no_statements : StatementList
    more_statements : Statement → StatementList → StatementList

  -- an expression, with the number of the `^` before it, if there is one
  pub data Statement : Type 0 where
    statement_with : Option ℕ → Expr → Statement

-- the name's parts and the parameters
pub data Pattern : Type 0 where
  pattern_with : List Named → List Named → Pattern

-- the head, the superclass behind `<:`, and the message to the superclass
pub data SuperClause : Type 0 where
  clause_with : Base → Option Base → Option Message → SuperClause

pub data Method : Type 0 where
  method_with : Pattern → Bars → Statements → Method

mutual
  -- name, factory, superclass clause, slots and statements of the initialiser, instance side, class side
  pub data Class : Type 0 where
    class_with : Named → Option Pattern → Option SuperClause → Bars → Statements → Side → ClassSide → Class

  pub data ClassSide : Type 0 where
    no_class_side : ClassSide
    class_side_with : Side → ClassSide

  -- members, and the categories behind them
  pub data Side : Type 0 where
    side_with : Members → List (List ℕ) → Side

  pub data Members : Type 0 where
    no_members : Members
    more_members : Member → Members → Members

  -- categories, access word, and the class or method
  pub data Member : Type 0 where
    member_with : List (List ℕ) → Option Access → What → Member

  pub data What : Type 0 where
    class_member : Class → What
    method_member : Method → What

-- whether the file begins with `Newspeak3`, its category, and its class
pub data SourceUnit : Type 0 where
  unit_with : Bool → Option (List ℕ) → Class → SourceUnit
