-- What a node is made of, in the shape in which the rules of the grammar put it together. None says that the
-- grammar has no such node.
use Rattle.std.specs.Prelude.{ℕ, ◌⊎◌, List, [], ◌∷◌, Option, Some, None, option_map, Bool, true, false, if◌then◌else◌}
use Rattle.std.proofs.Common.{inl, inr}
use Rattle.ns_base.specs.Spelling.{starts_name}
use Rattle.ns_tree.specs.declared.tree.Named.{Named}
use Rattle.ns_tree.specs.declared.tree.Access.{Access}
use Rattle.ns_tree.specs.declared.tree.Base.{Base}
use Rattle.ns_tree.specs.declared.tree.Origin.{Origin}
use Rattle.ns_tree.specs.declared.tree.Origin.TheVariants as o
use Rattle.ns_tree.specs.Lists.{key_list, oper_list, message_list, expr_list, slot_list, statement_list, member_list}
use Rattle.ns_tree.specs.Plain as p
use Rattle.ns_tree.specs.Rule.{Listed, none, last, next}

-- once or more
abbrev pub OnceOrMore : Type 0 → Type 0
OnceOrMore A = A × List A

abbrev pub once_or_more_of : {A : Type 0} → List A → Option (OnceOrMore A)
once_or_more_of [] = None
once_or_more_of (a ∷ rest) = Some (a, rest)

-- items, and whether a separator stands behind the last, which it can't where there is none
abbrev pub listed_of : {A : Type 0} → List A → Bool → Option (Listed A)
listed_of [] false = Some none
listed_of [] true = None
listed_of (a ∷ []) false = Some (last a)
listed_of (a ∷ []) true = Some (next a none)
listed_of (a ∷ b ∷ rest) stop = option_map (next a) (listed_of (b ∷ rest) stop)

-- ---- expressions

-- one token, or a minus and a number, or `outer` and a name
abbrev pub Leaf : Type 0
Leaf = p.Primary ⊎ (ℕ ⊎ Named)

abbrev pub leaf_of : p.Primary → Option Leaf
leaf_of (p.number true size) = Some (inr (inl size))
leaf_of (p.outer_name name) = Some (inr (inr name))
leaf_of (p.paren inner) = None
leaf_of (p.block_literal block) = None
leaf_of (p.tuple items stop) = None
leaf_of primary = Some (inl primary)

-- parameters, locals and statements
abbrev pub BlockForm : Type 0
BlockForm = Option (OnceOrMore Named) × (p.Bars × p.Statements)

-- an expression in parentheses, a block or a tuple
abbrev pub Bracketed : Type 0
Bracketed = p.Expr ⊎ (p.Block ⊎ Listed p.Expr)

abbrev pub primary_form : p.Primary → Option (Leaf ⊎ Bracketed)
primary_form (p.paren inner) = Some (inr (inl inner))
primary_form (p.block_literal block) = Some (inr (inr (inl block)))
primary_form (p.tuple items stop) = option_map (λ items. inr (inr (inr items))) (listed_of (expr_list items) stop)
primary_form primary = option_map inl (leaf_of primary)

abbrev pub block_form : p.Block → Option BlockForm
block_form (p.block_with params bars body) = Some (once_or_more_of params, (bars, body))

abbrev pub un_form : p.UnExpr → Option ((ℕ × p.Primary) × List Named)
un_form (p.un_with at primary names) = Some ((at, primary), names)

abbrev pub bin_form : p.BinExpr → Option (p.UnExpr × List (Named × p.UnExpr))
bin_form (p.bin_with first more) = Some (first, oper_list more)

abbrev pub KeysForm : Type 0
KeysForm = OnceOrMore (Named × p.BinExpr)

-- with a receiver and any number of keys, or without one and with keys
abbrev pub key_expr_form : p.KeyExpr → Option ((p.BinExpr × List (Named × p.BinExpr)) ⊎ KeysForm)
key_expr_form (p.sent receiver keys) = Some (inl (receiver, key_list keys))
key_expr_form (p.implicit keys) = option_map inr (once_or_more_of (key_list keys))

abbrev pub message_form : p.Message → Option (Named ⊎ ((Named × p.UnExpr) ⊎ KeysForm))
message_form (p.unary name) = Some (inl name)
message_form (p.binary name argument) = Some (inr (inl (name, argument)))
message_form (p.keywords keys) = option_map (λ keys. inr (inr keys)) (once_or_more_of (key_list keys))

abbrev pub expr_form : p.Expr → Option (List Named × (p.KeyExpr × List (ℕ × p.Message)))
expr_form (p.expr_with sets first more) = Some (sets, (first, message_list more))

-- ---- slots and statements

-- immutable with a value, mutable with a value, or bare, perhaps with a full stop
abbrev pub init_form : p.SlotInit → Option (p.Expr ⊎ (p.Expr ⊎ Bool))
init_form (p.fixed value) = Some (inl value)
init_form (p.mutable value) = Some (inr (inl value))
init_form (p.bare stop) = Some (inr (inr stop))

abbrev pub slot_form : p.Slot → Option (Option Access × (Named × p.SlotInit))
slot_form (p.slot_with access name init) = Some (access, (name, init))

-- a local has no access word
abbrev pub local_form : p.Slot → Option (Named × p.SlotInit)
local_form (p.slot_with None name init) = Some (name, init)
local_form (p.slot_with (Some access) name init) = None

abbrev pub bars_form : p.Bars → Option (Option (List p.Slot))
bars_form p.no_bars = Some None
bars_form (p.bars_around slots) = Some (Some (slot_list slots))

abbrev pub statement_form : p.Statement → Option (Option ℕ × p.Expr)
statement_form (p.statement_with caret expr) = Some (caret, expr)

abbrev pub statements_form : p.Statements → Option (Listed p.Statement)
statements_form (p.statements_with list stop) = listed_of (statement_list list) stop

-- ---- declarations

-- keys, each with its parameter
abbrev pub ParamsForm : Type 0
ParamsForm = OnceOrMore (Named × Named)

-- as many keys as parameters, in pairs
abbrev pub paired : List Named → List Named → Option (List (Named × Named))
paired [] [] = Some []
paired [] (param ∷ params) = None
paired (part ∷ parts) [] = None
paired (part ∷ parts) (param ∷ params) = if starts_name part.text then option_map (λ pairs. (part, param) ∷ pairs) (paired parts params) else None

-- an operator with its one parameter
abbrev pub operator_form : Named → Named → List Named → List Named → Option (Named ⊎ ((Named × Named) ⊎ ParamsForm))
operator_form part param [] [] = Some (inr (inl (part, param)))
operator_form part param parts params = None

-- a name alone
abbrev pub name_form : List Named → Option (Named ⊎ ((Named × Named) ⊎ ParamsForm))
name_form (part ∷ []) = Some (inl part)
name_form parts = None

-- an operator or keys, with a parameter and more
abbrev pub params_form : List Named → Named → List Named → Option (Named ⊎ ((Named × Named) ⊎ ParamsForm))
params_form [] param params = None
params_form (part ∷ parts) param params =
    if starts_name part.text then option_map (λ pairs. inr (inr ((part, param), pairs))) (paired parts params) else operator_form part param parts params

abbrev pub pattern_form : p.Pattern → Option (Named ⊎ ((Named × Named) ⊎ ParamsForm))
pattern_form (p.pattern_with parts []) = name_form parts
pattern_form (p.pattern_with parts (param ∷ params)) = params_form parts param params

-- a factory is no operator
abbrev pub no_operator : Named ⊎ ((Named × Named) ⊎ ParamsForm) → Option (Named ⊎ ParamsForm)
no_operator (inl name) = Some (inl name)
no_operator (inr (inl binary)) = None
no_operator (inr (inr keys)) = Some (inr keys)

abbrev pub factory_by : Option (Named ⊎ ((Named × Named) ⊎ ParamsForm)) → Option (Named ⊎ ParamsForm)
factory_by None = None
factory_by (Some form) = no_operator form

abbrev pub factory_form : p.Pattern → Option (Named ⊎ ParamsForm)
factory_form pattern = factory_by (pattern_form pattern)

abbrev pub base_by : Origin → Named → Named ⊎ (Named ⊎ (Named × Named))
base_by o.Here name = inl name
base_by o.Super name = inr (inl name)
base_by (o.Outer class) name = inr (inr (class, name))

abbrev pub base_form : Base → Option (Named ⊎ (Named ⊎ (Named × Named)))
base_form base = Some (base_by base.origin base.name)

-- a message to the superclass isn't binary
abbrev pub super_message_form : p.Message → Option (Named ⊎ KeysForm)
super_message_form (p.unary name) = Some (inl name)
super_message_form (p.binary name argument) = None
super_message_form (p.keywords keys) = option_map inr (once_or_more_of (key_list keys))

abbrev pub clause_form : p.SuperClause → Option (Base × (Option Base × Option p.Message))
clause_form (p.clause_with head over message) = Some (head, (over, message))

abbrev pub method_form : p.Method → Option (p.Pattern × (p.Bars × p.Statements))
method_form (p.method_with pattern bars body) = Some (pattern, (bars, body))

abbrev pub class_member_form : p.What → Option (p.Class ⊎ p.Method)
class_member_form (p.class_member class) = Some (inl class)
class_member_form (p.method_member method) = Some (inr method)

abbrev pub method_member_form : p.What → Option p.Method
method_member_form (p.class_member class) = None
method_member_form (p.method_member method) = Some method

abbrev pub member_form : p.Member → Option (List (List ℕ) × (Option Access × p.What))
member_form (p.member_with categories access what) = Some (categories, (access, what))

abbrev pub side_form : p.Side → Option (List p.Member × List (List ℕ))
side_form (p.side_with members tail) = Some (member_list members, tail)

abbrev pub class_side_form : p.ClassSide → Option p.Side
class_side_form p.no_class_side = None
class_side_form (p.class_side_with side) = Some side

-- the parts of a class declaration, in the order in which they stand
abbrev pub ClassForm : Type 0
ClassForm = Named × (Option p.Pattern × (Option p.SuperClause × ((p.Bars × p.Statements) × (p.Side × Option p.Side))))

abbrev pub class_form : p.Class → Option ClassForm
class_form (p.class_with name factory clause bars body side class_side) = Some (name, (factory, (clause, ((bars, body), (side, class_side_form class_side)))))

abbrev pub unit_form : p.SourceUnit → Option (Bool × (Option (List ℕ) × p.Class))
unit_form (p.unit_with marker category class) = Some (marker, (category, class))
