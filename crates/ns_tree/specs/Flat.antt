-- The token kinds of a tree, in the order in which they stand in its source.
use Rattle.std.specs.Prelude.{ℕ, Bool, if◌then◌else◌, List, [], ◌∷◌, ◌++◌, map, flat_map, zip, Option, Some, None, codes}
use Rattle.ns_base.specs.Spelling.{starts_name}
use Rattle.ns_tree.specs.declared.token.Kind.{Kind}
use Rattle.ns_tree.specs.declared.token.Kind.TheVariants as k
use Rattle.ns_tree.specs.declared.token.Reserved.TheVariants as r
use Rattle.ns_tree.specs.declared.tree.Named.{Named}
use Rattle.ns_tree.specs.declared.tree.Access.{Access}
use Rattle.ns_tree.specs.declared.tree.Access.TheVariants as a
use Rattle.ns_tree.specs.declared.tree.Base.{Base}
use Rattle.ns_tree.specs.declared.tree.Origin.{Origin}
use Rattle.ns_tree.specs.declared.tree.Origin.TheVariants as o
use Rattle.ns_tree.specs.Plain as p

-- ---- tokens

abbrev pub bar : Kind
bar = k.Oper (codes "|")

abbrev pub equals : Kind
equals = k.Oper (codes "=")

-- the operator between a mixin and a superclass
abbrev pub over_sign : Kind
over_sign = k.Oper (codes "<:")

abbrev pub ident : Named → Kind
ident n = k.Ident n.text

abbrev pub set_key : Named → Kind
set_key n = k.SetKey n.text

-- a full stop, where there is one
abbrev pub stop_if : Bool → List Kind
stop_if stop = if stop then k.Stop ∷ [] else []

-- a block's parameters, and a bar behind them where there is one
abbrev pub flat_params : List Named → List Kind
flat_params [] = []
flat_params (n ∷ ns) = flat_map (λ n. k.Colon ∷ ident n ∷ []) (n ∷ ns) ++ bar ∷ []

abbrev pub access_word : Access → Kind
access_word a.Public = k.Word r.Public
access_word a.Protected = k.Word r.Protected
access_word a.Private = k.Word r.Private

abbrev pub flat_access : Option Access → List Kind
flat_access None = []
flat_access (Some access) = access_word access ∷ []

-- the `^` before a returned expression
abbrev pub flat_caret : Option ℕ → List Kind
flat_caret None = []
flat_caret (Some at) = k.Caret ∷ []

-- ---- expressions

abbrev mutual
  pub flat_expr : p.Expr → List Kind
  flat_expr (p.expr_with sets first more) = map set_key sets ++ (flat_key_expr first ++ flat_cascade more)

  pub flat_cascade : p.Cascade → List Kind
  flat_cascade p.no_messages = []
  flat_cascade (p.more_messages at message rest) = k.Semi ∷ (flat_message message ++ flat_cascade rest)

  pub flat_message : p.Message → List Kind
  flat_message (p.unary name) = ident name ∷ []
  flat_message (p.binary name argument) = k.Oper name.text ∷ flat_un argument
  flat_message (p.keywords keys) = flat_keys keys

  pub flat_key_expr : p.KeyExpr → List Kind
  flat_key_expr (p.sent receiver keys) = flat_bin receiver ++ flat_keys keys
  flat_key_expr (p.implicit keys) = flat_keys keys

  pub flat_keys : p.Keys → List Kind
  flat_keys p.no_keys = []
  flat_keys (p.more_keys name argument rest) = k.Key name.text ∷ (flat_bin argument ++ flat_keys rest)

  pub flat_bin : p.BinExpr → List Kind
  flat_bin (p.bin_with first more) = flat_un first ++ flat_opers more

  pub flat_opers : p.Opers → List Kind
  flat_opers p.no_opers = []
  flat_opers (p.more_opers name argument rest) = k.Oper name.text ∷ (flat_un argument ++ flat_opers rest)

  pub flat_un : p.UnExpr → List Kind
  flat_un (p.un_with at primary names) = flat_primary primary ++ map ident names

  pub flat_primary : p.Primary → List Kind
  flat_primary (p.name text) = k.Ident text ∷ []
  flat_primary (p.number minus size) = (if minus then k.Oper (codes "-") ∷ [] else []) ++ k.Number size ∷ []
  flat_primary (p.string text) = k.Str text ∷ []
  flat_primary (p.symbol text) = k.Symbol text ∷ []
  flat_primary p.nil_word = k.Word r.Nil ∷ []
  flat_primary p.true_word = k.Word r.True ∷ []
  flat_primary p.false_word = k.Word r.False ∷ []
  flat_primary p.self_word = k.Word r.SelfWord ∷ []
  flat_primary p.super_word = k.Word r.Super ∷ []
  flat_primary (p.outer_name name) = k.Word r.Outer ∷ ident name ∷ []
  flat_primary (p.paren inner) = k.Open ∷ (flat_expr inner ++ k.Close ∷ [])
  flat_primary (p.block_literal block) = flat_block block
  flat_primary (p.tuple items stop) = k.OpenTuple ∷ (flat_items items ++ (stop_if stop ++ k.CloseTuple ∷ []))

  -- expressions with a full stop between two
  pub flat_items : p.Exprs → List Kind
  flat_items p.no_exprs = []
  flat_items (p.more_exprs expr rest) = flat_expr expr ++ flat_more_items rest

  -- expressions behind another, each behind a full stop
  pub flat_more_items : p.Exprs → List Kind
  flat_more_items p.no_exprs = []
  flat_more_items (p.more_exprs expr rest) = k.Stop ∷ (flat_expr expr ++ flat_more_items rest)

  pub flat_block : p.Block → List Kind
  flat_block (p.block_with params bars body) = k.OpenBlock ∷ (flat_params params ++ (flat_bars bars ++ (flat_statements body ++ k.CloseBlock ∷ [])))

  pub flat_bars : p.Bars → List Kind
  flat_bars p.no_bars = []
  flat_bars (p.bars_around slots) = bar ∷ (flat_slots slots ++ bar ∷ [])

  pub flat_slots : p.Slots → List Kind
  flat_slots p.no_slots = []
  flat_slots (p.more_slots slot rest) = flat_slot slot ++ flat_slots rest

  pub flat_slot : p.Slot → List Kind
  flat_slot (p.slot_with access name init) = flat_access access ++ ident name ∷ flat_init init

  pub flat_init : p.SlotInit → List Kind
  flat_init (p.bare stop) = stop_if stop
  flat_init (p.fixed value) = equals ∷ (flat_expr value ++ k.Stop ∷ [])
  flat_init (p.mutable value) = k.SlotSet ∷ (flat_expr value ++ k.Stop ∷ [])

  pub flat_statements : p.Statements → List Kind
  flat_statements (p.statements_with list stop) = flat_list list ++ stop_if stop

  -- statements with a full stop between two
  pub flat_list : p.StatementList → List Kind
  flat_list p.no_statements = []
  flat_list (p.more_statements statement rest) = flat_statement statement ++ flat_more_list rest

  -- statements behind another, each behind a full stop
  pub flat_more_list : p.StatementList → List Kind
  flat_more_list p.no_statements = []
  flat_more_list (p.more_statements statement rest) = k.Stop ∷ (flat_statement statement ++ flat_more_list rest)

  pub flat_statement : p.Statement → List Kind
  flat_statement (p.statement_with caret expr) = flat_caret caret ++ flat_expr expr

-- ---- declarations

-- the part of a pattern that stands before a parameter: a key, or an operator
abbrev pub part_before : List ℕ → Kind
part_before text = if starts_name text then k.Key text else k.Oper text

-- a name alone, or parts and parameters in turn
abbrev pub flat_pattern : p.Pattern → List Kind
flat_pattern (p.pattern_with parts []) = map ident parts
flat_pattern (p.pattern_with parts (n ∷ ns)) = flat_map (λ x. part_before x.0.text ∷ ident x.1 ∷ []) (zip parts (n ∷ ns))

abbrev pub flat_origin : Origin → List Kind
flat_origin o.Here = []
flat_origin o.Super = k.Word r.Super ∷ []
flat_origin (o.Outer name) = k.Word r.Outer ∷ ident name ∷ []

abbrev pub flat_base : Base → List Kind
flat_base base = flat_origin base.origin ++ ident base.name ∷ []

abbrev pub flat_over : Option Base → List Kind
flat_over None = []
flat_over (Some base) = over_sign ∷ flat_base base

abbrev pub flat_super_message : Option p.Message → List Kind
flat_super_message None = []
flat_super_message (Some message) = flat_message message

abbrev pub flat_clause : p.SuperClause → List Kind
flat_clause (p.clause_with head over message) = flat_base head ++ (flat_over over ++ flat_super_message message)

abbrev pub flat_method : p.Method → List Kind
flat_method (p.method_with pattern bars body) = flat_pattern pattern ++ equals ∷ k.Open ∷ (flat_bars bars ++ (flat_statements body ++ k.Close ∷ []))

abbrev pub flat_factory : Option p.Pattern → List Kind
flat_factory None = []
flat_factory (Some pattern) = flat_pattern pattern

abbrev pub flat_super : Option p.SuperClause → List Kind
flat_super None = []
flat_super (Some clause) = flat_clause clause

-- what stands before a class's side
abbrev pub head : p.Class → List Kind
head (p.class_with name factory clause bars body side other) =
    k.Word r.Class ∷ ident name ∷ (flat_factory factory ++ equals ∷ (flat_super clause ++ k.Open ∷ (flat_bars bars ++ (flat_statements body ++ k.Close ∷ []))))

abbrev mutual
  pub flat_class : p.Class → List Kind
  flat_class (p.class_with name factory clause bars body side class_side) =
      head (p.class_with name factory clause bars body side class_side) ++ (flat_side side ++ flat_class_side class_side)

  pub flat_class_side : p.ClassSide → List Kind
  flat_class_side p.no_class_side = []
  flat_class_side (p.class_side_with side) = k.Colon ∷ flat_side side

  pub flat_side : p.Side → List Kind
  flat_side (p.side_with members tail) = k.Open ∷ (flat_members members ++ (map k.Str tail ++ k.Close ∷ []))

  pub flat_members : p.Members → List Kind
  flat_members p.no_members = []
  flat_members (p.more_members member rest) = flat_member member ++ flat_members rest

  pub flat_member : p.Member → List Kind
  flat_member (p.member_with categories access what) = map k.Str categories ++ (flat_access access ++ flat_what what)

  pub flat_what : p.What → List Kind
  flat_what (p.class_member class) = flat_class class
  flat_what (p.method_member method) = flat_method method

abbrev pub flat_marker : Bool → List Kind
flat_marker marker = if marker then k.Ident (codes "Newspeak3") ∷ [] else []

abbrev pub flat_category : Option (List ℕ) → List Kind
flat_category None = []
flat_category (Some text) = k.Str text ∷ []

-- the token kinds of a file
abbrev pub flat : p.SourceUnit → List Kind
flat (p.unit_with marker category class) = flat_marker marker ++ (flat_category category ++ flat_class class)
