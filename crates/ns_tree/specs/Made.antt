-- The node that is made of such parts: the other way round than the forms.
use Rattle.std.specs.Prelude.{ℕ, ◌⊎◌, List, [], ◌∷◌, Option, Some, None, Bool, true, false, map}
use Rattle.std.proofs.Common.{inl, inr}
use Rattle.ns_tree.specs.declared.tree.Named.{Named}
use Rattle.ns_tree.specs.declared.tree.Access.{Access}
use Rattle.ns_tree.specs.declared.tree.Base.{Base}
use Rattle.ns_tree.specs.declared.tree.Origin.TheVariants as o
use Rattle.ns_tree.specs.Forms.{OnceOrMore, Leaf, Bracketed, BlockForm, KeysForm, ParamsForm, ClassForm}
use Rattle.ns_tree.specs.Lists.{list_keys, list_opers, list_messages, list_exprs, list_slots, list_statements, list_members}
use Rattle.ns_tree.specs.Plain as p
use Rattle.ns_tree.specs.Rule.{Listed, none, last, next}

abbrev pub listed_items : {A : Type 0} → Listed A → List A
listed_items none = []
listed_items (last a) = a ∷ []
listed_items (next a rest) = a ∷ listed_items rest

-- whether a separator stands behind the last item
abbrev pub listed_stop : {A : Type 0} → Listed A → Bool
listed_stop none = false
listed_stop (last a) = false
listed_stop (next a none) = true
listed_stop (next a (last b)) = listed_stop (last b)
listed_stop (next a (next b rest)) = listed_stop (next b rest)

abbrev pub maybe_list : {A : Type 0} → Option (OnceOrMore A) → List A
maybe_list None = []
maybe_list (Some x) = x.0 ∷ x.1

-- ---- expressions

abbrev pub made_leaf : Leaf → p.Primary
made_leaf (inl primary) = primary
made_leaf (inr (inl size)) = p.number true size
made_leaf (inr (inr name)) = p.outer_name name

abbrev pub made_primary : Leaf ⊎ Bracketed → p.Primary
made_primary (inl leaf) = made_leaf leaf
made_primary (inr (inl inner)) = p.paren inner
made_primary (inr (inr (inl block))) = p.block_literal block
made_primary (inr (inr (inr items))) = p.tuple (list_exprs (listed_items items)) (listed_stop items)

abbrev pub made_block : BlockForm → p.Block
made_block x = p.block_with (maybe_list x.0) x.1.0 x.1.1

abbrev pub made_un : (ℕ × p.Primary) × List Named → p.UnExpr
made_un x = p.un_with x.0.0 x.0.1 x.1

abbrev pub made_bin : p.UnExpr × List (Named × p.UnExpr) → p.BinExpr
made_bin x = p.bin_with x.0 (list_opers x.1)

abbrev pub made_keys : KeysForm → p.Keys
made_keys x = list_keys (x.0 ∷ x.1)

abbrev pub made_key_expr : (p.BinExpr × List (Named × p.BinExpr)) ⊎ KeysForm → p.KeyExpr
made_key_expr (inl x) = p.sent x.0 (list_keys x.1)
made_key_expr (inr x) = p.implicit (made_keys x)

abbrev pub made_message : Named ⊎ ((Named × p.UnExpr) ⊎ KeysForm) → p.Message
made_message (inl name) = p.unary name
made_message (inr (inl x)) = p.binary x.0 x.1
made_message (inr (inr x)) = p.keywords (made_keys x)

abbrev pub made_expr : List Named × (p.KeyExpr × List (ℕ × p.Message)) → p.Expr
made_expr x = p.expr_with x.0 x.1.0 (list_messages x.1.1)

-- ---- slots and statements

abbrev pub made_init : p.Expr ⊎ (p.Expr ⊎ Bool) → p.SlotInit
made_init (inl value) = p.fixed value
made_init (inr (inl value)) = p.mutable value
made_init (inr (inr stop)) = p.bare stop

abbrev pub made_slot : Option Access × (Named × p.SlotInit) → p.Slot
made_slot x = p.slot_with x.0 x.1.0 x.1.1

abbrev pub made_local : Named × p.SlotInit → p.Slot
made_local x = p.slot_with None x.0 x.1

abbrev pub made_bars : Option (List p.Slot) → p.Bars
made_bars None = p.no_bars
made_bars (Some slots) = p.bars_around (list_slots slots)

abbrev pub made_statement : Option ℕ × p.Expr → p.Statement
made_statement x = p.statement_with x.0 x.1

abbrev pub made_statements : Listed p.Statement → p.Statements
made_statements x = p.statements_with (list_statements (listed_items x)) (listed_stop x)

-- ---- declarations

abbrev pub firsts : List (Named × Named) → List Named
firsts = map (λ x. x.0)

abbrev pub seconds : List (Named × Named) → List Named
seconds = map (λ x. x.1)

abbrev pub made_pattern : Named ⊎ ((Named × Named) ⊎ ParamsForm) → p.Pattern
made_pattern (inl name) = p.pattern_with (name ∷ []) []
made_pattern (inr (inl x)) = p.pattern_with (x.0 ∷ []) (x.1 ∷ [])
made_pattern (inr (inr x)) = p.pattern_with (x.0.0 ∷ firsts x.1) (x.0.1 ∷ seconds x.1)

abbrev pub made_factory : Named ⊎ ParamsForm → p.Pattern
made_factory (inl name) = p.pattern_with (name ∷ []) []
made_factory (inr x) = p.pattern_with (x.0.0 ∷ firsts x.1) (x.0.1 ∷ seconds x.1)

abbrev pub made_base : Named ⊎ (Named ⊎ (Named × Named)) → Base
made_base (inl name) = record { origin = o.Here; name = name }
made_base (inr (inl name)) = record { origin = o.Super; name = name }
made_base (inr (inr x)) = record { origin = o.Outer x.0; name = x.1 }

abbrev pub made_super_message : Named ⊎ KeysForm → p.Message
made_super_message (inl name) = p.unary name
made_super_message (inr x) = p.keywords (made_keys x)

abbrev pub made_clause : Base × (Option Base × Option p.Message) → p.SuperClause
made_clause x = p.clause_with x.0 x.1.0 x.1.1

abbrev pub made_method : p.Pattern × (p.Bars × p.Statements) → p.Method
made_method x = p.method_with x.0 x.1.0 x.1.1

abbrev pub made_what : p.Class ⊎ p.Method → p.What
made_what (inl class) = p.class_member class
made_what (inr method) = p.method_member method

abbrev pub made_member : List (List ℕ) × (Option Access × p.What) → p.Member
made_member x = p.member_with x.0 x.1.0 x.1.1

abbrev pub made_side : List p.Member × List (List ℕ) → p.Side
made_side x = p.side_with (list_members x.0) x.1

abbrev pub made_class_side : Option p.Side → p.ClassSide
made_class_side None = p.no_class_side
made_class_side (Some side) = p.class_side_with side

abbrev pub made_class : ClassForm → p.Class
made_class x = p.class_with x.0 x.1.0 x.1.1.0 x.1.1.1.0.0 x.1.1.1.0.1 x.1.1.1.1.0 (made_class_side x.1.1.1.1.1)

abbrev pub made_unit : Bool × (Option (List ℕ) × p.Class) → p.SourceUnit
made_unit x = p.unit_with x.0 x.1.0 x.1.1
