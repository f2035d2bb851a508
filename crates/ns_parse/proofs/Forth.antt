-- A node is what is made of the parts of its form.
use Rattle.std.proofs.Common.{◌≡◌, refl, sym, ap, ◌∙◌, ℕ, ◌⊎◌, inl, inr, Bool, true, false, List, [], ◌∷◌, Option, Some, None, option_map, if◌then◌else◌}
use Rattle.ns_base.specs.Spelling.{starts_name}
use Rattle.ns_tree.specs.declared.tree.Named.{Named}
use Rattle.ns_tree.specs.declared.tree.Access.{Access}
use Rattle.ns_tree.specs.declared.tree.Base.{Base}
use Rattle.ns_tree.specs.declared.tree.Origin.{Origin}
use Rattle.ns_tree.specs.declared.tree.Origin.TheVariants as from
use Rattle.ns_tree.specs.Forms as f
use Rattle.ns_tree.specs.Lists.{key_list, oper_list, message_list, expr_list, slot_list, statement_list, member_list}
use Rattle.ns_tree.specs.Lists.{list_keys, list_opers, list_messages, list_exprs, list_slots, list_statements, list_members}
use Rattle.ns_tree.specs.Made
use Rattle.ns_tree.specs.Plain as p
use Rattle.ns_tree.specs.Rule.{Listed, none, last, next}

-- ---- lists

pub keys_forth : (xs : p.Keys) → list_keys (key_list xs) ≡ xs
keys_forth p.no_keys = refl
keys_forth (p.more_keys name argument rest) = ap (p.more_keys name argument) (keys_forth rest)

pub opers_forth : (xs : p.Opers) → list_opers (oper_list xs) ≡ xs
opers_forth p.no_opers = refl
opers_forth (p.more_opers name argument rest) = ap (p.more_opers name argument) (opers_forth rest)

pub messages_forth : (xs : p.Cascade) → list_messages (message_list xs) ≡ xs
messages_forth p.no_messages = refl
messages_forth (p.more_messages at message rest) = ap (p.more_messages at message) (messages_forth rest)

pub exprs_forth : (xs : p.Exprs) → list_exprs (expr_list xs) ≡ xs
exprs_forth p.no_exprs = refl
exprs_forth (p.more_exprs expr rest) = ap (p.more_exprs expr) (exprs_forth rest)

pub slots_forth : (xs : p.Slots) → list_slots (slot_list xs) ≡ xs
slots_forth p.no_slots = refl
slots_forth (p.more_slots slot rest) = ap (p.more_slots slot) (slots_forth rest)

pub statements_forth : (xs : p.StatementList) → list_statements (statement_list xs) ≡ xs
statements_forth p.no_statements = refl
statements_forth (p.more_statements statement rest) = ap (p.more_statements statement) (statements_forth rest)

pub members_forth : (xs : p.Members) → list_members (member_list xs) ≡ xs
members_forth p.no_members = refl
members_forth (p.more_members member rest) = ap (p.more_members member) (members_forth rest)

pub maybe_forth : {A : Type 0} → (xs : List A) → Made.maybe_list (f.once_or_more_of xs) ≡ xs
maybe_forth [] = refl
maybe_forth (x ∷ xs) = refl

-- one or more
pub once_forth : {A : Type 0} → (xs : List A) (a : f.OnceOrMore A) → f.once_or_more_of xs ≡ Some a → a.0 ∷ a.1 ≡ xs
once_forth [] a e = absurd cc
once_forth (x ∷ xs) a e = ap (λ o. once_list o) (sym e)
  where
    once_list : {A : Type 0} → Option (f.OnceOrMore A) → List A
    once_list None = []
    once_list (Some y) = y.0 ∷ y.1

-- what an optional value comes from
pub mapped_from : {A B : Type 0} (to : A → B) (o : Option A) (b : B) → option_map to o ≡ Some b → (a : A) × (o ≡ Some a) × (to a ≡ b)
mapped_from to (Some a) b e = (a, refl, cc)
mapped_from to None b e = absurd cc

-- the items and the last separator of a list
pub record Listing {A : Type 0} (xs : List A) (stop : Bool) (l : Listed A) : Type 0 where
  pub items : Made.listed_items l ≡ xs
  pub ends : Made.listed_stop l ≡ stop

listing_is : {A : Type 0} (xs : List A) (stop : Bool) (k l : Listed A) → Some k ≡ Some l → Made.listed_items k ≡ xs → Made.listed_stop k ≡ stop → Listing xs stop l
listing_is xs stop k l e items ends = let same : k ≡ l = cc in record { items = ap Made.listed_items (sym same) ∙ items; ends = ap Made.listed_stop (sym same) ∙ ends }

more_stop : {A : Type 0} (a b : A) (rest : List A) (m : Listed A) → Made.listed_items m ≡ b ∷ rest → Made.listed_stop (next a m) ≡ Made.listed_stop m
more_stop a b rest none e = absurd cc
more_stop a b rest (last x) e = refl
more_stop a b rest (next x m) e = refl

pub listed_forth : {A : Type 0} (xs : List A) (stop : Bool) (l : Listed A) → f.listed_of xs stop ≡ Some l → Listing xs stop l
listed_forth [] false l e = listing_is [] false none l e refl refl
listed_forth [] true l e = absurd cc
listed_forth (a ∷ []) false l e = listing_is (a ∷ []) false (last a) l e refl refl
listed_forth (a ∷ []) true l e = listing_is (a ∷ []) true (next a none) l e refl refl
listed_forth (a ∷ b ∷ rest) stop l e =
    let x : (m : Listed _) × (f.listed_of (b ∷ rest) stop ≡ Some m) × (next a m ≡ l) = mapped_from (next a) (f.listed_of (b ∷ rest) stop) l e in
    let inner : Listing (b ∷ rest) stop x.0 = listed_forth (b ∷ rest) stop x.0 x.1 in
    listing_is (a ∷ b ∷ rest) stop (next a x.0) l (ap Some x.2) (ap (λ ys. a ∷ ys) inner.items) (more_stop a b rest x.0 inner.items ∙ inner.ends)

-- ---- expressions

pub leaf_forth : (primary : p.Primary) (a : f.Leaf) → f.leaf_of primary ≡ Some a → Made.made_leaf a ≡ primary
leaf_forth (p.number true size) a e = let same : inr (inl size) ≡ a = cc in ap Made.made_leaf (sym same)
leaf_forth (p.outer_name name) a e = let same : inr (inr name) ≡ a = cc in ap Made.made_leaf (sym same)
leaf_forth (p.paren inner) a e = absurd cc
leaf_forth (p.block_literal block) a e = absurd cc
leaf_forth (p.tuple items stop) a e = absurd cc
leaf_forth (p.number false size) a e = let same : inl (p.number false size) ≡ a = cc in ap Made.made_leaf (sym same)
leaf_forth (p.name text) a e = let same : inl (p.name text) ≡ a = cc in ap Made.made_leaf (sym same)
leaf_forth (p.string text) a e = let same : inl (p.string text) ≡ a = cc in ap Made.made_leaf (sym same)
leaf_forth (p.symbol text) a e = let same : inl (p.symbol text) ≡ a = cc in ap Made.made_leaf (sym same)
leaf_forth p.nil_word a e = let same : inl p.nil_word ≡ a = cc in ap Made.made_leaf (sym same)
leaf_forth p.true_word a e = let same : inl p.true_word ≡ a = cc in ap Made.made_leaf (sym same)
leaf_forth p.false_word a e = let same : inl p.false_word ≡ a = cc in ap Made.made_leaf (sym same)
leaf_forth p.self_word a e = let same : inl p.self_word ≡ a = cc in ap Made.made_leaf (sym same)
leaf_forth p.super_word a e = let same : inl p.super_word ≡ a = cc in ap Made.made_leaf (sym same)

of_leaf : (primary : p.Primary) (a : f.Leaf ⊎ f.Bracketed) → option_map inl (f.leaf_of primary) ≡ Some a → Made.made_primary a ≡ primary
of_leaf primary a e = let x : (leaf : f.Leaf) × (f.leaf_of primary ≡ Some leaf) × (inl leaf ≡ a) = mapped_from inl (f.leaf_of primary) a e in ap Made.made_primary (sym x.2) ∙ leaf_forth primary x.0 x.1

of_tuple : (items : p.Exprs) (stop : Bool) (a : f.Leaf ⊎ f.Bracketed) (l : Listed p.Expr) → f.listed_of (expr_list items) stop ≡ Some l → inr (inr (inr l)) ≡ a → Made.made_primary a ≡ p.tuple items stop
of_tuple items stop a l e same =
    let x : Listing (expr_list items) stop l = listed_forth (expr_list items) stop l e in
    ap Made.made_primary (sym same) ∙ ap (λ xs. p.tuple (list_exprs xs) (Made.listed_stop l)) x.items ∙ ap (λ xs. p.tuple xs (Made.listed_stop l)) (exprs_forth items) ∙ ap (p.tuple items) x.ends

pub primary_forth : (primary : p.Primary) (a : f.Leaf ⊎ f.Bracketed) → f.primary_form primary ≡ Some a → Made.made_primary a ≡ primary
primary_forth (p.paren inner) a e = let same : inr (inl inner) ≡ a = cc in ap Made.made_primary (sym same)
primary_forth (p.block_literal block) a e = let same : inr (inr (inl block)) ≡ a = cc in ap Made.made_primary (sym same)
primary_forth (p.tuple items stop) a e =
    let x : (l : Listed p.Expr) × (f.listed_of (expr_list items) stop ≡ Some l) × (inr (inr (inr l)) ≡ a) = mapped_from (λ l. inr (inr (inr l))) (f.listed_of (expr_list items) stop) a e in
    of_tuple items stop a x.0 x.1 x.2
primary_forth (p.number minus size) a e = of_leaf (p.number minus size) a e
primary_forth (p.outer_name name) a e = of_leaf (p.outer_name name) a e
primary_forth (p.name text) a e = of_leaf (p.name text) a e
primary_forth (p.string text) a e = of_leaf (p.string text) a e
primary_forth (p.symbol text) a e = of_leaf (p.symbol text) a e
primary_forth p.nil_word a e = of_leaf p.nil_word a e
primary_forth p.true_word a e = of_leaf p.true_word a e
primary_forth p.false_word a e = of_leaf p.false_word a e
primary_forth p.self_word a e = of_leaf p.self_word a e
primary_forth p.super_word a e = of_leaf p.super_word a e

-- what is made of a form
of_form : {A B : Type 0} (to : A → B) (x a : A) (b : B) → Some x ≡ Some a → to x ≡ b → to a ≡ b
of_form to x a b e h = let same : x ≡ a = cc in ap to (sym same) ∙ h

pub block_forth : (block : p.Block) (a : f.BlockForm) → f.block_form block ≡ Some a → Made.made_block a ≡ block
block_forth (p.block_with params bars body) a e = of_form Made.made_block _ a (p.block_with params bars body) e (ap (λ ns. p.block_with ns bars body) (maybe_forth params))

pub un_forth : (un : p.UnExpr) (a : (ℕ × p.Primary) × List Named) → f.un_form un ≡ Some a → Made.made_un a ≡ un
un_forth (p.un_with at primary names) a e = of_form Made.made_un _ a (p.un_with at primary names) e refl

pub bin_forth : (bin : p.BinExpr) (a : p.UnExpr × List (Named × p.UnExpr)) → f.bin_form bin ≡ Some a → Made.made_bin a ≡ bin
bin_forth (p.bin_with first more) a e = of_form Made.made_bin _ a (p.bin_with first more) e (ap (p.bin_with first) (opers_forth more))

-- keys of which there is one
some_keys : (keys : p.Keys) (a : f.KeysForm) → f.once_or_more_of (key_list keys) ≡ Some a → Made.made_keys a ≡ keys
some_keys keys a e = ap list_keys (once_forth (key_list keys) a e) ∙ keys_forth keys

pub key_expr_forth : (expr : p.KeyExpr) (a : (p.BinExpr × List (Named × p.BinExpr)) ⊎ f.KeysForm) → f.key_expr_form expr ≡ Some a → Made.made_key_expr a ≡ expr
key_expr_forth (p.sent receiver keys) a e = of_form Made.made_key_expr _ a (p.sent receiver keys) e (ap (p.sent receiver) (keys_forth keys))
key_expr_forth (p.implicit keys) a e =
    let x : (ks : f.KeysForm) × (f.once_or_more_of (key_list keys) ≡ Some ks) × (inr ks ≡ a) = mapped_from inr (f.once_or_more_of (key_list keys)) a e in
    ap Made.made_key_expr (sym x.2) ∙ ap p.implicit (some_keys keys x.0 x.1)

pub message_forth : (message : p.Message) (a : Named ⊎ ((Named × p.UnExpr) ⊎ f.KeysForm)) → f.message_form message ≡ Some a → Made.made_message a ≡ message
message_forth (p.unary name) a e = of_form Made.made_message _ a (p.unary name) e refl
message_forth (p.binary name argument) a e = of_form Made.made_message _ a (p.binary name argument) e refl
message_forth (p.keywords keys) a e =
    let x : (ks : f.KeysForm) × (f.once_or_more_of (key_list keys) ≡ Some ks) × (inr (inr ks) ≡ a) = mapped_from (λ ks. inr (inr ks)) (f.once_or_more_of (key_list keys)) a e in
    ap Made.made_message (sym x.2) ∙ ap p.keywords (some_keys keys x.0 x.1)

pub expr_forth : (expr : p.Expr) (a : List Named × (p.KeyExpr × List (ℕ × p.Message))) → f.expr_form expr ≡ Some a → Made.made_expr a ≡ expr
expr_forth (p.expr_with sets first more) a e = of_form Made.made_expr _ a (p.expr_with sets first more) e (ap (p.expr_with sets first) (messages_forth more))

-- ---- slots and statements

pub init_forth : (init : p.SlotInit) (a : p.Expr ⊎ (p.Expr ⊎ Bool)) → f.init_form init ≡ Some a → Made.made_init a ≡ init
init_forth (p.fixed value) a e = of_form Made.made_init _ a (p.fixed value) e refl
init_forth (p.mutable value) a e = of_form Made.made_init _ a (p.mutable value) e refl
init_forth (p.bare stop) a e = of_form Made.made_init _ a (p.bare stop) e refl

pub slot_forth : (slot : p.Slot) (a : Option Access × (Named × p.SlotInit)) → f.slot_form slot ≡ Some a → Made.made_slot a ≡ slot
slot_forth (p.slot_with access name init) a e = of_form Made.made_slot _ a (p.slot_with access name init) e refl

pub local_forth : (slot : p.Slot) (a : Named × p.SlotInit) → f.local_form slot ≡ Some a → Made.made_local a ≡ slot
local_forth (p.slot_with None name init) a e = of_form Made.made_local _ a (p.slot_with None name init) e refl
local_forth (p.slot_with (Some access) name init) a e = absurd cc

pub bars_forth : (bars : p.Bars) (a : Option (List p.Slot)) → f.bars_form bars ≡ Some a → Made.made_bars a ≡ bars
bars_forth p.no_bars a e = of_form Made.made_bars _ a p.no_bars e refl
bars_forth (p.bars_around slots) a e = of_form Made.made_bars _ a (p.bars_around slots) e (ap p.bars_around (slots_forth slots))

pub statement_forth : (statement : p.Statement) (a : Option ℕ × p.Expr) → f.statement_form statement ≡ Some a → Made.made_statement a ≡ statement
statement_forth (p.statement_with caret expr) a e = of_form Made.made_statement _ a (p.statement_with caret expr) e refl

pub stmts_forth : (statements : p.Statements) (a : Listed p.Statement) → f.statements_form statements ≡ Some a → Made.made_statements a ≡ statements
stmts_forth (p.statements_with list stop) a e =
    let x : Listing (statement_list list) stop a = listed_forth (statement_list list) stop a e in
    ap (λ xs. p.statements_with (list_statements xs) (Made.listed_stop a)) x.items ∙ ap (λ xs. p.statements_with xs (Made.listed_stop a)) (statements_forth list) ∙ ap (p.statements_with list) x.ends

-- ---- declarations

pub base_forth : (base : Base) (a : Named ⊎ (Named ⊎ (Named × Named))) → f.base_form base ≡ Some a → Made.made_base a ≡ base
base_forth base a e = by_origin base.origin refl
  where
    same_base : (origin : Origin) (b : Base) → b.origin ≡ origin → record { origin = origin; name = b.name } ≡ b
    same_base origin b h = ap (λ x. record { origin = x; name = b.name }) (sym h)

    by_origin : (origin : Origin) → base.origin ≡ origin → Made.made_base a ≡ base
    by_origin from.Here h = of_form Made.made_base (inl base.name) a base (ap (λ x. Some (f.base_by x base.name)) (sym h) ∙ e) (same_base from.Here base h)
    by_origin from.Super h = of_form Made.made_base (inr (inl base.name)) a base (ap (λ x. Some (f.base_by x base.name)) (sym h) ∙ e) (same_base from.Super base h)
    by_origin (from.Outer class) h = of_form Made.made_base (inr (inr (class, base.name))) a base (ap (λ x. Some (f.base_by x base.name)) (sym h) ∙ e) (same_base (from.Outer class) base h)

pub super_message_forth : (message : p.Message) (a : Named ⊎ f.KeysForm) → f.super_message_form message ≡ Some a → Made.made_super_message a ≡ message
super_message_forth (p.unary name) a e = of_form Made.made_super_message _ a (p.unary name) e refl
super_message_forth (p.binary name argument) a e = absurd cc
super_message_forth (p.keywords keys) a e =
    let x : (ks : f.KeysForm) × (f.once_or_more_of (key_list keys) ≡ Some ks) × (inr ks ≡ a) = mapped_from inr (f.once_or_more_of (key_list keys)) a e in
    ap Made.made_super_message (sym x.2) ∙ ap p.keywords (some_keys keys x.0 x.1)

pub clause_forth : (clause : p.SuperClause) (a : Base × (Option Base × Option p.Message)) → f.clause_form clause ≡ Some a → Made.made_clause a ≡ clause
clause_forth (p.clause_with head over message) a e = of_form Made.made_clause _ a (p.clause_with head over message) e refl

pub method_forth : (method : p.Method) (a : p.Pattern × (p.Bars × p.Statements)) → f.method_form method ≡ Some a → Made.made_method a ≡ method
method_forth (p.method_with pattern bars body) a e = of_form Made.made_method _ a (p.method_with pattern bars body) e refl

pub what_forth : (what : p.What) (a : p.Class ⊎ p.Method) → f.class_member_form what ≡ Some a → Made.made_what a ≡ what
what_forth (p.class_member class) a e = of_form Made.made_what _ a (p.class_member class) e refl
what_forth (p.method_member method) a e = of_form Made.made_what _ a (p.method_member method) e refl

pub method_member_forth : (what : p.What) (a : p.Method) → f.method_member_form what ≡ Some a → p.method_member a ≡ what
method_member_forth (p.class_member class) a e = absurd cc
method_member_forth (p.method_member method) a e = of_form p.method_member method a (p.method_member method) e refl

pub side_forth : (side : p.Side) (a : List p.Member × List (List ℕ)) → f.side_form side ≡ Some a → Made.made_side a ≡ side
side_forth (p.side_with members tail) a e = of_form Made.made_side _ a (p.side_with members tail) e (ap (λ ms. p.side_with ms tail) (members_forth members))

pub class_forth : (class : p.Class) (a : f.ClassForm) → f.class_form class ≡ Some a → Made.made_class a ≡ class
class_forth (p.class_with name factory clause bars body side p.no_class_side) a e = of_form Made.made_class _ a (p.class_with name factory clause bars body side p.no_class_side) e refl
class_forth (p.class_with name factory clause bars body side (p.class_side_with other)) a e = of_form Made.made_class _ a (p.class_with name factory clause bars body side (p.class_side_with other)) e refl

pub unit_forth : (unit : p.SourceUnit) (a : Bool × (Option (List ℕ) × p.Class)) → f.unit_form unit ≡ Some a → Made.made_unit a ≡ unit
unit_forth (p.unit_with marker category class) a e = of_form Made.made_unit _ a (p.unit_with marker category class) e refl

-- ---- patterns

paired_forth : (parts params : List Named) (pairs : List (Named × Named)) → f.paired parts params ≡ Some pairs → (Made.firsts pairs ≡ parts) × (Made.seconds pairs ≡ params)
paired_forth [] [] pairs e = let same : [] ≡ pairs = cc in (ap Made.firsts (sym same), ap Made.seconds (sym same))
paired_forth [] (param ∷ params) pairs e = absurd cc
paired_forth (part ∷ parts) [] pairs e = absurd cc
paired_forth (part ∷ parts) (param ∷ params) pairs e = by_start (λ rest h. paired_forth parts params rest h) (starts_name part.text) e
  where
    by_start : ((rest : List (Named × Named)) → f.paired parts params ≡ Some rest → (Made.firsts rest ≡ parts) × (Made.seconds rest ≡ params)) → (b : Bool) → (if b then option_map (λ rest. (part, param) ∷ rest) (f.paired parts params) else None) ≡ Some pairs → (Made.firsts pairs ≡ part ∷ parts) × (Made.seconds pairs ≡ param ∷ params)
    by_start after false h = absurd cc
    by_start after true h =
        let x : (rest : List (Named × Named)) × (f.paired parts params ≡ Some rest) × ((part, param) ∷ rest ≡ pairs) = mapped_from (λ rest. (part, param) ∷ rest) (f.paired parts params) pairs h in
        let inner : (Made.firsts x.0 ≡ parts) × (Made.seconds x.0 ≡ params) = after x.0 x.1 in
        (ap Made.firsts (sym x.2) ∙ ap (λ ns. part ∷ ns) inner.0, ap Made.seconds (sym x.2) ∙ ap (λ ns. param ∷ ns) inner.1)

abbrev PatternForm : Type 0
PatternForm = Named ⊎ ((Named × Named) ⊎ f.ParamsForm)

params_forth : (parts : List Named) (param : Named) (params : List Named) (a : PatternForm) → f.params_form parts param params ≡ Some a → Made.made_pattern a ≡ p.pattern_with parts (param ∷ params)
params_forth [] param params a e = absurd cc
params_forth (part ∷ parts) param params a e = by_start (starts_name part.text) e
  where
    operator_forth : (parts params : List Named) → f.operator_form part param parts params ≡ Some a → Made.made_pattern a ≡ p.pattern_with (part ∷ parts) (param ∷ params)
    operator_forth [] [] h = of_form Made.made_pattern (inr (inl (part, param))) a (p.pattern_with (part ∷ []) (param ∷ [])) h refl
    operator_forth [] (x ∷ xs) h = absurd cc
    operator_forth (x ∷ xs) [] h = absurd cc
    operator_forth (x ∷ xs) (y ∷ ys) h = absurd cc

    by_start : (b : Bool) → (if b then option_map (λ pairs. inr (inr ((part, param), pairs))) (f.paired parts params) else f.operator_form part param parts params) ≡ Some a → Made.made_pattern a ≡ p.pattern_with (part ∷ parts) (param ∷ params)
    by_start false h = operator_forth parts params h
    by_start true h =
        let x : (pairs : List (Named × Named)) × (f.paired parts params ≡ Some pairs) × (inr (inr ((part, param), pairs)) ≡ a) = mapped_from (λ pairs. inr (inr ((part, param), pairs))) (f.paired parts params) a h in
        let inner : (Made.firsts x.0 ≡ parts) × (Made.seconds x.0 ≡ params) = paired_forth parts params x.0 x.1 in
        ap Made.made_pattern (sym x.2) ∙ ap (λ ns. p.pattern_with (part ∷ ns) (param ∷ Made.seconds x.0)) inner.0 ∙ ap (λ ns. p.pattern_with (part ∷ parts) (param ∷ ns)) inner.1

pub pattern_forth : (pattern : p.Pattern) (a : PatternForm) → f.pattern_form pattern ≡ Some a → Made.made_pattern a ≡ pattern
pattern_forth (p.pattern_with [] []) a e = absurd cc
pattern_forth (p.pattern_with (part ∷ []) []) a e = of_form Made.made_pattern (inl part) a (p.pattern_with (part ∷ []) []) e refl
pattern_forth (p.pattern_with (part ∷ x ∷ parts) []) a e = absurd cc
pattern_forth (p.pattern_with parts (param ∷ params)) a e = params_forth parts param params a e

pub factory_forth : (pattern : p.Pattern) (a : Named ⊎ f.ParamsForm) → f.factory_form pattern ≡ Some a → Made.made_factory a ≡ pattern
factory_forth pattern a e = by_pattern (f.pattern_form pattern) refl e
  where
    by_pattern : (o : Option PatternForm) → f.pattern_form pattern ≡ o → f.factory_by o ≡ Some a → Made.made_factory a ≡ pattern
    by_pattern None h g = absurd cc
    by_pattern (Some (inl name)) h g = of_form Made.made_factory (inl name) a pattern g (pattern_forth pattern (inl name) h)
    by_pattern (Some (inr (inl x))) h g = absurd cc
    by_pattern (Some (inr (inr x))) h g = of_form Made.made_factory (inr x) a pattern g (pattern_forth pattern (inr (inr x)) h)
