-- The form of a node that was made of some parts is these parts.
use Rattle.std.proofs.Common.{◌≡◌, refl, ap, ◌∙◌, ℕ, ◌+◌, length, ◌⊎◌, inl, inr, Bool, true, false, List, [], ◌∷◌, Option, Some, None, option_map, if◌then◌else◌}
use Rattle.ns_base.specs.Spelling.{starts_name}
use Rattle.ns_tree.specs.declared.tree.Named.{Named}
use Rattle.ns_tree.specs.Forms as f
use Rattle.ns_tree.specs.Grammar as g
use Rattle.ns_tree.specs.Lists.{key_list, oper_list, message_list, expr_list, slot_list, statement_list, member_list}
use Rattle.ns_tree.specs.Lists.{list_keys, list_opers, list_messages, list_exprs, list_slots, list_statements, list_members}
use Rattle.ns_tree.specs.Made
use Rattle.ns_tree.specs.Plain as p
use Rattle.ns_tree.specs.Rule.{Rule, Listed, none, last, next, GoodAll, ◌&◌, either, once_or_more}

-- ---- lists

-- The list of a list of keywords with their arguments is that list.
pub keys_back : (xs : List (Named × p.BinExpr)) → key_list (list_keys xs) ≡ xs
keys_back [] = refl
keys_back (x ∷ xs) = ap (λ ys. x ∷ ys) (keys_back xs)

-- The list of a list of operators with their operands is that list.
pub opers_back : (xs : List (Named × p.UnExpr)) → oper_list (list_opers xs) ≡ xs
opers_back [] = refl
opers_back (x ∷ xs) = ap (λ ys. x ∷ ys) (opers_back xs)

-- The list of a list of messages is that list.
pub messages_back : (xs : List (ℕ × p.Message)) → message_list (list_messages xs) ≡ xs
messages_back [] = refl
messages_back (x ∷ xs) = ap (λ ys. x ∷ ys) (messages_back xs)

-- The list of a list of expressions is that list.
pub exprs_back : (xs : List p.Expr) → expr_list (list_exprs xs) ≡ xs
exprs_back [] = refl
exprs_back (x ∷ xs) = ap (λ ys. x ∷ ys) (exprs_back xs)

-- The list of a list of slots is that list.
pub slots_back : (xs : List p.Slot) → slot_list (list_slots xs) ≡ xs
slots_back [] = refl
slots_back (x ∷ xs) = ap (λ ys. x ∷ ys) (slots_back xs)

-- The list of a list of statements is that list.
pub statements_back : (xs : List p.Statement) → statement_list (list_statements xs) ≡ xs
statements_back [] = refl
statements_back (x ∷ xs) = ap (λ ys. x ∷ ys) (statements_back xs)

pub members_back : (xs : List p.Member) → member_list (list_members xs) ≡ xs
members_back [] = refl
members_back (x ∷ xs) = ap (λ ys. x ∷ ys) (members_back xs)

pub listed_back : {A : Type 0} → (l : Listed A) → f.listed_of (Made.listed_items l) (Made.listed_stop l) ≡ Some l
listed_back none = refl
listed_back (last a) = refl
listed_back (next a none) = refl
listed_back (next a (last b)) = refl
listed_back (next a (next b rest)) = ap (option_map (next a)) (listed_back (next b rest))

pub maybe_back : {A : Type 0} → (x : Option (f.OnceOrMore A)) → f.once_or_more_of (Made.maybe_list x) ≡ x
maybe_back None = refl
maybe_back (Some x) = refl

-- ---- expressions

-- what one token gives is a leaf of one token
simple_back : (n : ℕ) (primary : p.Primary) → g.make_simple n (g.simple_kind primary) ≡ Some primary → f.leaf_of primary ≡ Some (inl primary)
simple_back n (p.name text) h = refl
simple_back n (p.number true size) h = absurd cc
simple_back n (p.number false size) h = refl
simple_back n (p.string text) h = refl
simple_back n (p.symbol text) h = refl
simple_back n p.nil_word h = refl
simple_back n p.true_word h = refl
simple_back n p.false_word h = refl
simple_back n p.self_word h = refl
simple_back n p.super_word h = refl
simple_back n (p.outer_name name) h = absurd cc
simple_back n (p.paren inner) h = absurd cc
simple_back n (p.block_literal block) h = absurd cc
simple_back n (p.tuple items stop) h = absurd cc

pub leaf_back : (n : ℕ) (x : f.Leaf) → g.leaf.Good n x → f.leaf_of (Made.made_leaf x) ≡ Some x
leaf_back n (inl primary) good = simple_back n primary good
leaf_back n (inr (inl size)) good = refl
leaf_back n (inr (inr name)) good = refl

-- a primary that is a leaf
form_of_leaf : (primary : p.Primary) (leaf : f.Leaf) → f.leaf_of primary ≡ Some leaf → f.primary_form primary ≡ Some (inl leaf)
form_of_leaf (p.name text) leaf h = ap (option_map inl) h
form_of_leaf (p.number true size) leaf h = ap (option_map inl) h
form_of_leaf (p.number false size) leaf h = ap (option_map inl) h
form_of_leaf (p.string text) leaf h = ap (option_map inl) h
form_of_leaf (p.symbol text) leaf h = ap (option_map inl) h
form_of_leaf p.nil_word leaf h = ap (option_map inl) h
form_of_leaf p.true_word leaf h = ap (option_map inl) h
form_of_leaf p.false_word leaf h = ap (option_map inl) h
form_of_leaf p.self_word leaf h = ap (option_map inl) h
form_of_leaf p.super_word leaf h = ap (option_map inl) h
form_of_leaf (p.outer_name name) leaf h = ap (option_map inl) h
form_of_leaf (p.paren inner) leaf h = absurd cc
form_of_leaf (p.block_literal block) leaf h = absurd cc
form_of_leaf (p.tuple items stop) leaf h = absurd cc

pub primary_back : (bracketed : Rule f.Bracketed) (n : ℕ) (x : f.Leaf ⊎ f.Bracketed) → (either g.leaf bracketed).Good n x → f.primary_form (Made.made_primary x) ≡ Some x
primary_back bracketed n (inl leaf) good = form_of_leaf (Made.made_leaf leaf) leaf (leaf_back n leaf good)
primary_back bracketed n (inr (inl inner)) good = refl
primary_back bracketed n (inr (inr (inl block))) good = refl
primary_back bracketed n (inr (inr (inr items))) good =
    ap (λ xs. option_map (λ y. inr (inr (inr y))) (f.listed_of xs (Made.listed_stop items))) (exprs_back (Made.listed_items items)) ∙ ap (option_map (λ y. inr (inr (inr y)))) (listed_back items)

pub block_back : (x : f.BlockForm) → f.block_form (Made.made_block x) ≡ Some x
block_back x = ap (λ params. Some (params, (x.1.0, x.1.1))) (maybe_back x.0)

pub bin_back : (x : p.UnExpr × List (Named × p.UnExpr)) → f.bin_form (Made.made_bin x) ≡ Some x
bin_back x = ap (λ more. Some (x.0, more)) (opers_back x.1)

pub key_expr_back : (x : (p.BinExpr × List (Named × p.BinExpr)) ⊎ f.KeysForm) → f.key_expr_form (Made.made_key_expr x) ≡ Some x
key_expr_back (inl x) = ap (λ keys. Some (inl (x.0, keys))) (keys_back x.1)
key_expr_back (inr x) = ap (λ keys. option_map inr (f.once_or_more_of keys)) (keys_back (x.0 ∷ x.1))

pub message_back : (x : Named ⊎ ((Named × p.UnExpr) ⊎ f.KeysForm)) → f.message_form (Made.made_message x) ≡ Some x
message_back (inl name) = refl
message_back (inr (inl x)) = refl
message_back (inr (inr x)) = ap (λ keys. option_map (λ y. inr (inr y)) (f.once_or_more_of keys)) (keys_back (x.0 ∷ x.1))

pub expr_back : (x : List Named × (p.KeyExpr × List (ℕ × p.Message))) → f.expr_form (Made.made_expr x) ≡ Some x
expr_back x = ap (λ more. Some (x.0, (x.1.0, more))) (messages_back x.1.1)

-- ---- slots and statements

pub init_back : (x : p.Expr ⊎ (p.Expr ⊎ Bool)) → f.init_form (Made.made_init x) ≡ Some x
init_back (inl value) = refl
init_back (inr (inl value)) = refl
init_back (inr (inr stop)) = refl

pub bars_back : (x : Option (List p.Slot)) → f.bars_form (Made.made_bars x) ≡ Some x
bars_back None = refl
bars_back (Some slots) = ap (λ xs. Some (Some xs)) (slots_back slots)

pub stmts_back : (x : Listed p.Statement) → f.statements_form (Made.made_statements x) ≡ Some x
stmts_back x = ap (λ xs. f.listed_of xs (Made.listed_stop x)) (statements_back (Made.listed_items x)) ∙ listed_back x

-- ---- declarations

pub base_back : (x : Named ⊎ (Named ⊎ (Named × Named))) → f.base_form (Made.made_base x) ≡ Some x
base_back (inl name) = refl
base_back (inr (inl name)) = refl
base_back (inr (inr x)) = refl

pub super_message_back : (x : Named ⊎ f.KeysForm) → f.super_message_form (Made.made_super_message x) ≡ Some x
super_message_back (inl name) = refl
super_message_back (inr x) = ap (λ keys. option_map inr (f.once_or_more_of keys)) (keys_back (x.0 ∷ x.1))

pub what_back : (x : p.Class ⊎ p.Method) → f.class_member_form (Made.made_what x) ≡ Some x
what_back (inl class) = refl
what_back (inr method) = refl

pub side_back : (x : List p.Member × List (List ℕ)) → f.side_form (Made.made_side x) ≡ Some x
side_back x = ap (λ members. Some (members, x.1)) (members_back x.0)

class_side_back : (x : Option p.Side) → f.class_side_form (Made.made_class_side x) ≡ x
class_side_back None = refl
class_side_back (Some side) = refl

pub class_back : (x : f.ClassForm) → f.class_form (Made.made_class x) ≡ Some x
class_back x = ap (λ side. Some (x.0, (x.1.0, (x.1.1.0, ((x.1.1.1.0.0, x.1.1.1.0.1), (x.1.1.1.1.0, side)))))) (class_side_back x.1.1.1.1.1)

-- ---- patterns

starts_by : (b : Bool) (x y : Named) → (if b then Some x else None) ≡ Some y → b ≡ true
starts_by true x y h = refl
starts_by false x y h = absurd cc

no_start_by : (b : Bool) (x y : Named) → (if b then None else Some x) ≡ Some y → b ≡ false
no_start_by true x y h = absurd cc
no_start_by false x y h = refl

pairs_back : (n : ℕ) (xs : List (Named × Named)) → GoodAll (g.part_key & g.ident) n xs → f.paired (Made.firsts xs) (Made.seconds xs) ≡ Some xs
pairs_back n [] good = refl
pairs_back n (x ∷ xs) good =
    ap (λ b. if b then option_map (λ pairs. (x.0, x.1) ∷ pairs) (f.paired (Made.firsts xs) (Made.seconds xs)) else None) (starts_by (starts_name x.0.text) (g.named n x.0.text) x.0 good.0.0)
    ∙ ap (option_map (λ pairs. (x.0, x.1) ∷ pairs)) (pairs_back (n + length ((g.part_key & g.ident).flat x)) xs good.1)

params_back : (n : ℕ) (x : f.ParamsForm) → (once_or_more (g.part_key & g.ident)).Good n x → f.params_form (x.0.0 ∷ Made.firsts x.1) x.0.1 (Made.seconds x.1) ≡ Some (inr (inr x))
params_back n x good =
    ap (λ b. if b then option_map (λ pairs. inr (inr ((x.0.0, x.0.1), pairs))) (f.paired (Made.firsts x.1) (Made.seconds x.1)) else f.operator_form x.0.0 x.0.1 (Made.firsts x.1) (Made.seconds x.1)) (starts_by (starts_name x.0.0.text) (g.named n x.0.0.text) x.0.0 good.0.0)
    ∙ ap (option_map (λ pairs. inr (inr ((x.0.0, x.0.1), pairs)))) (pairs_back (n + length ((g.part_key & g.ident).flat x.0)) x.1 good.1)

-- What makes a pattern gives its form back.
pub pattern_back : (n : ℕ) (x : Named ⊎ ((Named × Named) ⊎ f.ParamsForm)) → (either g.ident (either (g.part_oper & g.ident) (once_or_more (g.part_key & g.ident)))).Good n x → f.pattern_form (Made.made_pattern x) ≡ Some x
pattern_back n (inl name) good = refl
pattern_back n (inr (inl x)) good =
    ap (λ b. if b then option_map (λ pairs. inr (inr ((x.0, x.1), pairs))) (f.paired [] []) else f.operator_form x.0 x.1 [] []) (no_start_by (starts_name x.0.text) (g.named n x.0.text) x.0 good.0)
pattern_back n (inr (inr x)) good = params_back n x good

-- What makes the name and parameters of a factory gives them back.
pub factory_back : (n : ℕ) (x : Named ⊎ f.ParamsForm) → (either g.ident (once_or_more (g.part_key & g.ident))).Good n x → f.factory_form (Made.made_factory x) ≡ Some x
factory_back n (inl name) good = refl
factory_back n (inr x) good = ap f.factory_by (params_back n x good)
