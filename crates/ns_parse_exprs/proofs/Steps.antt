-- The lists of a tree, by their plain items.
use Rattle.std.proofs.Common.{◌≡◌, ℕ, List, [], ◌∷◌, map, Bool, false, not, ◌==◌, vec_len, refl, ap, ◌∙◌, length, arith}
use Rattle.std.proofs.lemmas.Bool.Decides.{nat_tests}
use Rattle.std.specs.Global.{Vec}
use Rattle.ns_tree.specs.declared.tree.Named.{Named}
use Rattle.ns_tree.specs.declared.tree.Expr.{Expr}
use Rattle.ns_tree.specs.declared.tree.Message.{Message}
use Rattle.ns_tree.specs.declared.tree.BinExpr.{BinExpr}
use Rattle.ns_tree.specs.declared.tree.UnExpr.{UnExpr}
use Rattle.ns_tree.specs.declared.tree.Slot.{Slot}
use Rattle.ns_tree.specs.declared.tree.Statement.{Statement}
use Rattle.ns_tree.specs.Lists.{list_keys, list_opers, list_messages, list_exprs, list_slots, list_statements}
use Rattle.ns_tree.specs.Plain as p
use Rattle.ns_tree.specs.PlainOf.{expr_of, message_of, bin_of, un_of, slot_of, statement_of, opers_of, keys_of, cascade_of, exprs_of, slots_of, statement_list_of}
use Rattle.ns_parse_exprs.specs.Views.{oper_view, key_view, cascaded_view}
use Rattle.ns_parse_exprs.proofs.Lists.{is_some}

pub opers_same : (xs : List (Named × UnExpr)) → opers_of xs ≡ list_opers (map oper_view xs)
opers_same [] = refl
opers_same (v ∷ xs) = ap (p.more_opers v.0 (un_of v.1)) (opers_same xs)

pub keys_same : (xs : List (Named × BinExpr)) → keys_of xs ≡ list_keys (map key_view xs)
keys_same [] = refl
keys_same (v ∷ xs) = ap (p.more_keys v.0 (bin_of v.1)) (keys_same xs)

pub cascade_same : (xs : List (ℕ × Message)) → cascade_of xs ≡ list_messages (map cascaded_view xs)
cascade_same [] = refl
cascade_same (v ∷ xs) = ap (p.more_messages v.0 (message_of v.1)) (cascade_same xs)

pub exprs_same : (xs : List Expr) → exprs_of xs ≡ list_exprs (map expr_of xs)
exprs_same [] = refl
exprs_same (v ∷ xs) = ap (p.more_exprs (expr_of v)) (exprs_same xs)

pub slots_same : (xs : List Slot) → slots_of xs ≡ list_slots (map slot_of xs)
slots_same [] = refl
slots_same (v ∷ xs) = ap (p.more_slots (slot_of v)) (slots_same xs)

pub statements_same : (xs : List Statement) → statement_list_of xs ≡ list_statements (map statement_of xs)
statements_same [] = refl
statements_same (v ∷ xs) = ap (p.more_statements (statement_of v)) (statements_same xs)

length_none : {A : Type 0} (x : A) (xs : List A) → (length (x ∷ xs) == 0) ≡ false
length_none x xs = grind (arith, nat_tests)

some_by : {A B : Type 0} (f : A → B) (xs : List A) → not (length xs == 0) ≡ is_some (map f xs)
some_by f [] = refl
some_by f (x ∷ xs) = ap not (length_none x xs)

-- The test of a vector says whether something stands in it.
pub not_empty : {A B : Type 0} (f : A → B) (v : Vec A) (empty : Bool) → empty ≡ (vec_len v == 0) → not empty ≡ is_some (map f v.items)
not_empty f v empty h =
    let size : vec_len v ≡ length v.items = omega arith in
    ap not (h ∙ ap (λ n. n == 0) size) ∙ some_by f v.items
