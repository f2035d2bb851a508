-- The plain form of a row is that of the list of its items.
use Rattle.std.proofs.Common.{◌≡◌, refl, ap, ◌∙◌, rules}
use Rattle.ns_tree.specs.Plain as p
use Rattle.ns_tree.specs.PlainOf.{cascade_row, keys_row, opers_row, exprs_row, slots_row, statements_row, members_row}
use Rattle.ns_tree.specs.PlainOf.{cascade_of, keys_of, opers_of, exprs_of, slots_of, statement_list_of, members_of}
use Rattle.ns_tree.specs.PlainOf.{message_of, un_of, expr_of, init_of, what_of}
use Rattle.ns_tree.specs.declared.tree.Expr.TheBlock as b
use Rattle.ns_tree.specs.declared.tree.Expr.TheViews.{the_lemmas}
use Rattle.ns_tree.specs.declared.tree.What.TheBlock as c

pub opers_items : (n : _) (row : b.Row_of-BinExpr-more-2 n) → opers_row row ≡ opers_of (b.items-the_row-BinExpr-more-2 n row)
opers_items n b.end_of-BinExpr-more-2 = refl
opers_items n (b.more_of-BinExpr-more-2 {n = m} name argument rest) = ap (p.more_opers name (un_of argument)) (opers_items m rest)

pub keys_items : (n : _) (row : b.Row_of-Expr-Implicit-0-2 n) → keys_row row ≡ keys_of (b.items-the_row-Expr-Implicit-0-2 n row)
keys_items n b.end_of-Expr-Implicit-0-2 = refl
keys_items n (b.more_of-Expr-Implicit-0-2 {n = m} name first shape more rest) =
    let opers : opers_row more ≡ opers_of (b.shown-the_row-BinExpr-more-2-0 shape more).items = search (rules, the_lemmas, opers_items) in
    ap (λ x. p.more_keys name (p.bin_with (un_of first) x) (keys_row rest)) opers
    ∙ ap (p.more_keys name (p.bin_with (un_of first) (opers_of (b.shown-the_row-BinExpr-more-2-0 shape more).items))) (keys_items m rest)

pub cascade_items : (n : _) (row : b.Row_of-FullExpr-more-2 n) → cascade_row row ≡ cascade_of (b.items-the_row-FullExpr-more-2 n row)
cascade_items n b.end_of-FullExpr-more-2 = refl
cascade_items n (b.more_of-FullExpr-more-2 {n = m} at message rest) = ap (p.more_messages at (message_of message)) (cascade_items m rest)

pub exprs_items : (n : _) (row : b.Row_of-Expr n) → exprs_row row ≡ exprs_of (b.items-the_row-Expr n row)
exprs_items n b.end_of-Expr = refl
exprs_items n (b.more_of-Expr {n = m} expr rest) = ap (p.more_exprs (expr_of expr)) (exprs_items m rest)

pub slots_items : (n : _) (row : b.Row_of-Slot n) → slots_row row ≡ slots_of (b.items-the_row-Slot n row)
slots_items n b.end_of-Slot = refl
slots_items n (b.more_of-Slot {n = m} access name init rest) = ap (p.more_slots (p.slot_with access name (init_of init))) (slots_items m rest)

pub statements_items : (n : _) (row : b.Row_of-Statement n) → statements_row row ≡ statement_list_of (b.items-the_row-Statement n row)
statements_items n b.end_of-Statement = refl
statements_items n (b.more_of-Statement {n = m} caret expr rest) = ap (p.more_statements (p.statement_with caret (expr_of expr))) (statements_items m rest)

pub members_items : (n : _) (row : c.Row_of-Member n) → members_row row ≡ members_of (c.items-the_row-Member n row)
members_items n c.end_of-Member = refl
members_items n (c.more_of-Member {n = m} categories access what rest) = ap (p.more_members (p.member_with categories.items access (what_of what))) (members_items m rest)
