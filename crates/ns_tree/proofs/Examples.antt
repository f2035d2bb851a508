-- Worked examples of the definitions.
use Rattle.std.proofs.Common.{rules, arith, ◌≡◌, refl, ap, inl, inr, zero, suc, ℕ, true, false, List, [], ◌∷◌, Option, Some, None}
use Rattle.std.specs.Prelude.{codes}
use Rattle.ns_tree.specs.declared.token.Kind.{Kind}
use Rattle.ns_tree.specs.declared.token.Kind.TheVariants as k
use Rattle.ns_tree.specs.declared.token.Reserved.TheVariants as r
use Rattle.ns_tree.specs.declared.tree.Named.{Named}
use Rattle.ns_tree.specs.declared.tree.Access.TheVariants as a
use Rattle.ns_tree.specs.declared.tree.Origin.TheVariants as o
use Rattle.ns_tree.specs.Plain as p
use Rattle.ns_tree.specs.Flat.{flat, bar, equals}
use Rattle.ns_tree.specs.Deep.{deep}
use Rattle.ns_tree.specs.Tree.{Tree, Front}
use Rattle.ns_tree.specs.Grammar.{file}

abbrev named : List ℕ → ℕ → Named
named text at = record { text = text; at = at }

-- a primary and nothing behind it, as a whole expression
abbrev alone : ℕ → p.Primary → p.Expr
alone at primary = p.expr_with [] (p.sent (p.bin_with (p.un_with at primary []) p.no_opers) p.no_keys) p.no_messages

abbrev no_side : p.Side
no_side = p.side_with p.no_members []

abbrev nothing : p.Statements
nothing = p.statements_with p.no_statements false

-- class A p: m = (| x = -1. |) (public + y = (^y foo; bar))
abbrev small : p.SourceUnit
small = p.unit_with false None (p.class_with (named (codes "A") 1) (Some (p.pattern_with (named (codes "p:") 2 ∷ []) (named (codes "m") 3 ∷ []))) None
    (p.bars_around (p.more_slots (p.slot_with None (named (codes "x") 7) (p.fixed (alone 9 (p.number true 1)))) p.no_slots)) nothing
    (p.side_with (p.more_members (p.member_with [] (Some a.Public) (p.method_member (p.method_with (p.pattern_with (named (codes "+") 16 ∷ []) (named (codes "y") 17 ∷ [])) p.no_bars
    (p.statements_with (p.more_statements (p.statement_with (Some 20) (p.expr_with [] (p.sent (p.bin_with (p.un_with 21 (p.name (codes "y")) (named (codes "foo") 22 ∷ [])) p.no_opers) p.no_keys) (p.more_messages 23 (p.unary (named (codes "bar") 24)) p.no_messages))) p.no_statements) false))))
    p.no_members) []) p.no_class_side)

small_flat : flat small ≡ k.Word r.Class ∷ k.Ident (codes "A") ∷ k.Key (codes "p:") ∷ k.Ident (codes "m") ∷ equals ∷ k.Open ∷ bar ∷ k.Ident (codes "x") ∷ equals ∷ k.Oper (codes "-") ∷ k.Number 1 ∷ k.Stop ∷ bar ∷ k.Close
    ∷ k.Open ∷ k.Word r.Public ∷ k.Oper (codes "+") ∷ k.Ident (codes "y") ∷ equals ∷ k.Open ∷ k.Caret ∷ k.Ident (codes "y") ∷ k.Ident (codes "foo") ∷ k.Semi ∷ k.Ident (codes "bar") ∷ k.Close ∷ k.Close ∷ []
small_flat = refl

-- a file's marker, category, mixin clause, categories and class side
around_flat : flat (p.unit_with true (Some (codes "c")) (p.class_with (named (codes "A") 3) None (Some (p.clause_with (record { origin = o.Super; name = named (codes "B") 6 }) (Some (record { origin = o.Outer (named (codes "C") 9); name = named (codes "D") 10 })) (Some (p.unary (named (codes "new") 11))))) p.no_bars nothing (p.side_with p.no_members (codes "t" ∷ [])) (p.class_side_with no_side)))
    ≡ k.Ident (codes "Newspeak3") ∷ k.Str (codes "c") ∷ k.Word r.Class ∷ k.Ident (codes "A") ∷ equals ∷ k.Word r.Super ∷ k.Ident (codes "B") ∷ k.Oper (codes "<:") ∷ k.Word r.Outer ∷ k.Ident (codes "C") ∷ k.Ident (codes "D") ∷ k.Ident (codes "new") ∷ k.Open ∷ k.Close ∷ k.Open ∷ k.Str (codes "t") ∷ k.Close ∷ k.Colon ∷ k.Open ∷ k.Close ∷ []
around_flat = refl

-- ---- the grammar

small_tree : Tree small
small_tree = record {
  depth = 0;
  given = search rules;
  told = (tt, ((refl, refl), ((codes "p", refl, refl), ((refl, refl), (refl, (tt, (refl, ((refl, refl), (refl, (refl, (search rules, (tt, (refl, (tt, (tt, (tt, (refl, ((refl, refl), (refl, (tt, (tt, ((refl, refl), ((refl, refl), (tt, ((refl, refl), (tt, (tt, tt)))))))))))))))))))))))))));
}

-- class A = () (class B = () () x = ([:a | | b | b] value: {1. 2.}))
abbrev nested : p.SourceUnit
nested = p.unit_with false None (p.class_with (named (codes "A") 1) None None p.no_bars nothing
    (p.side_with (p.more_members (p.member_with [] None (p.class_member (p.class_with (named (codes "B") 7) None None p.no_bars nothing no_side p.no_class_side)))
    (p.more_members (p.member_with [] None (p.method_member (p.method_with (p.pattern_with (named (codes "x") 13 ∷ []) []) p.no_bars
    (p.statements_with (p.more_statements (p.statement_with None (p.expr_with [] (p.sent
    (p.bin_with (p.un_with 16 (p.block_literal (p.block_with (named (codes "a") 18 ∷ []) (p.bars_around (p.more_slots (p.slot_with None (named (codes "b") 21) (p.bare false)) p.no_slots))
    (p.statements_with (p.more_statements (p.statement_with None (alone 23 (p.name (codes "b")))) p.no_statements) false))) []) p.no_opers)
    (p.more_keys (named (codes "value:") 25) (p.bin_with (p.un_with 26 (p.tuple (p.more_exprs (alone 27 (p.number false 1)) (p.more_exprs (alone 29 (p.number false 2)) p.no_exprs)) true) []) p.no_opers) p.no_keys)) p.no_messages)) p.no_statements) false))))
    p.no_members)) []) p.no_class_side)

nested_good : (file 1).Good 0 nested
nested_good = search rules

-- the place in a name, if there is one
abbrev place : Option Named → ℕ
place None = 0
place (Some name) = name.at

-- a class whose name has the number of its word isn't given
wrong_place : (file 1).Good 0 (p.unit_with false None (p.class_with (named (codes "A") 0) None None p.no_bars nothing no_side p.no_class_side)) → ⊥
wrong_place h = absurd (let e : 1 ≡ 0 = ap place h.1.1.1.0 in omega arith)

-- a binary message to the superclass isn't given
binary_super : (file 1).Good 0 (p.unit_with false None (p.class_with (named (codes "A") 1) None (Some (p.clause_with (record { origin = o.Here; name = named (codes "B") 3 }) None (Some (p.binary (named (codes "+") 4) (p.un_with 5 (p.name (codes "c")) []))))) p.no_bars nothing no_side p.no_class_side)) → ⊥
binary_super h = h.1.1.1.1.1.1.0.1.1

-- `class A` begins a file
front_of_name : Front (k.Word r.Class ∷ k.Ident (codes "A") ∷ [])
front_of_name = record {
  depth = 0;
  front = inr (false, _, tt, inr (None, _, tt, inr (tt, _, tt, inl (inr (named (codes "A") 1, refl, refl)), refl), refl), refl);
  told = (tt, ((refl, refl), tt));
}

-- the bracket that is one too many, and one that closes nothing
opened : ℕ → List Kind → List Kind
opened zero rest = rest
opened (suc n) rest = k.Open ∷ opened n rest

deep_100 : deep (opened 100 (k.Close ∷ k.OpenTuple ∷ [])) ≡ None
unfolding opened
deep_100 = refl

deep_101 : deep (k.Close ∷ opened 99 (k.OpenBlock ∷ k.Stop ∷ k.OpenTuple ∷ [])) ≡ Some 102
unfolding opened
deep_101 = refl
