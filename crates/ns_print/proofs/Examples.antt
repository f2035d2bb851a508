-- Worked examples of canonical texts.
use Rattle.std.proofs.Common.{◌≡◌, refl, ap, arith, ℕ, true, false, List, [], ◌∷◌, ◌++◌, Some, None}
use Rattle.std.proofs.lemmas.Fmt.{decimal_digit}
use Rattle.std.specs.Prelude.{codes}
use Rattle.ns_tree.specs.declared.tree.Named.{Named}
use Rattle.ns_tree.specs.declared.tree.Access.TheVariants as a
use Rattle.ns_tree.specs.declared.tree.Origin.TheVariants as o
use Rattle.ns_tree.specs.Flat.{flat, flat_expr}
use Rattle.ns_tree.specs.Plain as p
use Rattle.ns_print.specs.Printed.{printed}

abbrev named : List ℕ → Named
named text = record { text = text; at = 0 }

abbrev operand : p.Primary → p.UnExpr
operand primary = p.un_with 0 primary []

abbrev alone : p.Primary → p.Expr
alone primary = p.expr_with [] (p.sent (p.bin_with (operand primary) p.no_opers) p.no_keys) p.no_messages

abbrev nothing : p.Statements
nothing = p.statements_with p.no_statements false

quotes : printed (flat_expr (alone (p.string (codes "it's")))) ≡ codes "'it''s'\n"
quotes = refl

symbols : printed (flat_expr (alone (p.symbol (codes "at:put:")))) ≡ codes "#at:put:\n"
symbols = refl

minus : printed (flat_expr (alone (p.number true 7))) ≡ codes "- 7\n"
minus = ap (λ digits. codes "- " ++ (digits ++ codes "\n")) (decimal_digit 7 (omega arith))

-- a tuple, with a full stop behind its last element
tuples : printed (flat_expr (alone (p.tuple (p.more_exprs (alone p.nil_word) (p.more_exprs (alone (p.outer_name (named (codes "A")))) p.no_exprs)) true))) ≡ codes "{ nil .\nouter A .\n}\n"
tuples = refl

-- a set, a binary and a keyword message, and a cascade
messages : printed (flat_expr (p.expr_with (named (codes "x") ∷ [])
    (p.sent (p.bin_with (operand (p.name (codes "r"))) (p.more_opers (named (codes "<:")) (operand p.self_word) p.no_opers)) (p.more_keys (named (codes "n:")) (p.bin_with (operand p.false_word) p.no_opers) p.no_keys))
    (p.more_messages 0 (p.unary (named (codes "m"))) (p.more_messages 0 (p.binary (named (codes "+")) (operand (p.paren (alone p.super_word)))) p.no_messages))))
    ≡ codes "x:: r <: self n: false ; m ; + ( super )\n"
messages = refl

-- a block with a parameter and a local of each form
blocks : printed (flat_expr (alone (p.block_literal (p.block_with (named (codes "a") ∷ [])
    (p.bars_around (p.more_slots (p.slot_with None (named (codes "b")) (p.bare false)) (p.more_slots (p.slot_with None (named (codes "c")) (p.fixed (alone p.true_word))) (p.more_slots (p.slot_with None (named (codes "d")) (p.mutable (alone p.nil_word))) p.no_slots))))
    (p.statements_with (p.more_statements (p.statement_with (Some 0) (alone (p.name (codes "a")))) p.no_statements) true)))))
    ≡ codes "[ : a | | b c = true .\nd ::= nil .\n| ^ a .\n]\n"
blocks = refl

-- a class in a class, with categories, a mixin clause and a class side
around : printed (flat (p.unit_with true (Some (codes "C")) (p.class_with (named (codes "A")) None None (p.bars_around p.no_slots) nothing
    (p.side_with (p.more_members (p.member_with (codes "c" ∷ []) (Some a.Private) (p.class_member (p.class_with (named (codes "In")) None
    (Some (p.clause_with (record { origin = o.Super; name = named (codes "B") }) (Some (record { origin = o.Outer (named (codes "C")); name = named (codes "D") })) (Some (p.unary (named (codes "new")))))) p.no_bars nothing (p.side_with p.no_members []) p.no_class_side))) p.no_members) (codes "t" ∷ []))
    (p.class_side_with (p.side_with (p.more_members (p.member_with [] (Some a.Protected) (p.method_member (p.method_with (p.pattern_with (named (codes "+") ∷ []) (named (codes "a") ∷ [])) p.no_bars nothing))) p.no_members) [])))))
    ≡ codes "Newspeak3 'C' class A = ( | | ) ( 'c' private class In = super B <: outer C D new ( ) ( ) 't' ) : ( protected + a = ( ) )\n"
around = refl
