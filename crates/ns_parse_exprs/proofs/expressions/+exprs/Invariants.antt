use Rattle.std.proofs.Common.{◌+◌, ◌*◌, length, map}
use Rattle.ns_tree.specs.PlainOf.{expr_of, slot_of, statement_of}
use Rattle.ns_parse_tokens.specs.Mark.{is_mark}
use Rattle.ns_parse_tokens.specs.Name.{is_name}
use Rattle.ns_parse_exprs.specs.Views.{oper_view, key_view, cascaded_view}
use Rattle.ns_parse_exprs.specs.Expressions as x
use Rattle.ns_parse_tokens.specs.declared.mark.Mark.TheVariants as mark
use Rattle.ns_parse_tokens.specs.declared.name.Sort.TheVariants as sort
use Rattle.ns_parse_tokens.specs.declared.name.Operators.TheVariants.{All}
use Rattle.ns_parse_exprs.proofs.Lists.{Lists}
use Rattle.ns_parse_tokens.specs.laws.Loops.{Goes}
use Rattle.ns_parse_exprs.proofs.expressions.+exprs.Given as goal

abbrev pub decreases-primary : goal.decreases-primary
decreases-primary l = 32 * l.depth + 0

abbrev pub decreases-un : goal.decreases-un
decreases-un l = 32 * l.depth + 1

abbrev pub decreases-oper : goal.decreases-oper
decreases-oper l = 32 * l.depth + 2

abbrev pub decreases-opers : goal.decreases-opers
decreases-opers l = 32 * l.depth + 3

abbrev pub decreases-bin : goal.decreases-bin
decreases-bin l = 32 * l.depth + 4

abbrev pub decreases-key : goal.decreases-key
decreases-key l = 32 * l.depth + 5

abbrev pub decreases-keys : goal.decreases-keys
decreases-keys l = 32 * l.depth + 6

abbrev pub decreases-key_expr : goal.decreases-key_expr
decreases-key_expr l = 32 * l.depth + 7

abbrev pub decreases-message : goal.decreases-message
decreases-message l = 32 * l.depth + 8

abbrev pub decreases-cascaded : goal.decreases-cascaded
decreases-cascaded l = 32 * l.depth + 9

abbrev pub decreases-cascade : goal.decreases-cascade
decreases-cascade l = 32 * l.depth + 10

abbrev pub decreases-expr : goal.decreases-expr
decreases-expr l = 32 * l.depth + 11

abbrev pub decreases-value : goal.decreases-value
decreases-value l = 32 * l.depth + 12

abbrev pub decreases-init : goal.decreases-init
decreases-init l = 32 * l.depth + 13

abbrev pub decreases-slot : goal.decreases-slot
decreases-slot l = 32 * l.depth + 14

abbrev pub decreases-slots : goal.decreases-slots
decreases-slots l = 32 * l.depth + 15

abbrev pub decreases-bars : goal.decreases-bars
decreases-bars l = 32 * l.depth + 16

abbrev pub decreases-statement : goal.decreases-statement
decreases-statement l = 32 * l.depth + 17

abbrev pub decreases-statements : goal.decreases-statements
decreases-statements l = 32 * l.depth + 18

abbrev pub decreases-tuple_items : goal.decreases-tuple_items
decreases-tuple_items l = 32 * l.depth + 19

abbrev pub decreases-block : goal.decreases-block
decreases-block l = 32 * l.depth + 20

abbrev pub decreases-paren : goal.decreases-paren
decreases-paren l = 32 * l.depth + 21

abbrev pub decreases-block_literal : goal.decreases-block_literal
decreases-block_literal l = 32 * l.depth + 22

abbrev pub decreases-tuple : goal.decreases-tuple
decreases-tuple l = 32 * l.depth + 23

abbrev pub decreases-bracketed : goal.decreases-bracketed
decreases-bracketed l = 32 * l.depth + 24

abbrev pub decreases-any_primary : goal.decreases-any_primary
decreases-any_primary l = 32 * l.depth + 25

abbrev pub invariant-opers-items : goal.invariant-opers-items
invariant-opers-items l = Goes (is_name (sort.Operator l.operators)) (x.oper (x.primary l.depth) l.operators) (map oper_view l.items.items) l.tokens l.fn.tokens

abbrev pub decreases-opers-items : goal.decreases-opers-items
decreases-opers-items l = length l.tokens.kinds

abbrev pub invariant-cascade-items : goal.invariant-cascade-items
invariant-cascade-items l = Goes (is_mark mark.Semi) (x.cascaded (x.primary l.depth) l.operators) (map cascaded_view l.items.items) l.tokens l.fn.tokens

abbrev pub decreases-cascade-items : goal.decreases-cascade-items
decreases-cascade-items l = length l.tokens.kinds

abbrev pub invariant-slots-items : goal.invariant-slots-items
invariant-slots-items l = Goes (x.starts_slot l.holder) (x.slot (x.primary l.depth) l.holder) (map slot_of l.items.items) l.tokens l.fn.tokens

abbrev pub decreases-slots-items : goal.decreases-slots-items
decreases-slots-items l = length l.tokens.kinds

abbrev pub invariant-statements-items : goal.invariant-statements-items
invariant-statements-items l = Lists x.starts_statement mark.Stop (x.statement (x.primary l.depth)) (map statement_of l.items.items) l.tokens l.fn.tokens

abbrev pub decreases-statements-items : goal.decreases-statements-items
decreases-statements-items l = length l.tokens.kinds

abbrev pub invariant-tuple_items-items : goal.invariant-tuple_items-items
invariant-tuple_items-items l = Lists x.starts_expr mark.Stop (x.expr (x.primary l.depth) All) (map expr_of l.items.items) l.tokens l.fn.tokens

abbrev pub decreases-tuple_items-items : goal.decreases-tuple_items-items
decreases-tuple_items-items l = length l.tokens.kinds

abbrev pub invariant-keys-items : goal.invariant-keys-items
invariant-keys-items l = Goes (is_name sort.Key) (x.key (x.primary l.depth) l.operators) (map key_view l.items.items) l.tokens l.fn.tokens

abbrev pub decreases-keys-items : goal.decreases-keys-items
decreases-keys-items l = length l.tokens.kinds
