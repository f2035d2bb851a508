use Rattle.std.proofs.Common.{◌+◌, ◌*◌, length, map}
use Rattle.ns_parse.specs.Classes as x
use Rattle.ns_parse_exprs.specs.Expressions.{primary}
use Rattle.ns_parse_tokens.specs.Leaf.{strings}
use Rattle.ns_parse.proofs.Labels.{Labels, member_pair}
use Rattle.ns_parse.proofs.classes.+classes.Given as goal

abbrev pub decreases-what : goal.decreases-what
decreases-what l = 16 * l.nesting + 0

abbrev pub decreases-what_of : goal.decreases-what_of
decreases-what_of l = 16 * l.nesting + 1

abbrev pub decreases-member : goal.decreases-member
decreases-member l = 16 * l.nesting + 2

abbrev pub decreases-members : goal.decreases-members
decreases-members l = 16 * l.nesting + 3

abbrev pub decreases-side : goal.decreases-side
decreases-side l = 16 * l.nesting + 4

abbrev pub decreases-class_side : goal.decreases-class_side
decreases-class_side l = 16 * l.nesting + 5

abbrev pub decreases-both_sides : goal.decreases-both_sides
decreases-both_sides l = 16 * l.nesting + 6

abbrev pub decreases-class : goal.decreases-class
decreases-class l = 16 * l.nesting + 7

abbrev pub decreases-class_or_method : goal.decreases-class_or_method
decreases-class_or_method l = 16 * l.nesting + 8

abbrev pub invariant-members-items : goal.invariant-members-items
invariant-members-items l =
    Labels strings (x.starts_member l.side) (x.member (primary l.depth) (x.what (primary l.depth) l.nesting) l.side) (map member_pair l.items.items) l.categories.items l.tokens l.initial.categories.items l.initial.tokens

abbrev pub decreases-members-items : goal.decreases-members-items
decreases-members-items l = length l.tokens.kinds
