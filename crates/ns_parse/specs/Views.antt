-- The plain forms of what functions on classes answer in pairs.
use Rattle.std.specs.Prelude.{Option, option_map}
use Rattle.std.specs.Global.{Vec}
use Rattle.ns_tree.specs.declared.tree.Named.{Named}
use Rattle.ns_tree.specs.Plain as p
use Rattle.ns_tree.specs.declared.tree.Access.{Access}
use Rattle.ns_tree.specs.declared.tree.Pattern.{Pattern}
use Rattle.ns_tree.specs.declared.tree.SuperClause.{SuperClause}
use Rattle.ns_tree.specs.declared.tree.Side.{Side}
use Rattle.ns_tree.specs.declared.tree.Slot.{Slot}
use Rattle.ns_tree.specs.declared.tree.Statements.{Statements}
use Rattle.ns_tree.specs.declared.tree.What.{What}
use Rattle.ns_tree.specs.PlainOf.{pattern_of, clause_of, bars_of, statements_of, what_of, side_of, class_side_of}
use Rattle.ns_parse.specs.declared.classes.Opening.{Opening}
use Rattle.ns_parse.specs.Classes.{ClassHead, MemberForm}

-- the name, the factory and the clause of a class
abbrev pub head_view : Named × Option Pattern × Option SuperClause → ClassHead
head_view x = (x.0, (option_map pattern_of x.1, option_map clause_of x.2))

-- slots and statements
abbrev pub body_view : Option (Vec Slot) × Statements → p.Bars × p.Statements
body_view x = (bars_of x.0, statements_of x.1)

-- a member, but for its categories
abbrev pub member_view : Option Access × What → MemberForm
member_view x = (x.0, what_of x.1)

-- what stands before the sides of a class
abbrev pub opening_view : Opening → ClassHead × (p.Bars × p.Statements)
opening_view x = (head_view x.head, body_view x.body)

-- the sides of a class
abbrev pub sides_view : Side × Option Side → p.Side × p.ClassSide
sides_view x = (side_of x.0, class_side_of x.1)
