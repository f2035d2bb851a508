-- Classes, their members, and the file: a reader for each rule of the grammar, over the reader of primaries.
use Rattle.std.specs.Prelude.{ℕ, zero, suc, List, Option, Some, None, Bool, ◌||◌}
use Rattle.ns_tree.specs.declared.token.Kind.{Kind}
use Rattle.ns_tree.specs.declared.tree.Named.{Named}
use Rattle.ns_tree.specs.declared.tree.Access.{Access}
use Rattle.ns_tree.specs.declared.tree.Base.{Base}
use Rattle.ns_tree.specs.Plain as p
use Rattle.ns_tree.specs.Made.{made_clause, made_unit, made_method}
use Rattle.ns_parse.specs.declared.classes.SideOf.{SideOf}
use Rattle.ns_parse.specs.declared.classes.SideOf.TheVariants as sides
use Rattle.ns_parse_exprs.specs.declared.expressions.Holder.{Holder}
use Rattle.ns_parse_exprs.specs.declared.expressions.Holder.TheVariants as h
use Rattle.ns_parse_tokens.specs.declared.mark.Mark.TheVariants as m
use Rattle.ns_parse_tokens.specs.declared.name.Sort.TheVariants as s
use Rattle.ns_parse_tokens.specs.declared.name.Operators.TheVariants as o
use Rattle.ns_parse_tokens.specs.Read.{Reader, read_none, read_mapped, read_both, read_after, read_until, read_or, read_maybe, read_labelled, Labelled, tail, item}
use Rattle.ns_parse_tokens.specs.Mark.{is_mark, skip, flag}
use Rattle.ns_parse_tokens.specs.Name.{is_name, name}
use Rattle.ns_parse_tokens.specs.Leaf.{maybe_access, is_access, is_string, string, strings}
use Rattle.ns_parse_tokens.specs.Pattern.{pattern, factory, base, starts_base}
use Rattle.ns_parse_exprs.specs.Expressions.{keys, bars, statements, primary}

-- ---- trees from their parts

-- a member, but for its categories
abbrev pub MemberForm : Type 0
MemberForm = Option Access × p.What

abbrev pub members_from : Labelled (List (List ℕ)) MemberForm → p.Members
members_from (tail categories) = p.no_members
members_from (item categories x rest) = p.more_members (p.member_with categories x.0 x.1) (members_from rest)

-- the categories behind the last member
abbrev pub tail_from : Labelled (List (List ℕ)) MemberForm → List (List ℕ)
tail_from (tail categories) = categories
tail_from (item categories x rest) = tail_from rest

abbrev pub side_from : Labelled (List (List ℕ)) MemberForm → p.Side
side_from l = p.side_with (members_from l) (tail_from l)

-- what stands before the initialiser of a class: its name, its factory and its superclass clause
abbrev pub ClassHead : Type 0
ClassHead = Named × (Option p.Pattern × Option p.SuperClause)

abbrev pub class_from : (ClassHead × (p.Bars × p.Statements)) × (p.Side × p.ClassSide) → p.Class
class_from x = p.class_with x.0.0.0 x.0.0.1.0 x.0.0.1.1 x.0.1.0 x.0.1.1 x.1.0 x.1.1

-- ---- what begins a member

abbrev pub starts_pattern : Kind → Bool
starts_pattern kind = is_name s.Ident kind || (is_name s.Key kind || is_name (s.Operator o.All) kind)

-- An instance side has classes and methods, a class side methods alone.
abbrev pub starts_what : SideOf → Kind → Bool
starts_what sides.Instance kind = is_mark m.ClassWord kind || starts_pattern kind
starts_what sides.ClassObject kind = starts_pattern kind

abbrev pub starts_member : SideOf → Kind → Bool
starts_member side kind = is_access kind || starts_what side kind

-- ---- the readers

-- `<:` and a base, or nothing
abbrev pub over : Reader (Option Base)
over = read_maybe (is_mark m.Over) (read_after (skip m.Over) base)

-- a file's category, or nothing
abbrev pub category : Reader (Option (List ℕ))
category = read_maybe is_string string

module _ (primary : Reader p.Primary) where
  -- the message to the superclass, if there is one: a name, or keys
  unfoldable pub super_message : Reader (Option p.Message)
  super_message =
      read_or (is_name s.Ident) (read_mapped (λ n. Some (p.unary n)) (name s.Ident))
      (read_or (is_name s.Key) (read_mapped (λ ks. Some (p.keywords ks)) (keys primary o.All)) (read_none None))

  unfoldable pub clause : Reader p.SuperClause
  clause = read_mapped made_clause (read_both base (read_both over super_message))

  -- slots and statements between parentheses
  unfoldable pub body : Holder → Reader (p.Bars × p.Statements)
  body holder = read_after (skip m.Open) (read_until (read_both (bars primary holder) (statements primary)) (skip m.Close))

  unfoldable pub method : Reader p.Method
  method = read_mapped made_method (read_both pattern (read_after (skip m.Equals) (body h.Code)))

  abbrev pub method_member : Reader p.What
  method_member = read_mapped p.method_member method

  -- an equals sign and a superclass clause, if there is one
  abbrev pub equals_clause : Reader (Option p.SuperClause)
  equals_clause = read_after (skip m.Equals) (read_maybe starts_base clause)

  unfoldable pub head : Reader ClassHead
  head = read_after (skip m.ClassWord) (read_both (name s.Ident) (read_both factory equals_clause))

  -- what stands before the sides of a class
  abbrev pub class_opening : Reader (ClassHead × (p.Bars × p.Statements))
  class_opening = read_both head (body h.Object)

  -- over the members of an instance side
  module _ (what : Reader p.What) where
    -- what a member of that side is
    abbrev pub what_of : SideOf → Reader p.What
    what_of sides.Instance = what
    what_of sides.ClassObject = method_member

    abbrev pub member : SideOf → Reader MemberForm
    member side = read_both maybe_access (what_of side)

    -- members with their categories, and the categories behind the last
    abbrev pub members : SideOf → Reader p.Side
    members side = read_mapped side_from (read_labelled strings (starts_member side) (member side))

    unfoldable pub side : SideOf → Reader p.Side
    side of = read_after (skip m.Open) (read_until (members of) (skip m.Close))

    -- a colon and a class side, or nothing
    unfoldable pub class_side : Reader p.ClassSide
    class_side = read_or (is_mark m.Colon) (read_mapped p.class_side_with (read_after (skip m.Colon) (side sides.ClassObject))) (read_none p.no_class_side)

    -- the side of the instances, and that of the class, if it is there
    abbrev pub both_sides : Reader (p.Side × p.ClassSide)
    both_sides = read_both (side sides.Instance) class_side

    unfoldable pub class : Reader p.Class
    class = read_mapped class_from (read_both class_opening both_sides)

    unfoldable pub class_or_method : Reader p.What
    class_or_method = read_or (is_mark m.ClassWord) (read_mapped p.class_member class) method_member

  -- members of an instance side in which so many classes nest
  unfoldable pub what : ℕ → Reader p.What
  what zero = method_member
  what (suc depth) = class_or_method (what depth)

-- a file in which so many brackets, and so many classes, nest
unfoldable pub file : ℕ → Reader p.SourceUnit
file depth = read_mapped made_unit (read_both (flag m.Newspeak3) (read_both category (class (primary depth) (what (primary depth) depth))))
