-- How many tokens the readers of classes take at least.
use Rattle.std.proofs.Common.{ℕ, zero, suc, None}
use Rattle.ns_tree.specs.Plain as p
use Rattle.ns_parse.specs.declared.classes.SideOf.{SideOf}
use Rattle.ns_parse.specs.declared.classes.SideOf.TheVariants as sides
use Rattle.ns_parse_exprs.specs.declared.expressions.Holder.{Holder}
use Rattle.ns_parse_exprs.specs.declared.expressions.Holder.TheVariants as h
use Rattle.ns_parse_tokens.specs.declared.mark.Mark.TheVariants as m
use Rattle.ns_parse_tokens.specs.declared.name.Sort.TheVariants as s
use Rattle.ns_parse_tokens.specs.declared.name.Operators.TheVariants as o
use Rattle.ns_parse.specs.Classes as c
use Rattle.ns_parse_exprs.specs.Expressions as x
use Rattle.ns_parse_tokens.specs.Mark.{is_mark}
use Rattle.ns_parse_tokens.specs.Name.{is_name}
use Rattle.ns_parse_tokens.specs.Pattern.{starts_base}
use Rattle.ns_parse_tokens.specs.Read.{Reader}
use Rattle.ns_parse_tokens.specs.laws.Takes.{Takes, takes_none, takes_some, takes_any, takes_mapped, takes_both, takes_after, takes_until, takes_or, takes_maybe, takes_labelled}
use Rattle.ns_parse_tokens.specs.laws.TakesTokens.{takes_skip, takes_name, takes_strings, takes_access, takes_pattern, takes_factory, takes_base}
use Rattle.ns_parse_exprs.specs.laws.TakesPhrases.{keys_take, takes_bars, takes_statements, takes_primary}

module _ (primary : Reader p.Primary) (P : Takes 1 primary) where
  takes_message_to_super : Takes 0 (c.super_message primary)
  unfolding c.super_message
  takes_message_to_super =
      takes_or (is_name s.Ident) (takes_any (takes_mapped _ (takes_name s.Ident)))
      (takes_or (is_name s.Key) (takes_mapped _ (keys_take primary P o.All)) (takes_none None))

  takes_clause : Takes 1 (c.clause primary)
  unfolding c.clause
  takes_clause = takes_mapped _ (takes_both takes_base (takes_both (takes_maybe (is_mark m.Over) (takes_after (takes_skip m.Over) takes_base)) takes_message_to_super))

  takes_body : (holder : Holder) → Takes 2 (c.body primary holder)
  unfolding c.body
  takes_body holder = takes_after (takes_skip m.Open) (takes_until (takes_both (takes_bars primary P holder) (takes_statements primary P)) (takes_skip m.Close))

  takes_method_member : Takes 1 (c.method_member primary)
  unfolding c.method
  takes_method_member = takes_some (takes_mapped _ (takes_mapped _ (takes_both takes_pattern (takes_after (takes_skip m.Equals) (takes_body h.Code)))))

  takes_head : Takes 3 (c.head primary)
  unfolding c.head
  takes_head = takes_after (takes_skip m.ClassWord) (takes_both (takes_name s.Ident) (takes_both takes_factory (takes_after (takes_skip m.Equals) (takes_maybe starts_base takes_clause))))

  module _ (what : Reader p.What) (W : Takes 1 what) where
    takes_what_of : (side : SideOf) → Takes 1 (c.what_of primary what side)
    takes_what_of sides.Instance = W
    takes_what_of sides.ClassObject = takes_method_member

    pub member_takes : (side : SideOf) → Takes 1 (c.member primary what side)
    member_takes side = takes_both takes_access (takes_what_of side)

    takes_side : (side : SideOf) → Takes 2 (c.side primary what side)
    unfolding c.side
    takes_side side = takes_after (takes_skip m.Open) (takes_until (takes_mapped _ (takes_labelled (c.starts_member side) takes_strings (takes_any (member_takes side)))) (takes_skip m.Close))

    takes_class_side : Takes 0 (c.class_side primary what)
    unfolding c.class_side
    takes_class_side = takes_or (is_mark m.Colon) (takes_any (takes_mapped _ (takes_after (takes_skip m.Colon) (takes_side sides.ClassObject)))) (takes_none _)

    takes_class : Takes 7 (c.class primary what)
    unfolding c.class
    takes_class = takes_mapped _ (takes_both (takes_both takes_head (takes_body h.Object)) (takes_both (takes_side sides.Instance) takes_class_side))

    takes_class_or_method : Takes 1 (c.class_or_method primary what)
    unfolding c.class_or_method
    takes_class_or_method = takes_or (is_mark m.ClassWord) (takes_some (takes_mapped _ takes_class)) takes_method_member

  takes_what : (nesting : ℕ) → Takes 1 (c.what primary nesting)
  unfolding c.what
  takes_what zero = takes_method_member
  takes_what (suc nesting) = takes_class_or_method (c.what primary nesting) (takes_what nesting)

-- within so many brackets and classes
pub takes_member : (depth nesting : ℕ) (side : SideOf) → Takes 1 (c.member (x.primary depth) (c.what (x.primary depth) nesting) side)
takes_member depth nesting = member_takes (x.primary depth) (takes_primary depth) (c.what (x.primary depth) nesting) (takes_what (x.primary depth) (takes_primary depth) nesting)
