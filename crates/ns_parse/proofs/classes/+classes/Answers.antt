use Rattle.std.proofs.Common.{◌∷◌, [], map, sym, ap, ◌∙◌, arith}
use Rattle.std.proofs.lemmas.List.{map-append}
use Rattle.ns_tree.specs.PlainOf.{side_of}
use Rattle.ns_parse.specs.Classes as x
use Rattle.ns_parse_exprs.specs.Expressions.{primary}
use Rattle.ns_parse_tokens.specs.Leaf.{strings}
use Rattle.ns_parse.specs.Views.{member_view}
use Rattle.ns_parse.proofs.Labels.{labels_on, labels_end, member_pair, side_same}
use Rattle.ns_parse_tokens.specs.laws.Takes.{fewer, left_by}
use Rattle.ns_parse.specs.laws.TakesClasses.{takes_member}
use Rattle.ns_parse_tokens.specs.laws.TakesTokens.{takes_strings}
use Rattle.ns_parse.proofs.classes.+classes.Goals as goal

pub members-items-preserved : goal.members-items-preserved
members-items-preserved t c =
    labels_on strings (x.starts_member c.args.side) (x.member (primary c.args.depth) (x.what (primary c.args.depth) c.args.nesting) c.args.side) (map member_pair c.items.items.items) (map member_pair c.push.new.self.items)
    c.items.categories.items c.items.tokens _ _ (member_view (c.in_ok-access.access, c.in_ok-access.what)) c.member.new.tokens c.in-Ok.more.items c.strings-in-items.new.tokens takes_strings (takes_member c.args.depth c.args.nesting c.args.side)
    c.items.invariant (sym c.sees_member.ensures ∙ c.items-test.true) c.in_ok-access.ensures c.in-Ok.ensures
    (ap (map member_pair) c.in_ok-push-in-Ok.ensures.items ∙ map-append member_pair c.items.items.items (record { categories = c.items.categories; access = c.in_ok-access.access; what = c.in_ok-access.what } ∷ []))

pub members-items-smaller : goal.members-items-smaller
members-items-smaller t c =
    omega (
      arith,
      fewer (x.member (primary c.args.depth) (x.what (primary c.args.depth) c.args.nesting) c.args.side) c.items.tokens c.member.new.tokens (member_view (c.in_ok-access.access, c.in_ok-access.what)) (takes_member c.args.depth c.args.nesting c.args.side) c.in_ok-access.ensures,
      left_by 0 strings c.member.new.tokens.at c.member.new.tokens.kinds c.in-Ok.more.items c.strings-in-items.new.tokens.at c.strings-in-items.new.tokens.kinds takes_strings c.in-Ok.ensures,
    )

pub members-returns : goal.members-returns
members-returns t c =
    labels_end strings (x.starts_member c.args.side) (x.member (primary c.args.depth) (x.what (primary c.args.depth) c.args.nesting) c.args.side) x.side_from (map member_pair c.items.items.items)
    c.items.categories.items c.items.tokens _ _ c.args.tokens.now (side_of c.side.result)
    c.in_ok-categories.ensures c.items.invariant (sym c.sees_member.ensures ∙ c.items-test.false) (c.side.ensures ∙ side_same c.items.items.items c.items.categories.items)
