use Rattle.std.proofs.Common.{arith, refl}
use Rattle.std.proofs.lemmas.Grind.{common_steps}
use Rattle.ns_tree.specs.PlainOf.{members_of, what_of}
use Rattle.ns_tree.specs.laws.Nodes.{class_out, side_out}
use Rattle.ns_resolved.specs.Classes as m
use Rattle.ns_gen_draft.specs.laws.Numbers.{loop_count}
use Rattle.ns_gen_records.proofs.members.+count.Goals as goal

pub count_class-returns : goal.count_class-returns
count_class-returns t c = rw (class_out c.args.class.now) (grind (arith, common_steps))

pub count_side-returns : goal.count_side-returns
count_side-returns t c = rw (side_out c.args.side.now) (grind (arith, common_steps))

pub count_members-loop-member-preserved : goal.count_members-loop-member-preserved
count_members-loop-member-preserved t c =
    let l = c.loop-member in
    loop_count (λ x. m.what_count (what_of x.what)) (λ xs. m.members_count (members_of xs)) (λ x xs. refl) l.count c.count_what.new.count l.member-index _
    c.args.members.now c.member-item.result c.loop-member-test.true c.member-item.is l.invariant c.in_ok-count_what.ensures
