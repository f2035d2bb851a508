use Rattle.std.proofs.Common.{◌∙◌, ◌∷◌, length, ap, refl}
use Rattle.ns_tree.specs.PlainOf.{members_of, member_of}
use Rattle.ns_tree.specs.laws.Nodes.{side_out}
use Rattle.ns_scope.specs.Bodies as b
use Rattle.ns_resolved.specs.Classes as m
use Rattle.ns_gen_draft.specs.Standing.{around_of}
use Rattle.ns_gen_draft.specs.laws.Numbers.{loop_count, loop_number}
use Rattle.ns_gen.proofs.Onward.{loop_put_numbered}
use Rattle.ns_gen.proofs.Declarations.{class_put, class_number, inside_put, inside_number, inside_classes}
use Rattle.ns_gen.proofs.bodies.+bodies.Goals as goal

pub put_class-returns-clause-put : goal.put_class-returns-clause-put
put_class-returns-clause-put t c =
    class_put (around_of c.args.around.now) c.args.number.now c.args.next.now c.put_clause.new.next c.args.class.now c.in_ok-classes.classes
    c.args.output.now c.put_clause.new.output c.put_inside.new.output c.in_ok-put_clause.ensures.put c.in_ok-put_clause.ensures.next
    (c.in_ok-classes.ensures ∙ ap (λ s. s ∷ c.args.around.now.classes.now) c.in_ok-scope.ensures) c.in_ok-put_inside.ensures.put

pub put_class-returns-clause-next : goal.put_class-returns-clause-next
put_class-returns-clause-next t c =
    class_number c.args.around.now.classes.now c.in_ok-classes.classes c.args.next.now c.put_clause.new.next c.put_inside.new.next c.args.class.now
    c.in_ok-put_clause.ensures.next (c.in_ok-classes.ensures ∙ ap (λ s. s ∷ c.args.around.now.classes.now) c.in_ok-scope.ensures)
    c.in_ok-put_inside.ensures.next

pub put_inside-returns-clause-put : goal.put_inside-returns-clause-put
put_inside-returns-clause-put t c =
    inside_put (around_of c.args.around.now) c.args.number.now c.advance.new.number c.args.next.now c.put_own.new.next c.args.class.now
    c.args.output.now c.put_own.new.output c.put_nested.new.output c.in_ok-put_own.ensures.put c.in_ok-put_own.ensures.next
    c.in_ok-advance.ensures c.in_ok-put_nested.ensures.put

pub put_inside-returns-clause-number : goal.put_inside-returns-clause-number
put_inside-returns-clause-number t c =
    inside_classes c.args.number.now c.advance.new.number c.put_nested.new.number c.args.class.now c.in_ok-advance.ensures c.in_ok-put_nested.ensures.number

pub put_inside-returns-clause-next : goal.put_inside-returns-clause-next
put_inside-returns-clause-next t c =
    inside_number c.args.around.now.classes.now c.args.next.now c.put_own.new.next c.put_nested.new.next c.args.class.now
    c.in_ok-put_own.ensures.next c.in_ok-put_nested.ensures.next

pub put_nested-returns-clause-put : goal.put_nested-returns-clause-put
put_nested-returns-clause-put t c = rw (side_out c.args.side.now) (rw c.deref.ensures.value at c.in_ok-put_members.ensures.put)

pub put_nested-returns-clause-number : goal.put_nested-returns-clause-number
put_nested-returns-clause-number t c = rw (side_out c.args.side.now) (rw c.deref.ensures.value at c.in_ok-put_members.ensures.number)

pub put_nested-returns-clause-next : goal.put_nested-returns-clause-next
put_nested-returns-clause-next t c = rw (side_out c.args.side.now) (rw c.deref.ensures.value at c.in_ok-put_members.ensures.next)

pub put_members-loop-member-preserved : goal.put_members-loop-member-preserved
put_members-loop-member-preserved t c =
    let around = around_of c.args.around.now in
    let l = c.loop-member in (
      loop_put_numbered (λ i n x. m.member_bodies around i n (member_of x)) (λ x. m.member_count (member_of x))
          (λ x. length (b.member_nested around.classes (member_of x))) (λ i n xs. m.members_bodies around i n (members_of xs)) (λ i n x xs. refl)
          l.number c.put_member.new.number l.next c.put_member.new.next l.member-index c.args.members.now c.member-item.result l.output
          c.put_member.new.output _ c.loop-member-test.true c.member-item.is l.invariant.0 c.in_ok-put_member.ensures.put
          c.in_ok-put_member.ensures.number c.in_ok-put_member.ensures.next,
      loop_count (λ x. m.member_count (member_of x)) (λ xs. m.members_count (members_of xs)) (λ x xs. refl)
          l.number c.put_member.new.number l.member-index _ c.args.members.now c.member-item.result c.loop-member-test.true c.member-item.is
          l.invariant.1 c.in_ok-put_member.ensures.number,
      loop_number (λ x. b.member_nested around.classes (member_of x)) (λ xs. b.members_bodies around.classes (members_of xs)) (λ x xs. refl)
          l.next c.put_member.new.next l.member-index _ c.args.members.now c.member-item.result c.loop-member-test.true c.member-item.is
          l.invariant.2 c.in_ok-put_member.ensures.next,
    )
