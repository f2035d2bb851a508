use Rattle.std.proofs.Common.{◌∙◌, ◌∷◌, length, ap, refl}
use Rattle.ns_tree.specs.PlainOf.{members_of, member_of}
use Rattle.ns_tree.specs.laws.Nodes.{side_out}
use Rattle.ns_scope.specs.Bodies as b
use Rattle.ns_resolved.specs.Classes as m
use Rattle.ns_gen_draft.specs.Standing.{around_of}
use Rattle.ns_gen_draft.specs.laws.Numbers.{loop_count, loop_number}
use Rattle.ns_gen_records.proofs.Parts.{loop_listed, class_listed, class_number, class_counted}
use Rattle.ns_gen_records.proofs.declared.+declared.Goals as goal

pub put_nested-returns-clause-put : goal.put_nested-returns-clause-put
put_nested-returns-clause-put t c = rw (side_out c.args.side.now) (rw c.deref.ensures.value at c.in_ok-put_members.ensures.put)

pub put_nested-returns-clause-number : goal.put_nested-returns-clause-number
put_nested-returns-clause-number t c = rw (side_out c.args.side.now) (rw c.deref.ensures.value at c.in_ok-put_members.ensures.number)

pub put_nested-returns-clause-next : goal.put_nested-returns-clause-next
put_nested-returns-clause-next t c = rw (side_out c.args.side.now) (rw c.deref.ensures.value at c.in_ok-put_members.ensures.next)

pub put_members-loop-member-preserved : goal.put_members-loop-member-preserved
put_members-loop-member-preserved t c =
    let around = around_of c.args.around.now in
    let l = c.loop-member in (
      loop_listed (λ i n x. m.member_declared around i n (member_of x)) (λ x. m.member_count (member_of x))
          (λ x. length (b.member_nested around.classes (member_of x))) (λ i n xs. m.members_declared around i n (members_of xs)) (λ i n x xs. refl)
          l.number c.put_member.new.number l.next c.put_member.new.next l.member-index c.args.members.now c.member-item.result l.all.items
          c.put_member.new.all.items _ c.loop-member-test.true c.member-item.is l.invariant.0 c.in_ok-put_member.ensures.put
          c.in_ok-put_member.ensures.number c.in_ok-put_member.ensures.next,
      loop_count (λ x. m.member_count (member_of x)) (λ xs. m.members_count (members_of xs)) (λ x xs. refl)
          l.number c.put_member.new.number l.member-index _ c.args.members.now c.member-item.result c.loop-member-test.true c.member-item.is
          l.invariant.1 c.in_ok-put_member.ensures.number,
      loop_number (λ x. b.member_nested around.classes (member_of x)) (λ xs. b.members_bodies around.classes (members_of xs)) (λ x xs. refl)
          l.next c.put_member.new.next l.member-index _ c.args.members.now c.member-item.result c.loop-member-test.true c.member-item.is
          l.invariant.2 c.in_ok-put_member.ensures.next,
    )

pub put_class-returns-clause-put : goal.put_class-returns-clause-put
put_class-returns-clause-put t c =
    class_listed (around_of c.args.around.now) c.args.number.now c.advance.new.number c.args.next.now c.count_clause.new.count c.declaration.new.next
    c.args.class.now c.in_ok-classes.classes c.in_ok-made.made c.args.all.now.items c.put_made.new.all.items c.put_nested.new.all.items
    (c.in_ok-classes.ensures ∙ ap (λ s. s ∷ c.args.around.now.classes.now) c.in_ok-scope.ensures) c.in_ok-count_clause.ensures
    (rw c.clause_number-clause.ensures at c.in_ok-made.ensures.made) c.in_ok-made.ensures.next c.in_ok-advance.ensures c.in_ok-put_made.ensures
    c.in_ok-put_nested.ensures.put

pub put_class-returns-clause-number : goal.put_class-returns-clause-number
put_class-returns-clause-number t c =
    class_counted c.args.number.now c.advance.new.number c.put_nested.new.number c.args.class.now c.in_ok-advance.ensures c.in_ok-put_nested.ensures.number

pub put_class-returns-clause-next : goal.put_class-returns-clause-next
put_class-returns-clause-next t c =
    class_number c.args.around.now.classes.now c.in_ok-classes.classes c.args.next.now c.count_clause.new.count c.declaration.new.next
    c.put_nested.new.next c.args.class.now (c.in_ok-classes.ensures ∙ ap (λ s. s ∷ c.args.around.now.classes.now) c.in_ok-scope.ensures)
    c.in_ok-count_clause.ensures c.in_ok-made.ensures.next c.in_ok-put_nested.ensures.next
