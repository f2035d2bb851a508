use Rattle.std.proofs.Common.{length, refl}
use Rattle.ns_tree.specs.PlainOf.{members_of, what_of}
use Rattle.ns_scope.specs.Bodies as b
use Rattle.ns_resolved.specs.Classes as m
use Rattle.ns_gen_draft.specs.Standing.{around_of}
use Rattle.ns_gen_draft.specs.laws.Numbers.{loop_number}
use Rattle.ns_gen.proofs.Onward.{loop_put}
use Rattle.ns_gen.proofs.bodies.put_methods.Goals as goal

pub loop-member-preserved : goal.loop-member-preserved
loop-member-preserved c =
    let around = around_of c.args.around.now in
    let side = c.args.side in
    let l = c.loop-member in (
      loop_put (λ n x. m.what_methods around side c.args.number n (what_of x.what)) (λ x. length (b.member_methods around.classes side (what_of x.what)))
          (λ n xs. m.members_methods around side c.args.number n (members_of xs)) (λ n x xs. refl)
          l.next c.put_member_method.new.next l.member-index c.args.members.now c.member-item.result l.output c.put_member_method.new.output _
          c.loop-member-test.true c.member-item.is l.invariant.0 c.in_ok-put_member_method.ensures.put c.in_ok-put_member_method.ensures.next,
      loop_number (λ x. b.member_methods around.classes side (what_of x.what)) (λ xs. b.methods_bodies around.classes side (members_of xs)) (λ x xs. refl)
          l.next c.put_member_method.new.next l.member-index _ c.args.members.now c.member-item.result c.loop-member-test.true c.member-item.is
          l.invariant.1 c.in_ok-put_member_method.ensures.next,
    )
