use Rattle.std.proofs.Common.{length, refl}
use Rattle.ns_tree.specs.PlainOf.{members_of, what_of}
use Rattle.ns_scope.specs.Bodies as b
use Rattle.ns_scope.specs.Names.{access_or}
use Rattle.ns_resolved.specs.Classes as m
use Rattle.ns_gen_draft.specs.Standing.{around_of}
use Rattle.ns_gen_draft.specs.laws.Numbers.{loop_number}
use Rattle.ns_gen_records.proofs.Parts.{loop_listed}
use Rattle.ns_gen_records.proofs.members.put_methods.Goals as goal

pub loop-member-preserved : goal.loop-member-preserved
loop-member-preserved c =
    let around = around_of c.args.around.now in
    let side = c.args.side in
    let l = c.loop-member in (
      loop_listed (λ i n x. m.what_listed n (access_or c.args.other x.access) (what_of x.what)) (λ x. 0)
          (λ x. length (b.member_methods around.classes side (what_of x.what))) (λ i n xs. m.methods_listed around side n c.args.other (members_of xs))
          (λ i n x xs. refl) 0 0 l.next c.put_what.new.next l.member-index c.args.members.now c.member-item.result l.all.items c.put_what.new.all.items _
          c.loop-member-test.true c.member-item.is l.invariant.0 (rw c.access_or-access.ensures at c.in_ok-put_what.ensures.put) refl
          c.in_ok-put_what.ensures.next,
      loop_number (λ x. b.member_methods around.classes side (what_of x.what)) (λ xs. b.methods_bodies around.classes side (members_of xs)) (λ x xs. refl)
          l.next c.put_what.new.next l.member-index _ c.args.members.now c.member-item.result c.loop-member-test.true c.member-item.is
          l.invariant.1 c.in_ok-put_what.ensures.next,
    )
