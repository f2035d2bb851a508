use Rattle.std.proofs.Common.{refl}
use Rattle.ns_tree.specs.declared.tree.Access.TheVariants.{Protected}
use Rattle.ns_tree.specs.PlainOf.{members_of, what_of}
use Rattle.ns_scope.specs.Names.{access_or}
use Rattle.ns_resolved.specs.Classes as m
use Rattle.ns_gen_records.proofs.Parts.{loop_listed}
use Rattle.ns_gen_records.proofs.members.put_nested.Goals as goal

pub loop-member-preserved : goal.loop-member-preserved
loop-member-preserved c =
    let l = c.loop-member in
    loop_listed (λ i n x. m.what_nested i (access_or Protected x.access) (what_of x.what)) (λ x. m.what_count (what_of x.what)) (λ x. 0)
    (λ i n xs. m.members_nested i (members_of xs)) (λ i n x xs. refl) l.number c.put_what_nested.new.number 0 0 l.member-index c.args.members.now
    c.member-item.result l.all.items c.put_what_nested.new.all.items _ c.loop-member-test.true c.member-item.is l.invariant
    (rw c.access_or-access.ensures at c.in_ok-put_what_nested.ensures.put) c.in_ok-put_what_nested.ensures.next refl
