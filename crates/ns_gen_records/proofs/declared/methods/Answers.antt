use Rattle.std.specs.Prelude.{option_map}
use Rattle.ns_tree.specs.declared.tree.Class.{out-Class}
use Rattle.ns_tree.specs.PlainOf.{pattern_of}
use Rattle.ns_scope.specs.Scopes.{initialiser_scope}
use Rattle.ns_gen_draft.specs.Standing.{around_of}
use Rattle.ns_gen_records.proofs.Parts.{methods_made, side_methods_made, start_number}
use Rattle.ns_gen_records.proofs.declared.methods.Goals as goal
use Rattle.ns_gen_records.specs.laws.Bodies.{own_number}

pub returns-clause-methods : goal.returns-clause-methods
returns-clause-methods c =
    let seen = initialiser_scope c.args.inside.now.classes.now (option_map pattern_of (out-Class c.args.class.now).factory) in
    methods_made (around_of c.args.inside.now) c.args.next.now c.advance.new.number c.count_start.new.count c.args.class.now c.in_ok-methods.methods.items
    c.in_ok-advance.ensures (c.in_ok-count_start.ensures seen) c.in_ok-methods.ensures.listed

pub returns-clause-side_methods : goal.returns-clause-side_methods
returns-clause-side_methods c =
    let seen = initialiser_scope c.args.inside.now.classes.now (option_map pattern_of (out-Class c.args.class.now).factory) in
    side_methods_made (around_of c.args.inside.now) c.args.next.now c.advance.new.number c.count_start.new.count c.side_methods.new.next c.args.class.now
    c.in_ok-others.others.items c.in_ok-advance.ensures (c.in_ok-count_start.ensures seen) c.in_ok-methods.ensures.next
    c.in_ok-others.ensures.listed

pub returns-clause-next : goal.returns-clause-next
returns-clause-next c =
    let seen = initialiser_scope c.args.inside.now.classes.now (option_map pattern_of (out-Class c.args.class.now).factory) in
    own_number c.args.inside.now.classes.now c.args.next.now c.count_start.new.count c.side_methods.new.next c.class_side_methods.new.next c.args.class.now
    (start_number c.args.inside.now.classes.now c.args.next.now c.advance.new.number c.count_start.new.count c.args.class.now c.in_ok-advance.ensures
    (c.in_ok-count_start.ensures seen)) c.in_ok-methods.ensures.next c.in_ok-others.ensures.next
