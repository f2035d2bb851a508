use Rattle.std.proofs.Common.{◌≡◌, ◌<◌, List, length, get_or, refl, arith, subst}
use Rattle.std.proofs.lemmas.Grind.{common_steps}
use Rattle.ns_code.specs.declared.class.ClassCode.{ClassCode}
use Rattle.ns_image_members.proofs.Numbered.{numbered_on}
use Rattle.ns_image_members.proofs.Puts.{after_after}
use Rattle.ns_image_members.proofs.classes.put_classes.Goals as goal
use Rattle.ns_image_members.specs.Members.{class_lines}

pub classes-init : goal.classes-init
classes-init c = refl

pub classes-preserved : goal.classes-preserved
classes-preserved c =
    numbered_on (class_lines c.args.source.now) c.classes.place c.args.source.now.classes c.class-item.result c.classes.out c.put_class.new.out _
    (subst (λ (l : List ClassCode). c.classes.place < length l) c.classes-class-items.ensures c.classes-test.true)
    (subst (λ (l : List ClassCode). c.class-item.result ≡ get_or l c.classes.place c.class-item.result) c.classes-class-items.ensures c.class-item.is)
    c.classes.invariant c.in_ok-put_class.ensures

pub returns : goal.returns
returns c = grind (arith, common_steps, after_after)
