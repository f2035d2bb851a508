use Rattle.std.proofs.Common.{◌∙◌}
use Rattle.ns_verify_members.proofs.Sorted.{differ}
use Rattle.ns_verify_members.proofs.Selectors.{private_instance, private_side}
use Rattle.ns_verify_members.proofs.privates.Privates.has.Goals as goal

pub returns-then-side-eq-INSTANCES : goal.returns-then-side-eq-INSTANCES
returns-then-side-eq-INSTANCES c code class is lt =
    c.has.ensures ∙ private_instance code class c.args.name.0 c.args.side c.args.self.now (cc) is.differ is lt

pub returns-else-side-eq-INSTANCES : goal.returns-else-side-eq-INSTANCES
returns-else-side-eq-INSTANCES c code class is lt =
    c.has-else-side-eq-INSTANCES.ensures ∙ private_side code class c.args.name.0 c.args.side c.args.self.now (differ c.args.side 0 c.if-side-eq-INSTANCES.false) is.differ is lt
