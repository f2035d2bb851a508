use Rattle.ns_classes.specs.lemmas.Apart.{meet}
use Rattle.ns_classes.proofs.laws.entries_never_meet.Goals as goal

pub returns : goal.returns
returns c = λ world code class first second entry other lawful start one two b d w.
    meet world code one.0 two.0 class first second entry other lawful start one.1 one.2 two.1 two.2 b d w
