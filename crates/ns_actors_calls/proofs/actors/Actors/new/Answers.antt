use Rattle.std.proofs.Common.{ap, subst, sym}
use Rattle.ns_actors_calls.specs.Letters.{LettersView}
use Rattle.ns_actors.specs.Stated.{AreActors}
use Rattle.ns_actors_calls.proofs.Keeping.{none_seen}
use Rattle.ns_actors_calls.proofs.actors.Actors.new.Goals as goal

pub invariant_of-result : goal.invariant_of-result
invariant_of-result c =
    subst AreActors (sym (none_seen c.new-2.result.all c.new.result.items (ap (λ (l : LettersView). l.all) c.new-2.ensures) c.new.ensures.items))
    c.actors_stay_actors.ensures.nobody

pub returns : goal.returns
returns c = none_seen c.new-2.result.all c.new.result.items (ap (λ (l : LettersView). l.all) c.new-2.ensures) c.new.ensures.items
