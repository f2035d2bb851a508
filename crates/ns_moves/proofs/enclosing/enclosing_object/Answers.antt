use Rattle.std.proofs.Common.{ap}
use Rattle.ns_moves.specs.Bodies.{Place}
use Rattle.ns_moves.proofs.enclosing.enclosing_object.Goals as goal

pub returns-then-level-lt-FAR-clause-object : goal.returns-then-level-lt-FAR-clause-object
returns-then-level-lt-FAR-clause-object c site = ap (λ (p : Place). p.object) (c.enclosing.ensures site)
