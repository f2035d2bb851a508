use Rattle.std.proofs.Common.{sym, ◌∙◌}
use Rattle.ns_frozen_tables.specs.Above.{above_shown}
use Rattle.ns_frozen_tables.proofs.Stands.{stood, stood_somewhere}
use Rattle.ns_frozen_tables.proofs.bodies.Bodies.stands_at.Goals as goal

pub returns-in-Some : goal.returns-in-Some
returns-in-Some c = λ code one are there.
    c.stands_in.ensures
    ∙ stood code c.args.self.now c.as_slice.result.now c.args.body one c.in-Some.stands.now (above_shown c.args.above) c.args.at c.args.count
    are c.as_slice.ensures there (sym c.in-Some.ensures)

pub returns-in-None : goal.returns-in-None
returns-in-None c = λ code one are there.
    absurd (stood_somewhere code c.args.self.now c.as_slice.result.now c.args.body one are c.as_slice.ensures there (sym c.in-None.ensures))
