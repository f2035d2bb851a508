use Rattle.std.proofs.Common.{◌∙◌}
use Rattle.std.proofs.lemmas.Bool.{eq-eqb, ne_eqb}
use Rattle.ns_frozen_tables.specs.Above.{above_shown}
use Rattle.ns_frozen_seen.specs.Seen.{heap_of}
use Rattle.ns_frozen_valid.proofs.Framed.{runs_there, runs_other, runs_none}
use Rattle.ns_frozen_valid.proofs.frames.is_running.Goals as goal

pub returns-then-body-kind : goal.returns-then-body-kind
returns-then-body-kind c =
    c.runs.ensures
    ∙ runs_there c.args.seen.now.code.now (heap_of c.args.seen.now) (above_shown c.args.above) c.args.frame.now c.args.kind c.args.number c.in-Some.body.now
    c.in-Some.ensures (eq-eqb c.in-Some.body.now.kind c.args.kind c.if-body-kind.true)

pub returns-else-body-kind : goal.returns-else-body-kind
returns-else-body-kind c =
    ne_eqb c.in-Some.body.now.kind c.args.kind c.if-body-kind.false
    ∙ runs_other c.args.seen.now.code.now (heap_of c.args.seen.now) (above_shown c.args.above) c.args.frame.now c.args.kind c.args.number c.in-Some.body.now
    c.in-Some.ensures (ne_eqb c.in-Some.body.now.kind c.args.kind c.if-body-kind.false)

pub returns-in-None : goal.returns-in-None
returns-in-None c =
    runs_none c.args.seen.now.code.now (heap_of c.args.seen.now) (above_shown c.args.above) c.args.frame.now c.args.kind c.args.number c.in-None.ensures
