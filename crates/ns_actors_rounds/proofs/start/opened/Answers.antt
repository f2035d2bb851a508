use Rattle.std.proofs.Common.{◌∙◌, ℤ, ap, arith, to_z-of_z}
use Rattle.ns_actors.specs.Rounds.{first_letter}
use Rattle.ns_actors.specs.Turn.{posted}
use Rattle.ns_actors_rounds.proofs.Starting.{started_count}
use Rattle.ns_actors_rounds.proofs.start.opened.Goals as goal

pub post_first-requires-clause-there : goal.post_first-requires-clause-there
post_first-requires-clause-there c =
    let count = started_count c.args.code.now c.args.limits c.args.count c.in_ok-actors.actors c.in_ok-actors.ensures in
    omega (arith, count, c.requires.some)

pub returns : goal.returns
returns c =
    let sel = c.args.sel.now in
    c.in_ok-post_first.ensures
    ∙ (ap (λ (z : ℤ). posted (first_letter sel z) c.in_ok-actors.actors) (to_z-of_z c.ranges.number)
    ∙ ap (posted (first_letter sel c.args.number)) c.in_ok-actors.ensures)
