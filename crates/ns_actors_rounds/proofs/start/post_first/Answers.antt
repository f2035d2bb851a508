use Rattle.std.proofs.Common.{◌∙◌, ℤ, ap, arith, Err, to_z-of_z}
use Rattle.ns_actors.specs.Rounds.{first_letter}
use Rattle.ns_actors.specs.Turn.{posted}
use Rattle.ns_actors_rounds.proofs.start.post_first.Goals as goal

pub unreachable-unreachable : goal.unreachable-unreachable
unreachable-unreachable c =
    let past = c.in-Err-NoSuch.ensures.none.0 (ap Err c.in-Err-NoSuch.field-0-is) in
    omega (arith, past, c.requires.there)

pub unreachable-unreachable-in-Err-BadSelector : goal.unreachable-unreachable-in-Err-BadSelector
unreachable-unreachable-in-Err-BadSelector c =
    let bad = c.in-Err-BadSelector.ensures.selector.0 (ap Err c.in-Err-BadSelector.field-0-is) in
    absurd (cc (bad.1, c.requires.selector))

pub returns-in-Ok : goal.returns-in-Ok
returns-in-Ok c =
    c.in-Ok.ensures.posted ∙ ap (λ (z : ℤ). posted (first_letter c.args.sel.now z) c.args.actors.now) (to_z-of_z c.ranges.number)
