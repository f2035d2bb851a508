use Rattle.std.proofs.Common.{◌≡◌, arith, length, refl}
use Rattle.ns_actors_calls.proofs.Told.{count_seen, length_shown}
use Rattle.ns_actors_calls.proofs.actors.Actors.add.Goals as goal

pub returns-then-number-ge-MOST_ACTORS-clause-full : goal.returns-then-number-ge-MOST_ACTORS-clause-full
returns-then-number-ge-MOST_ACTORS-clause-full c =
    let actors = c.self.inside.actors.items in
    let counted = count_seen c.self.inside.host.all c.self.inside.actors.items c.args.self.now c.self.view_is in
    let full : length c.args.self.now.actors ≡ 16
    = omega (arith, c.if-number-ge-MOST_ACTORS.true, c.len-number.ensures, counted, c.self.invariant.few, length_shown actors) in
    ((λ _. full), (λ _. refl))

pub put-requires-clause-room : goal.put-requires-clause-room
put-requires-clause-room c =
    let counted = count_seen c.self.inside.host.all c.self.inside.actors.items c.args.self.now c.self.view_is in
    omega (arith, c.if-number-ge-MOST_ACTORS.false, c.len-number.ensures, counted)

pub returns-in-Ok-clause-number : goal.returns-in-Ok-clause-number
returns-in-Ok-clause-number c =
    let counted = count_seen c.self.inside.host.all c.self.inside.actors.items c.args.self.now c.self.view_is in
    omega (arith, c.len-number.ensures, counted)

pub returns-in-Ok-clause-full : goal.returns-in-Ok-clause-full
returns-in-Ok-clause-full c =
    let counted = count_seen c.self.inside.host.all c.self.inside.actors.items c.args.self.now c.self.view_is in
    ((λ e. absurd (cc (e))), (λ full. absurd (omega (arith, full, c.if-number-ge-MOST_ACTORS.false, c.len-number.ensures, counted))))

pub returns-in-Err-clause-full : goal.returns-in-Err-clause-full
returns-in-Err-clause-full c =
    let counted = count_seen c.self.inside.host.all c.self.inside.actors.items c.args.self.now c.self.view_is in
    ((λ e. absurd (cc (e))), (λ full. absurd (omega (arith, full, c.if-number-ge-MOST_ACTORS.false, c.len-number.ensures, counted))))
