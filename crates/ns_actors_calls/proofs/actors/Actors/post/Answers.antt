use Rattle.std.proofs.Common.{◌≤◌, ◌<◌, ◌∙◌, arith, length, refl, sym}
use Rattle.ns_actors_calls.proofs.Told.{count_seen}
use Rattle.ns_actors_calls.proofs.actors.Actors.post.Goals as goal

pub returns-then-to-len-clause-none : goal.returns-then-to-len-clause-none
returns-then-to-len-clause-none c =
    let counted = count_seen c.self.inside.host.all c.self.inside.actors.items c.args.self.now c.self.view_is in
    let past : length c.args.self.now.actors ≤ c.args.to = omega (arith, c.if-to-len.true, c.len.ensures, counted) in
    ((λ _. past), (λ _. refl))

pub returns-then-to-len-clause-selector : goal.returns-then-to-len-clause-selector
returns-then-to-len-clause-selector c =
    let counted = count_seen c.self.inside.host.all c.self.inside.actors.items c.args.self.now c.self.view_is in
    ((λ e. absurd (cc (e))), (λ both. absurd (omega (arith, both.0, c.if-to-len.true, c.len.ensures, counted))))

pub returns-then-not-takes_one-clause-none : goal.returns-then-not-takes_one-clause-none
returns-then-not-takes_one-clause-none c =
    let counted = count_seen c.self.inside.host.all c.self.inside.actors.items c.args.self.now c.self.view_is in
    ((λ e. absurd (cc (e))), (λ past. absurd (omega (arith, past, c.if-to-len.false, c.len.ensures, counted))))

pub returns-then-not-takes_one-clause-selector : goal.returns-then-not-takes_one-clause-selector
returns-then-not-takes_one-clause-selector c =
    let counted = count_seen c.self.inside.host.all c.self.inside.actors.items c.args.self.now c.self.view_is in
    let within : c.args.to < length c.args.self.now.actors = omega (arith, c.if-to-len.false, c.len.ensures, counted) in
    ((λ _. (within, sym c.takes_one.ensures ∙ c.if-not-takes_one.true)), (λ _. refl))

pub post_there-requires-clause-there : goal.post_there-requires-clause-there
post_there-requires-clause-there c =
    let counted = count_seen c.self.inside.host.all c.self.inside.actors.items c.args.self.now c.self.view_is in
    omega (arith, c.if-to-len.false, c.len.ensures, counted)

pub returns-in-Ok-clause-none : goal.returns-in-Ok-clause-none
returns-in-Ok-clause-none c =
    let counted = count_seen c.self.inside.host.all c.self.inside.actors.items c.args.self.now c.self.view_is in
    ((λ e. absurd (cc (e))), (λ past. absurd (omega (arith, past, c.if-to-len.false, c.len.ensures, counted))))

pub returns-in-Ok-clause-selector : goal.returns-in-Ok-clause-selector
returns-in-Ok-clause-selector c = ((λ e. absurd (cc (e))), (λ both. absurd (cc (both.1, c.takes_one.ensures, c.if-not-takes_one.false))))

pub returns-in-Err-clause-none : goal.returns-in-Err-clause-none
returns-in-Err-clause-none c =
    let counted = count_seen c.self.inside.host.all c.self.inside.actors.items c.args.self.now c.self.view_is in
    ((λ e. absurd (cc (e))), (λ past. absurd (omega (arith, past, c.if-to-len.false, c.len.ensures, counted))))

pub returns-in-Err-clause-selector : goal.returns-in-Err-clause-selector
returns-in-Err-clause-selector c = ((λ e. absurd (cc (e))), (λ both. absurd (cc (both.1, c.takes_one.ensures, c.if-not-takes_one.false))))
