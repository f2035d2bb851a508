use Rattle.std.proofs.Common.{◌≤◌, [], arith, length, refl, slice_get}
use Rattle.ns_actors_calls.proofs.Keeping.{receives_nothing}
use Rattle.ns_actors_calls.proofs.Told.{count_seen}
use Rattle.ns_actors_calls.proofs.actors.Actors.turn.Goals as goal

pub returns-then-k-len-clause-none : goal.returns-then-k-len-clause-none
returns-then-k-len-clause-none c =
    let counted = count_seen c.self.inside.host.all c.self.inside.actors.items c.args.self.now c.self.view_is in
    let past : length c.args.self.now.actors ≤ c.args.k = omega (arith, c.if-k-len.true, c.len.ensures, counted) in
    ((λ _. past), (λ _. refl))

pub returns-then-k-len-clause-held : goal.returns-then-k-len-clause-held
returns-then-k-len-clause-held c = λ e. absurd (cc (e))

pub returns-then-k-len-clause-others : goal.returns-then-k-len-clause-others
returns-then-k-len-clause-others c other differs = ([], receives_nothing (slice_get c.args.self.now.actors other))

pub turn_there-requires : goal.turn_there-requires
turn_there-requires c =
    let counted = count_seen c.self.inside.host.all c.self.inside.actors.items c.args.self.now c.self.view_is in
    omega (arith, c.if-k-len.false, c.len.ensures, counted)

pub returns-in-Ok-clause-none : goal.returns-in-Ok-clause-none
returns-in-Ok-clause-none c =
    let counted = count_seen c.self.inside.host.all c.self.inside.actors.items c.args.self.now c.self.view_is in
    ((λ e. absurd (cc (e))), (λ past. absurd (omega (arith, past, c.if-k-len.false, c.len.ensures, counted))))

pub returns-in-Ok-clause-unchanged : goal.returns-in-Ok-clause-unchanged
returns-in-Ok-clause-unchanged c = λ e. absurd (cc (e))

pub returns-in-Ok-clause-turn : goal.returns-in-Ok-clause-turn
returns-in-Ok-clause-turn c = (c.in-Ok.ensures.turn.after, c.in-Ok.ensures.turn.answer_is)

pub returns-in-Ok-clause-held : goal.returns-in-Ok-clause-held
returns-in-Ok-clause-held c = λ e. absurd (cc (e))

pub returns-in-Ok-clause-others : goal.returns-in-Ok-clause-others
returns-in-Ok-clause-others c = c.in-Ok.ensures.others

pub returns-in-Err-clause-none : goal.returns-in-Err-clause-none
returns-in-Err-clause-none c =
    let counted = count_seen c.self.inside.host.all c.self.inside.actors.items c.args.self.now c.self.view_is in
    ((λ e. absurd (cc (e))), (λ past. absurd (omega (arith, past, c.if-k-len.false, c.len.ensures, counted))))

pub returns-in-Err-clause-unchanged : goal.returns-in-Err-clause-unchanged
returns-in-Err-clause-unchanged c = λ e. absurd (cc (e))

pub returns-in-Err-clause-held : goal.returns-in-Err-clause-held
returns-in-Err-clause-held c = λ _. c.in-Err.ensures.held

pub returns-in-Err-clause-others : goal.returns-in-Err-clause-others
returns-in-Err-clause-others c = c.in-Err.ensures.others
