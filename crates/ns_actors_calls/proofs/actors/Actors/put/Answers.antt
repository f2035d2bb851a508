use Rattle.std.proofs.Common.{◌<◌, ◌∙◌, List, ap, arith, length, map, subst, sym}
use Rattle.ns_code.specs.Fits.{Fits}
use Rattle.ns_verify.specs.Verify.{IsSound}
use Rattle.ns_session.specs.Member.{Application, MayStart}
use Rattle.ns_actors.specs.Stated.{AreActors}
use Rattle.ns_actors.specs.Turn.{added}
use Rattle.ns_actors_calls.specs.declared.actor.Actor.{Actor}
use Rattle.ns_actors_calls.specs.Shown.{shown}
use Rattle.ns_actors_calls.specs.Seen.{seen}
use Rattle.ns_actors_calls.proofs.Keeping.{one_more, one_more_kept}
use Rattle.ns_actors_calls.proofs.Refused.{also_refused}
use Rattle.ns_actors_calls.proofs.Told.{count_seen, length_shown}
use Rattle.ns_actors_calls.proofs.actors.Actors.put.Goals as goal

pub invariant_of-self : goal.invariant_of-self
invariant_of-self c =
    subst (λ (xs : List Actor). AreActors (seen c.self.inside.host.all xs)) (sym c.in_err-push.ensures.items) c.self.invariant

pub returns-in_err-push-clause-unchanged : goal.returns-in_err-push-clause-unchanged
returns-in_err-push-clause-unchanged c =
    also_refused c.from_residual-in_err-push.result
    (ap (λ (xs : List Actor). seen c.self.inside.host.all xs) c.in_err-push.ensures.items ∙ c.self.view_is)

pub invariant_of-self-2 : goal.invariant_of-self-2
invariant_of-self-2 c =
    let host = c.self.inside.host.all in
    let actors = c.self.inside.actors.items in
    let application : Application = record { code = c.args.app; grants = c.args.grants; limits = c.args.limits } in
    let may : MayStart application
    = record {
      sound = subst IsSound c.code-code.ensures.code c.code-code.ensures.sound;
      fits = subst Fits c.code-code.ensures.code c.code-code.ensures.fits;
      range = c.requires.range;
    } in
    let room : length (map shown actors) < 16
    = omega (arith, c.requires.room, length_shown actors, count_seen host actors c.args.self.now c.self.view_is) in
    subst (λ (xs : List Actor). AreActors (seen host xs)) (sym c.in_ok-push.ensures.items)
    (one_more_kept host actors c.in_ok-actor.actor application c.actors_stay_actors.ensures.added may c.requires.boardless room c.self.invariant
    c.in_ok-actor.ensures)

pub returns-clause-added : goal.returns-clause-added
returns-clause-added c =
    let host = c.self.inside.host.all in
    let application : Application = record { code = c.args.app; grants = c.args.grants; limits = c.args.limits } in
    ap (λ (xs : List Actor). seen host xs) c.in_ok-push.ensures.items
    ∙ (one_more host c.self.inside.actors.items c.in_ok-actor.actor application c.in_ok-actor.ensures ∙ ap (added application) c.self.view_is)
