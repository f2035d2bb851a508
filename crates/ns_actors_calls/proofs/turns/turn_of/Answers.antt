use Rattle.std.proofs.Common.{arith, get_or}
use Rattle.std.proofs.lemmas.List.{length-set}
use Rattle.std.proofs.lemmas.Option.{slice_get-get_or}
use Rattle.ns_actors_calls.proofs.Refused.{also_refused}
use Rattle.ns_actors_calls.proofs.Told.{length_shown}
use Rattle.ns_actors_calls.proofs.Turning.{has_held, has_turned, own_is, own_stays}
use Rattle.ns_actors_calls.proofs.turns.turn_of.Goals as goal

pub turn-answer-requires : goal.turn-answer-requires
turn-answer-requires c =
    let actors = c.args.actors.now in
    let k = c.args.k in
    let read = c.index-actors-k.result in
    own_is c.requires.are.0 actors k (get_or actors k read) c.requires.are.1 (slice_get-get_or actors k read c.requires.there)

pub settle-requires-clause-few : goal.settle-requires-clause-few
settle-requires-clause-few c =
    let actors = c.args.actors.now in
    omega (arith, c.requires.are.1.few, length_shown actors, length-set actors c.args.k c.turn-answer.new.self)

pub settle-requires-clause-is : goal.settle-requires-clause-is
settle-requires-clause-is c actor there =
    let actors = c.args.actors.now in
    let k = c.args.k in
    let read = c.index-actors-k.result in
    own_stays k c.args.steps c.requires.are.0 actors (get_or actors k read) c.turn-answer.new.self actor c.turn-answer.result
    c.actors_stay_actors.ensures.held c.requires.are.1 (slice_get-get_or actors k read c.requires.there) c.turn-answer.ensures there

pub returns-in_err-settle-clause-held : goal.returns-in_err-settle-clause-held
returns-in_err-settle-clause-held c =
    let actors = c.args.actors.now in
    let k = c.args.k in
    let read = c.index-actors-k.result in
    also_refused c.from_residual.result
    (λ host. has_held k c.args.steps host actors c.settle.new.actors (get_or actors k read) c.turn-answer.new.self c.turn-answer.result
    (slice_get-get_or actors k read c.requires.there) c.turn-answer.ensures c.in_err-settle.ensures.held)

pub returns-clause-turn : goal.returns-clause-turn
returns-clause-turn c = λ host.
    let actors = c.args.actors.now in
    let k = c.args.k in
    let read = c.index-actors-k.result in
    has_turned k c.args.steps host actors c.settle.new.actors (get_or actors k read) c.turn-answer.new.self c.turn-answer.result
    (slice_get-get_or actors k read c.requires.there) c.requires.there c.turn-answer.ensures c.in_ok-settle.ensures.settled
