use Rattle.std.proofs.Common.{◌≡◌, Some}
use Rattle.std.proofs.lemmas.Result.{IfOk-weaker}
use Rattle.ns_actors.specs.Outbox.{outbox}
use Rattle.ns_actors_calls.specs.Shown.{shown}
use Rattle.ns_actors_calls.specs.Steps.{outbox_at}
use Rattle.ns_actors_calls.proofs.Running.{has_answered, outbox_read}
use Rattle.ns_actors_calls.proofs.actor.Actor.held_letters.Goals as goal

pub answer-value-requires : goal.answer-value-requires
answer-value-requires c = has_answered c.args.k c.args.count (shown c.args.self.now) c.requires

pub returns : goal.returns
returns c =
    let actor = shown c.args.self.now in
    IfOk-weaker c.read_outbox.result
    (λ letters. outbox c.code.result.now c.world.result.now.world.cells c.answer-value.result c.args.k c.args.count ≡ Some letters.items)
    (λ letters. outbox_at c.args.k c.args.count actor ≡ Some letters.items)
    (λ letters are. outbox_read c.args.k c.args.count actor c.answer-value.result c.code.result.now c.world.result.now.world letters.items
    c.answer-value.ensures c.code.ensures.code c.world.ensures are) c.read_outbox.ensures
