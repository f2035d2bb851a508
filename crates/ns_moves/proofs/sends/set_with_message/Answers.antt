use Rattle.std.proofs.Common.{List, ap, sym, ◌∙◌}
use Rattle.ns_world.specs.declared.value.Value.{Value}
use Rattle.ns_world.specs.World.{WorldView, stored}
use Rattle.ns_moves.specs.Control.{Progress, Control, After, in_world, gives}
use Rattle.ns_moves.specs.Sends.{first_of}
use Rattle.ns_moves.specs.Wrapping.{with_message}
use Rattle.ns_moves.proofs.Wrapped.{given_wrapped}
use Rattle.ns_moves.proofs.sends.set_with_message.Goals as goal

pub store-requires : goal.store-requires
store-requires c = λ at is.
    (c.in-Ok.ensures.follows c.args.code.now c.requires.lawful c.requires.selector).words at c.args.word (c.requires.word at is)

pub returns-in-Ok-clause-reached : goal.returns-in-Ok-clause-reached
returns-in-Ok-clause-reached c = λ site rest sent.
    let go : List Value → Progress → Control = λ values progress. gives c.args.receiver (in_world progress (stored progress.world c.args.receiver c.args.word (first_of values))) in
    ap (λ (v : WorldView). gives c.args.receiver (in_world rest v.world)) c.store.ensures
    ∙ (ap (λ (a : After). with_message a go) (c.in-Ok.ensures.message site rest)
    ∙ sym (given_wrapped c.args.sel c.args.values.now (in_world rest c.args.world.now.world) go))

pub returns-in-Err-clause-reached : goal.returns-in-Err-clause-reached
returns-in-Err-clause-reached c = λ site rest sent.
    let go : List Value → Progress → Control = λ values progress. gives c.args.receiver (in_world progress (stored progress.world c.args.receiver c.args.word (first_of values))) in
    ap (λ (a : After). with_message a go) (c.in-Err.ensures.message site rest)
    ∙ sym (given_wrapped c.args.sel c.args.values.now (in_world rest c.args.world.now.world) go)
