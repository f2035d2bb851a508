use Rattle.std.proofs.Common.{ap, refl, sym, ◌∙◌}
use Rattle.ns_moves.specs.Control.{After, in_world, Enter, FromMethod, halts}
use Rattle.ns_moves.specs.Bodies.{opened}
use Rattle.ns_moves.specs.Running.{activation_at}
use Rattle.ns_moves.specs.Wrapping.{with_message}
use Rattle.ns_moves.proofs.Wrapped.{given_wrapped}
use Rattle.ns_moves.proofs.sends.open_with_message.Goals as goal

pub returns-in-Ok-clause-reached : goal.returns-in-Ok-clause-reached
returns-in-Ok-clause-reached c = λ site rest sent.
    let go = opened c.args.code.now halts (Enter FromMethod) (activation_at site c.args.running) in
    c.open_body.ensures.reached site rest sent (λ heap. refl)
    ∙ (ap (λ (a : After). with_message a go) (c.in-Ok.ensures.message site rest)
    ∙ sym (given_wrapped c.args.sel c.args.values.now (in_world rest c.args.world.now.world) go))

pub returns-in-Err-clause-reached : goal.returns-in-Err-clause-reached
returns-in-Err-clause-reached c = λ site rest sent.
    let go = opened c.args.code.now halts (Enter FromMethod) (activation_at site c.args.running) in
    ap (λ (a : After). with_message a go) (c.in-Err.ensures.message site rest)
    ∙ sym (given_wrapped c.args.sel c.args.values.now (in_world rest c.args.world.now.world) go)
