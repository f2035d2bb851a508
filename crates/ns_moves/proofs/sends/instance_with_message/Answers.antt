use Rattle.std.proofs.Common.{List, ap, refl, sym, ◌∙◌}
use Rattle.ns_world.specs.declared.value.Value.{Value}
use Rattle.ns_moves.specs.Classes.{instance}
use Rattle.ns_moves.specs.Control.{Progress, Control, After, in_world}
use Rattle.ns_moves.specs.Wrapping.{with_message}
use Rattle.ns_moves.proofs.Wrapped.{given_wrapped}
use Rattle.ns_moves.proofs.sends.instance_with_message.Goals as goal

pub instance-requires-clause-lawful : goal.instance-requires-clause-lawful
instance-requires-clause-lawful c = (c.in-Ok.ensures.follows c.args.code.now c.requires.lawful c.requires.selector).lawful

pub instance-requires-clause-class : goal.instance-requires-clause-class
instance-requires-clause-class c = (c.in-Ok.ensures.follows c.args.code.now c.requires.lawful c.requires.selector).classes c.args.class c.requires.class

pub returns-in-Ok-clause-reached : goal.returns-in-Ok-clause-reached
returns-in-Ok-clause-reached c = λ site rest sent.
    let go : List Value → Progress → Control = λ values progress. instance c.args.code.now c.args.class values site progress in
    c.instance.ensures.reached site rest sent (λ heap. refl)
    ∙ (ap (λ (a : After). with_message a go) (c.in-Ok.ensures.message site rest)
    ∙ sym (given_wrapped c.args.sel c.args.values.now (in_world rest c.args.world.now.world) go))

pub returns-in-Err-clause-reached : goal.returns-in-Err-clause-reached
returns-in-Err-clause-reached c = λ site rest sent.
    let go : List Value → Progress → Control = λ values progress. instance c.args.code.now c.args.class values site progress in
    ap (λ (a : After). with_message a go) (c.in-Err.ensures.message site rest)
    ∙ sym (given_wrapped c.args.sel c.args.values.now (in_world rest c.args.world.now.world) go)
