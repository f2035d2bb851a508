use Rattle.std.proofs.Common.{◌+◌, ap, ◌∙◌}
use Rattle.ns_world.specs.declared.ending.LimitKind.TheVariants.{Depth}
use Rattle.ns_world.specs.World.{entered}
use Rattle.ns_moves.specs.Control.{in_world, Enter, FromMethod, halts, charged}
use Rattle.ns_moves.specs.Bodies.{opened}
use Rattle.ns_moves.specs.Sends.{Wrapped, given}
use Rattle.ns_moves.specs.Shown.{reached_shown}
use Rattle.ns_moves.specs.Run.{progress_of}
use Rattle.ns_moves.specs.Running.{activation_at}
use Rattle.ns_moves.specs.declared.running.Running.{Running}
use Rattle.ns_moves.proofs.Counted.{with_begun, message_counts}
use Rattle.ns_moves.proofs.sends.enter_method_with_message.Goals as goal

pub returns-clause-reached : goal.returns-clause-reached
returns-clause-reached c = λ site.
    let code = c.args.code.now in
    let values = c.args.values.now in
    let r = c.enter_with_message-reached.result in
    let old = progress_of c.args.run.now in
    let new = in_world old c.enter_with_message-reached.new.world.world in
    let entering = c.enter_with_message-reached.ensures.reached site old values
    ∙ ap (λ (one : Running). charged halts Depth (entered old.world) old (λ p. given (Wrapped c.args.sel values) p (opened code halts (Enter FromMethod) (activation_at site one)))) c.method_running-running.ensures in
    ap (λ n. reached_shown code site values r (with_begun new (old.begun + n))) c.begins.ensures.begins
    ∙ message_counts code site values r old new c.args.body c.args.holder c.args.receiver c.args.sel values entering
