use Rattle.std.proofs.Common.{◌+◌, ap, refl, ◌∙◌}
use Rattle.ns_world.specs.declared.ending.LimitKind.TheVariants.{Depth}
use Rattle.ns_world.specs.World.{entered}
use Rattle.ns_moves.specs.Control.{in_world, Enter, FromMethod, halts, charged}
use Rattle.ns_moves.specs.Bodies.{opened}
use Rattle.ns_moves.specs.Shown.{reached_shown}
use Rattle.ns_moves.specs.Run.{progress_of}
use Rattle.ns_moves.specs.Running.{activation_at}
use Rattle.ns_moves.specs.declared.running.Running.{Running}
use Rattle.ns_moves.proofs.Counted.{with_begun, method_counts}
use Rattle.ns_moves.proofs.sends.enter_method.Goals as goal

pub returns-clause-reached : goal.returns-clause-reached
returns-clause-reached c = λ site.
    let code = c.args.code.now in
    let values = c.args.values.now in
    let r = c.enter_body-reached.result in
    let old = progress_of c.args.run.now in
    let new = in_world old c.enter_body-reached.new.world.world in
    let entering = c.enter_body-reached.ensures.reached site old values (λ heap. refl)
    ∙ ap (λ (one : Running). charged halts Depth (entered old.world) old (opened code halts (Enter FromMethod) (activation_at site one) values)) c.method_running-running.ensures in
    ap (λ n. reached_shown code site values r (with_begun new (old.begun + n))) c.begins.ensures.begins
    ∙ method_counts code site values r old new c.args.body c.args.holder c.args.receiver values entering
