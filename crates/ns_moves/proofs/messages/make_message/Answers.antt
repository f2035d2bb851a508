use Rattle.std.proofs.Common.{◌≡◌, Some, subst}
use Rattle.ns_world.specs.declared.value.Value.TheVariants.{Ref}
use Rattle.ns_world.specs.Cell.{MessageCell}
use Rattle.ns_world.specs.World.{made}
use Rattle.ns_moves.proofs.messages.make_message.Goals as goal

pub returns-in-Ok-make-clause-follows : goal.returns-in-Ok-make-clause-follows
returns-in-Ok-make-clause-follows c = λ code lawful fits.
    let mid = c.make_array.new.self.world in
    let after = c.make.new.self.world in
    c.messages_follow.ensures c.args.world.now.world mid after code c.args.sel c.args.values.now lawful fits c.in-Ok.ensures.makes.0
    (subst (λ n. made mid (MessageCell c.args.sel (Ref n)) ≡ Some after) c.in-Ok.ensures.makes.1 c.in-Ok-make.ensures.makes.0)
