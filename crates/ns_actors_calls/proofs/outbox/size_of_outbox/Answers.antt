use Rattle.std.proofs.Common.{◌∙◌, sym}
use Rattle.ns_actors_calls.proofs.Reading.{whole_size}
use Rattle.ns_actors_calls.proofs.outbox.size_of_outbox.Goals as goal

pub returns-in_default : goal.returns-in_default
returns-in_default c from =
    whole_size c.args.code.now c.args.world.now.world.cells from c.args.count c.args.value c.in_default.not-Nil ∙ sym c.size_of_letters.ensures
