use Rattle.std.proofs.Common.{◌∙◌, arith}
use Rattle.ns_actors_calls.proofs.Reading.{three_read}
use Rattle.ns_actors_calls.proofs.outbox.parts_at.Goals as goal

pub returns-in-Some-eq3 : goal.returns-in-Some-eq3
returns-in-Some-eq3 c =
    c.parts_of.ensures
    ∙ three_read c.args.code.now c.args.world.now.world.cells c.args.count c.in-Some-eq3.field-0 c.args.value
    c.array_item.result c.array_item-in-Some-eq3.result c.array_item-in-Some-eq3-2.result c.in-Some-eq3.ensures (omega (arith, c.in-Some-eq3.field-0-test))
    c.array_item.ensures c.array_item-in-Some-eq3.ensures c.array_item-in-Some-eq3-2.ensures
