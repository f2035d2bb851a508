use Rattle.std.proofs.Common.{◌∙◌, sym}
use Rattle.ns_actors_calls.proofs.Reading.{array_sized, none_sized, size_is}
use Rattle.ns_actors_calls.proofs.outbox.size_of_letters.Goals as goal

pub count_letters-requires : goal.count_letters-requires
count_letters-requires c = size_is c.args.world.now.world.cells c.args.array c.in-Some.size (sym c.in-Some.ensures)

pub returns-in-Some : goal.returns-in-Some
returns-in-Some c =
    c.count_letters.ensures
    ∙ array_sized c.args.code.now c.args.world.now.world.cells c.args.count c.in-Some.size c.args.array (sym c.in-Some.ensures)

pub returns-in-None : goal.returns-in-None
returns-in-None c = none_sized c.args.code.now c.args.world.now.world.cells c.args.count c.args.array (sym c.in-None.ensures)
