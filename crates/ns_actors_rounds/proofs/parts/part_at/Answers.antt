use Rattle.std.proofs.Common.{◌∙◌, ap, Option, ℕ}
use Rattle.std.specs.Option.{unwrap_or}
use Rattle.ns_actors_rounds.proofs.PartLaws.{machine_there, part_told, stops_so}
use Rattle.ns_actors_rounds.proofs.parts.part_at.Goals as goal

pub part_in-requires : goal.part_in-requires
part_in-requires c =
    stops_so c.args.actors.now c.args.number c.in-Some.machine.now c.stopped-why.result c.keeps_to_letters.ensures c.in-Some.ensures c.stopped-why.ensures

pub returns : goal.returns
returns c =
    part_told c.args.actors.now c.args.number c.in-Some.machine.now c.stopped-why.result c.unwrap_or-taken.result c.part_in.result c.in-Some.ensures
    c.stopped-why.ensures (c.unwrap_or-taken.ensures ∙ ap (λ (o : Option ℕ). unwrap_or o 0) c.taken.ensures) c.part_in.ensures

pub unreachable-unreachable : goal.unreachable-unreachable
unreachable-unreachable c = machine_there c.args.actors.now.actors c.args.number c.requires c.in-None.ensures
