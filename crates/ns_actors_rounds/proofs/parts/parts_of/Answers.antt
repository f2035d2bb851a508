use Rattle.std.proofs.Common.{◌≡◌, ◌∙◌, ◌<◌, ◌++◌, List, ap, arith, length, map}
use Rattle.ns_json.specs.declared.saying.Actor.{Actor}
use Rattle.ns_actors_rounds.specs.Parts.{part_of}
use Rattle.ns_actors_rounds.proofs.PartLaws.{all_parts, next_part}
use Rattle.ns_actors_rounds.proofs.parts.parts_of.Goals as goal

pub actors-init : goal.actors-init
actors-init c = ap (λ (parts : List Actor). parts ++ map part_of c.args.actors.now.actors) c.new-parts.ensures.items

pub part_at-requires : goal.part_at-requires
part_at-requires c = omega (arith, c.actors-test.true, c.count-number-end.ensures.count)

pub actors-preserved : goal.actors-preserved
actors-preserved c =
    let actors = c.args.actors.now.actors in
    let within : c.actors.number < length actors = omega (arith, c.actors-test.true, c.count-number-end.ensures.count) in
    next_part actors c.actors.number c.actors.parts.items c.push.new.self.items c.in_ok-part_at.field-0 within c.in_ok-part_at.ensures
    c.in_ok-push.ensures.items c.actors.invariant

pub returns : goal.returns
returns c =
    let actors = c.args.actors.now.actors in
    let all : c.actors.number ≡ length actors = omega (arith, c.actors-test.false, c.actors.auto.number-end, c.count-number-end.ensures.count) in
    c.from_vec.ensures ∙ all_parts actors c.actors.number c.actors.parts.items all c.actors.invariant
