use Rattle.std.proofs.Common.{◌∷◌, [], ◌++◌, ap, ◌∙◌}
use Rattle.ns_machine_plan.specs.Steps.{prepared}
use Rattle.ns_machine_plan.proofs.Packing.{one_more_body}
use Rattle.ns_machine_plan.proofs.packed_steps.PackedSteps.add.Goals as goal

pub returns : goal.returns
returns c =
    let body = c.args.body.now in
    let steps = prepared c.args.code.now body c.args.first body.places 0 body.instrs in
    let bodies = c.self.inside.bodies.items in
    one_more_body c.self.inside.tables c.pack_steps.new.tables c.pack_steps.ensures.keeps bodies c.push.new.self.items c.self.invariant steps
    c.in_ok-packed.packed.items c.in_ok-packed.ensures.packed
    (c.in_ok-push.ensures.items ∙ ap (λ last. bodies ++ last ∷ []) c.from_vec.ensures)
    ∙ ap (λ before. before ++ steps ∷ []) c.self.view_is
