use Rattle.std.proofs.Common.{arith, ◌+◌, ◌∙◌, map, refl}
use Rattle.ns_machine_plan.specs.Packed.{unpacked}
use Rattle.ns_machine_plan.proofs.Packing.{kept_on}
use Rattle.ns_machine_plan.proofs.Walk.{round}
use Rattle.ns_machine_plan.proofs.steps.pack_steps.Goals as goal

pub instrs-preserved : goal.instrs-preserved
instrs-preserved c =
    let old = c.instrs.tables in
    let new = c.put_step.new.tables in
    let steps = map (unpacked old) c.instrs.packed.items in
    let put = c.in_ok-put_step.ensures.put steps (record { within = c.instrs.invariant.4; are = refl }) in
    let on =
    round c.args.code.now c.args.body.now steps _ c.instrs.left.now (c.args.first + c.len-2.result) c.instrs.at c.instrs.instr-index
    c.as_slice-instr-items.result.now c.args.body.now.instrs _ (map (unpacked new) c.put_step.new.packed.items) c.behind-left.result.now
    c.step_of-step.result c.number_at-place.result (c.as_slice-instr-items.ensures.value ∙ c.in_ok-instrs.ensures) (omega arith)
    c.instrs.invariant.2 c.instrs.invariant.1 c.instrs.invariant.5 put.are c.number_at-place.ensures c.step_of-step.ensures
    c.behind-left.ensures c.instrs.invariant.0 in
    (on.0, on.1, on.2, kept_on c.args.tables.now old new c.instrs.invariant.3 c.put_step.ensures.keeps, put.within, on.3)
