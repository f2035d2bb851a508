use Rattle.std.proofs.Common.{◌≡◌, ◌-◌, sym, subst}
use Rattle.std.specs.Prelude.{IsTrue}
use Rattle.ns_code.specs.declared.instruction.Instr.TheVariants as instr
use Rattle.ns_world.specs.declared.ending.Ending.{Ending}
use Rattle.ns_world.specs.Heap.{find_cell, is_class}
use Rattle.ns_moves.specs.declared.site.Site.{Site}
use Rattle.ns_moves.specs.declared.control.PartReached.TheVariants as part
use Rattle.ns_moves.specs.Control.{Progress, in_world}
use Rattle.ns_moves.specs.Classes.{super_part}
use Rattle.ns_moves.specs.Shown.{part_shown}
use Rattle.ns_moves.specs.declared.running.Running.{Running}
use Rattle.ns_moves.specs.Running.{activation_at}
use Rattle.ns_machine_frames.specs.Stack.{stood, with_top}
use Rattle.ns_machine_frames.specs.View.{site_shown}
use Rattle.ns_machine_core.specs.declared.state.Next.TheVariants as next
use Rattle.ns_machine_core.specs.Shown.{progress_in}
use Rattle.ns_machine_core.specs.Doing.{IsDone}
use Rattle.ns_machine_core.specs.laws.Worlds.{in_other}
use Rattle.ns_machine_returns.proofs.PartFound.{part_finds}
use Rattle.ns_machine_returns.proofs.PartEntered.{holder_is_class, enters}
use Rattle.ns_machine_returns.proofs.PartDone.{part_skipped, part_failed, part_entered}
use Rattle.ns_machine_returns.proofs.parts.begin_part.Goals as goal

pub super_part-reached-requires-clause-holder : goal.super_part-reached-requires-clause-holder
super_part-reached-requires-clause-holder c =
    subst (λ (running : Running). IsTrue (is_class (find_cell c.args.core.now.run.world.world.cells running.holder))) (sym c.running_code.ensures)
    (holder_is_class c.enclosing_objects_are_there.ensures.holder c.args.code.now c.args.core.now c.running-frame.result.activation
    (stood c.args.core.now.stack (with_top (c.args.at.top - c.args.count) c.args.at)) c.operands-arguments.result.now
    (part_finds c.args.code.now c.args.core.now c.args.at c.args.count c.running-frame.result c.operands-arguments.result.now c.requires c.running-frame.ensures
    c.operands-arguments.ensures.stood c.operands-arguments.ensures.length))

pub enter_part-requires : goal.enter_part-requires
enter_part-requires c =
    enters c.what_is_reached_can_be_entered.ensures.entered c.actions_keep_lawful.ensures.super_part c.actions_spend_exactly.ensures c.what_is_handed_on_fits.ensures
    c.args.code.now c.args.core.now c.super_part-reached.new.world c.args.at c.args.count c.running-frame.result c.operands-arguments.result.now c.in-Enters.entered
    c.requires c.running-frame.ensures
    (part_finds c.args.code.now c.args.core.now c.args.at c.args.count c.running-frame.result c.operands-arguments.result.now c.requires c.running-frame.ensures
    c.operands-arguments.ensures.stood c.operands-arguments.ensures.length)
    c.operands-arguments.ensures.laid c.operands-arguments.ensures.values
    (record {
      is = subst (λ (running : Running). (site : Site) (rest : Progress) → part_shown c.args.code.now site c.operands-arguments.result.now (part.Enters c.in-Enters.entered) (in_world rest c.super_part-reached.new.world.world)
          ≡ super_part c.args.code.now (activation_at site running) c.operands-arguments.result.now (in_world rest c.args.core.now.run.world.world))
          c.running_code.ensures c.in-Enters.ensures.reached (site_shown c.args.core.now.places c.running-frame.result.activation.site) (progress_in c.args.core.now);
      rest = c.in-Enters.ensures.rest;
    })

pub returns-in-Skips : goal.returns-in-Skips
returns-in-Skips c place =
    part_skipped c.operands_are_taken.ensures.taken c.args.code.now c.args.core.now c.super_part-reached.new.world c.args.at c.args.count place c.running-frame.result
    c.operands-arguments.result.now c.requires c.running-frame.ensures c.operands-arguments.ensures.stood c.operands-arguments.ensures.length
    c.operands-arguments.ensures.laid
    (record {
      is = subst (λ (running : Running). (site : Site) (rest : Progress) → part_shown c.args.code.now site c.operands-arguments.result.now part.Skips (in_world rest c.super_part-reached.new.world.world)
          ≡ super_part c.args.code.now (activation_at site running) c.operands-arguments.result.now (in_world rest c.args.core.now.run.world.world))
          c.running_code.ensures c.in-Skips.ensures.reached (site_shown c.args.core.now.places c.running-frame.result.activation.site) (progress_in c.args.core.now);
      rest = c.in-Skips.ensures.rest;
    })

pub returns-in-Fails : goal.returns-in-Fails
returns-in-Fails c place =
    subst (λ (ending : Ending). IsDone c.args.code.now (instr.InitSuper c.args.count) place c.args.core.now c.args.at
    (record (in_other c.args.core.now c.super_part-reached.new.world) { ending = ending }) next.Ended) (sym c.ending_at-core.ensures)
    (part_failed c.operands_are_taken.ensures.taken c.args.code.now c.args.core.now c.super_part-reached.new.world c.args.at c.args.count place c.running-frame.result
    c.operands-arguments.result.now c.in-Fails.fault c.requires c.running-frame.ensures c.operands-arguments.ensures.stood c.operands-arguments.ensures.length
    (record {
      is = subst (λ (running : Running). (site : Site) (rest : Progress) → part_shown c.args.code.now site c.operands-arguments.result.now (part.Fails c.in-Fails.fault) (in_world rest c.super_part-reached.new.world.world)
          ≡ super_part c.args.code.now (activation_at site running) c.operands-arguments.result.now (in_world rest c.args.core.now.run.world.world))
          c.running_code.ensures c.in-Fails.ensures.reached (site_shown c.args.core.now.places c.running-frame.result.activation.site) (progress_in c.args.core.now);
      rest = c.in-Fails.ensures.rest;
    }))

pub returns-in-Enters : goal.returns-in-Enters
returns-in-Enters c place =
    part_entered c.operands_are_taken.ensures.taken c.args.code.now c.args.core.now c.enter_part.new.core c.super_part-reached.new.world c.args.at c.args.count place
    c.running-frame.result c.operands-arguments.result.now c.in-Enters.entered (next.On c.enter_part.result) c.requires c.running-frame.ensures
    c.operands-arguments.ensures.stood c.operands-arguments.ensures.length c.operands-arguments.ensures.values
    (record {
      is = subst (λ (running : Running). (site : Site) (rest : Progress) → part_shown c.args.code.now site c.operands-arguments.result.now (part.Enters c.in-Enters.entered) (in_world rest c.super_part-reached.new.world.world)
          ≡ super_part c.args.code.now (activation_at site running) c.operands-arguments.result.now (in_world rest c.args.core.now.run.world.world))
          c.running_code.ensures c.in-Enters.ensures.reached (site_shown c.args.core.now.places c.running-frame.result.activation.site) (progress_in c.args.core.now);
      rest = c.in-Enters.ensures.rest;
    })
    c.enter_part.ensures
