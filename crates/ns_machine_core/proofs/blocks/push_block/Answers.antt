use Rattle.std.proofs.Common.{◌≡◌, ◌∙◌, refl, subst, Ok, Err}
use Rattle.ns_moves.specs.declared.site.Site.{Site}
use Rattle.ns_moves.specs.Blocks.{new_block}
use Rattle.ns_moves.specs.Control.{Progress, in_world}
use Rattle.ns_moves.specs.Shown.{answer_shown}
use Rattle.ns_moves.specs.declared.running.Running.{Running}
use Rattle.ns_moves.specs.Running.{activation_at}
use Rattle.ns_machine_core.specs.declared.state.Next.TheVariants.{On}
use Rattle.ns_machine_core.proofs.Made.{block_done}
use Rattle.ns_machine_core.proofs.Unmade.{block_unmade}
use Rattle.ns_machine_core.proofs.blocks.push_block.Goals as goal

pub returns-in-Ok : goal.returns-in-Ok
returns-in-Ok c place =
    block_done c.args.code.now c.args.core.now c.give.new.core c.new_block.new.world c.args.at c.args.body place c.running.result (Ok c.in-Ok.value) (On c.give.result)
    c.requires c.running.ensures
    (subst (λ (running : Running). (site : Site) (rest : Progress) → answer_shown site (Ok c.in-Ok.value) (in_world rest c.new_block.new.world.world)
    ≡ new_block (activation_at site running) c.args.body (in_world rest c.args.core.now.run.world.world)) (c.in-Some.ensures ∙ c.running_code.ensures) c.in-Ok.ensures.answer)
    c.in-Ok.ensures.rest (c.give.ensures c.running.result.activation.site)

pub returns-in-Err : goal.returns-in-Err
returns-in-Err c place =
    block_unmade c.args.code.now c.args.core.now c.new_block.new.world c.args.at c.args.body c.running.result c.in-Err.field-0 c.requires
    (subst (λ (running : Running). (site : Site) (rest : Progress) → answer_shown site (Err c.in-Err.field-0) (in_world rest c.new_block.new.world.world)
    ≡ new_block (activation_at site running) c.args.body (in_world rest c.args.core.now.run.world.world)) (c.in-Some.ensures ∙ c.running_code.ensures) c.in-Err.ensures.answer)
    c.in-Err.ensures.rest

pub returns-in-None : goal.returns-in-None
returns-in-None c place = record { same = refl; kept = c.requires.kept }
