use Rattle.std.proofs.Common.{◌≡◌, subst}
use Rattle.ns_moves.specs.declared.site.Site.{Site}
use Rattle.ns_moves.specs.Control.{Progress, in_world}
use Rattle.ns_moves.specs.Classes.{slot_filled}
use Rattle.ns_moves.specs.declared.running.Running.{Running}
use Rattle.ns_moves.specs.Running.{activation_at}
use Rattle.ns_machine_core.proofs.Stored.{slot_done}
use Rattle.ns_machine_core.proofs.storing.store_slot.Goals as goal

pub returns : goal.returns
returns c place =
    slot_done c.args.code.now c.args.core.now c.fill_slot.new.world c.args.at c.pop-value.result.1 c.args.slot place c.running.result c.pop-value.result.0 c.requires
    c.running.ensures c.pop-value.ensures.stood c.pop-value.ensures.laid
    (subst (λ (code_here : Running). (site : Site) (rest : Progress) → in_world rest c.fill_slot.new.world.world
    ≡ slot_filled c.args.code.now (activation_at site code_here) c.args.slot c.pop-value.result.0 (in_world rest c.args.core.now.run.world.world))
    c.running_code-code_here.ensures c.fill_slot.ensures.filled)
    c.fill_slot.ensures.rest
