-- Runs that end at a site.
use Rattle.std.proofs.Common.{refl}
use Rattle.ns_base.specs.declared.selector.Sel.{Sel}
use Rattle.ns_code.specs.declared.program.CodeProgram.{CodeProgram}
use Rattle.ns_world.specs.declared.ending.Ending.{Ending}
use Rattle.ns_world.specs.declared.ending.Fault.{Fault}
use Rattle.ns_world.specs.declared.ending.Fault.TheVariants as fault
use Rattle.ns_world.specs.declared.ending.Kind.TheVariants.{NotUnderstood}
use Rattle.ns_moves.specs.declared.control.Reached.TheVariants as reached
use Rattle.ns_moves.specs.Site.{fault_ending}
use Rattle.ns_machine_frames.specs.declared.registers.Registers.{Registers}
use Rattle.ns_machine_frames.specs.View.{site_shown}
use Rattle.ns_machine_core.specs.declared.state.Core.{Core}
use Rattle.ns_machine_core.specs.declared.state.Next.TheVariants as next
use Rattle.ns_machine_core.specs.Arriving.{Arrives}
use Rattle.ns_machine_core.specs.laws.Pushed.{ended_stays}
use Rattle.ns_machine_sends.specs.declared.sent.Sent.{Sent}
use Rattle.ns_machine_sends.specs.Going.{control_at}

-- the ending by the refusal of a Message of that selector
abbrev refusal_at : Core → Sent → Sel → Ending
refusal_at core sent sel =
    fault_ending (fault.Kind NotUnderstood) (site_shown core.places (record { place = sent.site.place; class = sent.site.class; sel = sel }))

pub fault_ends : (code : CodeProgram) (core : Core) (at : Registers) (sent : Sent) (fault : Fault)
    → Arrives code core at sent.floor (control_at code core at sent (reached.Fails fault))
    (record core { ending = fault_ending fault (site_shown core.places sent.site) }) next.Ended
fault_ends code core at sent fault = record {
  state = refl;
  stand = tt;
  run = refl;
  stays = ended_stays core (fault_ending fault (site_shown core.places sent.site));
}

pub refusal_ends : (code : CodeProgram) (core : Core) (at : Registers) (sent : Sent) (sel : Sel)
    → Arrives code core at sent.floor (control_at code core at sent (reached.Refused sel)) (record core { ending = refusal_at core sent sel }) next.Ended
refusal_ends code core at sent sel = record { state = refl; stand = tt; run = refl; stays = ended_stays core (refusal_at core sent sel) }
