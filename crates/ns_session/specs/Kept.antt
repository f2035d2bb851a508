-- What holds of an application of a session at every moment.
use Rattle.std.specs.Prelude.{◌≡◌, Option}
use Rattle.ns_base.specs.declared.limits.Limits.{Limits}
use Rattle.ns_world.specs.declared.ending.Ending.{Ending}
use Rattle.ns_facets.specs.declared.row.Grants.{Grants}
use Rattle.ns_moves.specs.State.{ending_of}
use Rattle.ns_machine.specs.Machine.{MachineView}
use Rattle.ns_session.specs.Member.{MemberView, MayStart, StandsAlone}
use Rattle.ns_session.specs.Reached.{StateIsReached}

-- what a machine and what is kept beside it show
abbrev pub member_shown : MachineView → Grants → Limits → MemberView
member_shown machine grants limits =
    record { application = record { code = machine.code; grants = grants; limits = limits }; state = machine.state }

-- the machine in which an application runs, as it shows itself
abbrev pub machine_of : MemberView → MachineView
machine_of member = record { code = member.application.code; grants = member.application.grants; state = member.state }

-- The machine has these grants, it stands where turns lead, its ending is kept beside it, and without the board it stands
-- where its run on its own does.
pub record IsMember (machine : MachineView) (grants : Grants) (limits : Limits) (ending : Option Ending) : Type 0 where
  pub granted : machine.grants ≡ grants
  pub may : MayStart (member_shown machine grants limits).application
  pub reached : StateIsReached (member_shown machine grants limits).application machine.state
  pub alone : StandsAlone (member_shown machine grants limits)
  pub ending_is : ending ≡ ending_of machine.state
