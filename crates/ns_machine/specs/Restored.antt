-- Where a machine stands whose run was put back.
use Rattle.ns_machine.specs.declared.stage.Stage.{Stage}
use Rattle.ns_machine.specs.declared.stage.Stage.TheVariants as stage
use Rattle.ns_machine_thaw.specs.declared.thawed.Thawed.{Thawed}
use Rattle.ns_machine_thaw.specs.declared.thawed.Thawed.TheVariants as to

-- where it stands
abbrev pub stage_of : Thawed → Stage
stage_of (to.Unbegun arguments) = stage.Unbegun arguments
stage_of (to.Begun next) = stage.Begun next
