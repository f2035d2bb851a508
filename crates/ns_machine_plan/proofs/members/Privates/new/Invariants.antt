use Rattle.std.proofs.Common.{take}
use Rattle.std.specs.List.{AllZip}
use Rattle.ns_machine_plan.specs.Members.{AreMembersOf}
use Rattle.ns_machine_plan.proofs.members.Privates.new.Given as goal

abbrev pub invariant-classes : goal.invariant-classes
invariant-classes l = AllZip (AreMembersOf l.code) (take l.class-index l.code.classes) l.classes.items
