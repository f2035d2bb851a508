use Rattle.std.proofs.Common.{take}
use Rattle.std.specs.List.{AllZip}
use Rattle.ns_verify_members.specs.Numbers.{IsPrivatesOf}
use Rattle.ns_verify_members.proofs.privates.privates_of.Given as goal

abbrev pub invariant-classes : goal.invariant-classes
invariant-classes l = AllZip (IsPrivatesOf l.code) (take l.class-index l.classes) l.all.items
