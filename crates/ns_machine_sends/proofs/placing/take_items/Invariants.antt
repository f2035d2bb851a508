use Rattle.std.proofs.Common.{◌≡◌, take}
use Rattle.ns_world.specs.declared.value.Value.TheVariants.{Ref}
use Rattle.ns_kdata.specs.Arguments.{items_of}
use Rattle.ns_machine_sends.proofs.placing.take_items.Given as goal

abbrev pub invariant-elements : goal.invariant-elements
invariant-elements l = l.arguments ≡ record l.initial.arguments { items = take l.place (items_of l.world.world.cells (Ref l.array)) }
