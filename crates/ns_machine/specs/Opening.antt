-- Where the place of the opening sends stands among the places of code.
use Rattle.std.specs.Prelude.{ℕ, Option, Some, None}
use Rattle.ns_machine_plan.specs.declared.step.Step.{Step}
use Rattle.ns_machine_plan.specs.declared.step.Step.TheVariants.{InitSuper}

-- the number of the place of a step, where it is the superclass message
abbrev pub super_number : Step → Option ℕ
super_number (InitSuper argc place) = Some place
super_number step = None
