-- The faults of an image.
use Rattle.std.specs.Prelude.{ℕ, ◌-◌}
use Rattle.ns_image.specs.declared.fault.Fault.{Fault}
use Rattle.ns_image.specs.declared.fault.Fault.TheVariants as field
use Rattle.ns_image.specs.declared.fault.ImageFault.{ImageFault}
use Rattle.ns_image.specs.declared.fault.ImageFault.TheVariants as image

-- the fault in an image of so many bytes
abbrev pub fault_in : ℕ → Fault → ImageFault
fault_in size field.Truncated = image.Truncated
fault_in size (field.Bad left) = image.BadField (size - left)
fault_in size field.Memory = image.Memory
