-- Which faults refuse a file, and which say that one couldn't be read.
use Rattle.std.specs.Prelude.{◌≡◌}
use Rattle.ns_load.specs.declared.fault.LoadCause.{LoadCause}
use Rattle.ns_load.specs.declared.fault.LoadCause.TheVariants as cause
use Rattle.ns_load.specs.declared.fault.LoadFault.{LoadFault}
use Rattle.ns_load.specs.declared.fault.LoadFault.TheVariants as fault

-- The cause refuses a file: it isn't that the file couldn't be read.
abbrev pub IsRefusedFor : LoadCause → Type 0
IsRefusedFor cause.Missing = Unit {0}
IsRefusedFor cause.TooLong = Unit {0}
IsRefusedFor cause.ReadFault = ⊥
IsRefusedFor (cause.Spelling wrong place) = Unit {0}

-- The fault refuses a file: it isn't that one couldn't be read, nor want of memory.
abbrev pub IsRefusal : LoadFault → Type 0
IsRefusal (fault.At why file) = IsRefusedFor why
IsRefusal fault.Memory = ⊥

-- A file couldn't be read.
abbrev pub IsReadFault : LoadFault → Type 0
IsReadFault (fault.At why file) = why ≡ cause.ReadFault
IsReadFault fault.Memory = ⊥
