-- What the check of a program answers.
use Rattle.std.specs.Prelude.{◌≡◌, List, map, Option, None, Some}
use Rattle.ns_tree.specs.PlainOf.{unit_of}
use Rattle.ns_scope.specs.declared.program.Program.{Program}
use Rattle.ns_static_rules.specs.declared.fault.Placed.{Placed}
use Rattle.ns_static.specs.declared.fault.StaticFault.{StaticFault}
use Rattle.ns_static.specs.declared.fault.StaticFault.TheVariants.{At, Memory}
use Rattle.ns_static_rules.specs.Least.{least, faults}

-- the faults of a program, in the order of its text
abbrev pub faults_of : Program → List Placed
faults_of program = faults (map unit_of program.units) program.marks

-- the least fault of a program, if it has one
abbrev pub fault_of : Program → Option Placed
fault_of program = least (faults_of program)

-- The program has no static fault.
abbrev pub IsFaultless : Program → Type 0
IsFaultless program = fault_of program ≡ None

-- A fault that is told is the least one; want of memory is told of any program.
abbrev pub FaultIsTold : Option Placed → StaticFault → Type 0
FaultIsTold least (At cause place) = least ≡ Some (record { place = place; cause = cause })
FaultIsTold least Memory = Unit {0}
