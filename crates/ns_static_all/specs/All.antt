-- All static faults of a program, each once, in their order: by the file, the line, the column, and the cause.
use Rattle.std.specs.Prelude.{List}
use Rattle.ns_scope.specs.declared.program.Program.{Program}
use Rattle.ns_static_rules.specs.declared.fault.Placed.{Placed}
use Rattle.ns_static_rules.specs.Least.{order_of}
use Rattle.ns_static.specs.Check.{faults_of}
use Rattle.ns_static_all.specs.InOrder.{in_order}

-- all faults of a program
abbrev pub all_faults : Program → List Placed
all_faults program = in_order order_of (faults_of program)
