use Rattle.std.proofs.Common.{◌≡◌, ◌++◌, map, drop, string_bytes}
use Rattle.std.specs.Prelude.{flat_map}
use Rattle.ns_run_files.specs.Programs.{fault_line}
use Rattle.ns_run_files.proofs.checks.fault_lines.Given as goal

abbrev pub invariant-faults : goal.invariant-faults
invariant-faults l =
    l.lines.items ++ flat_map (fault_line (map string_bytes l.names)) (drop l.fault-index l.faults) ≡ flat_map (fault_line (map string_bytes l.names)) l.faults
