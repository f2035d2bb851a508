use Rattle.std.proofs.Common.{◌≡◌, ◌++◌, map, drop, string_bytes}
use Rattle.ns_run_files.specs.Programs.{fault_told}
use Rattle.ns_run_files.proofs.parts.faults_told.Given as goal

abbrev pub invariant-faults : goal.invariant-faults
invariant-faults l =
    l.told.items ++ map (fault_told (map string_bytes l.names)) (drop l.fault-index l.faults) ≡ map (fault_told (map string_bytes l.names)) l.faults
