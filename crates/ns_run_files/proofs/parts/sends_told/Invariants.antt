use Rattle.std.proofs.Common.{◌≡◌, ◌++◌, map, drop, string_bytes}
use Rattle.ns_run_files.specs.Programs.{send_told}
use Rattle.ns_run_files.proofs.parts.sends_told.Given as goal

abbrev pub invariant-sends : goal.invariant-sends
invariant-sends l =
    l.told.items ++ map (send_told (map string_bytes l.names) l.code) (drop l.sent-index l.sends) ≡ map (send_told (map string_bytes l.names) l.code) l.sends
