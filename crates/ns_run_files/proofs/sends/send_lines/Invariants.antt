use Rattle.std.proofs.Common.{◌≡◌, ◌++◌, map, drop, string_bytes}
use Rattle.std.specs.Prelude.{flat_map}
use Rattle.ns_run_files.specs.Programs.{send_line}
use Rattle.ns_run_files.proofs.sends.send_lines.Given as goal

abbrev pub invariant-sends : goal.invariant-sends
invariant-sends l =
    l.lines.items ++ flat_map (send_line (map string_bytes l.names) l.code) (drop l.sent-index l.sends) ≡ flat_map (send_line (map string_bytes l.names) l.code) l.sends
