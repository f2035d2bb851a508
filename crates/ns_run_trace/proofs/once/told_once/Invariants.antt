use Rattle.std.proofs.Common.{◌≡◌, ◌++◌, map, drop}
use Rattle.ns_run_trace.specs.Trace.{told}
use Rattle.ns_run_trace.specs.Trace as spec
use Rattle.ns_run_trace.proofs.once.told_once.Given as goal

abbrev pub invariant-sites : goal.invariant-sites
invariant-sites l =
    map (told l.code) l.once.items ++ spec.told_once l.before.items (map (told l.code) (drop l.site-index l.sites))
    ≡ spec.told_once l.fn.line.items (map (told l.code) l.sites)
