use Rattle.std.proofs.Common.{◌≡◌, ◌++◌, map, drop}
use Rattle.ns_run_trace.specs.Trace.{told}
use Rattle.ns_run_trace.proofs.once.put_told.Given as goal

abbrev pub invariant-sites : goal.invariant-sites
invariant-sites l =
    l.told_so_far.items ++ map (told l.code) (drop l.site-index l.sites) ≡ l.fn.told_so_far.items ++ map (told l.code) l.sites
