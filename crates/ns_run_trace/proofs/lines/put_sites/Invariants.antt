use Rattle.std.proofs.Common.{◌≡◌, ◌++◌, drop}
use Rattle.std.specs.Prelude.{flat_map}
use Rattle.ns_run_trace.specs.Trace.{site_line}
use Rattle.ns_run_trace.proofs.lines.put_sites.Given as goal

abbrev pub invariant-sites : goal.invariant-sites
invariant-sites l = l.out.items ++ flat_map site_line (drop l.site-index l.sites) ≡ l.fn.out.items ++ flat_map site_line l.sites
