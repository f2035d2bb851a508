use Rattle.std.proofs.Common.{◌≡◌, ◌++◌, map, drop}
use Rattle.ns_machine.specs.KeptSites.{kept_site}
use Rattle.ns_machine.proofs.sites.kept_sites.Given as goal

abbrev pub invariant-frames : goal.invariant-frames
invariant-frames l =
    l.sites.items ++ map (kept_site l.core.places) (drop l.number l.core.stack.frames.items) ≡ map (kept_site l.core.places) l.core.stack.frames.items
