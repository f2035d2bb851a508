use Rattle.std.proofs.Common.{◌≡◌, [], drop}
use Rattle.ns_image_members.specs.Named.{names_behind}
use Rattle.ns_image_members.proofs.named.names_of.Given as goal

abbrev pub invariant-bodies : goal.invariant-bodies
invariant-bodies l = names_behind l.records l.names.items (drop l.body-index l.bodies) ≡ names_behind l.records [] l.bodies
