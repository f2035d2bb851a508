use Rattle.std.proofs.Common.{◌≡◌, ℕ, ◌++◌, map, take}
use Rattle.ns_base.specs.declared.place.Place.{Place}
use Rattle.ns_machine.proofs.memory.add_places.Given as goal

abbrev pub invariant-places : goal.invariant-places
invariant-places l = l.places.items ≡ l.initial.places.items ++ map (λ (entry : ℕ × Place). entry.1) (take l.place-index l.body.places)
