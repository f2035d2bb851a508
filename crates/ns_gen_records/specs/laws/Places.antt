-- The places of the units of a program.
use Rattle.std.proofs.Common.{◌≡◌, ◌∙◌, ℕ, ◌+◌, List, ◌∷◌, drop, ap}
use Rattle.std.specs.Prelude.{slice_get, Some}
use Rattle.std.proofs.lemmas.List.{drop_more}
use Rattle.std.proofs.lemmas.Option.{slice_get_within, get_or_from_slice_get}
use Rattle.ns_base.specs.declared.place.Place.{Place}

-- Where a unit has these places, they come first in what is left from it on.
pub places_left : (marks : List (List Place)) (k : ℕ) (places : List Place) → slice_get marks k ≡ Some places →
    drop k marks ≡ places ∷ drop (k + 1) marks
places_left marks k places h =
    drop_more marks k places (slice_get_within marks k places h) ∙ ap (λ p. p ∷ drop (k + 1) marks) (get_or_from_slice_get marks k places places h)
