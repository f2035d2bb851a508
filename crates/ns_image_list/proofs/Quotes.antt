-- The text of a number in quotes is the quoted text of that number.
use Rattle.std.proofs.Common.{◌≡◌, ◌∙◌, ℕ, List, Option, None, Some, codes, map, slice_get, refl, ap}
use Rattle.std.specs.Option.{option_map, option_map_or}
use Rattle.std.proofs.lemmas.Option.{slice_get-map}
use Rattle.ns_base.specs.Quoted.{quoted}

quoted_or : (found : Option (List ℕ)) (mark : List ℕ) →
    option_map_or (λ text. text) (option_map quoted found) mark ≡ option_map_or quoted found mark
quoted_or None mark = refl
quoted_or (Some text) mark = refl

pub quoted_at : (texts : List (List ℕ)) (number : ℕ) →
    option_map_or (λ text. text) (slice_get (map quoted texts) number) (codes "?") ≡
    option_map_or quoted (slice_get texts number) (codes "?")
quoted_at texts number =
    ap (λ found. option_map_or (λ text. text) found (codes "?")) (slice_get-map quoted texts number)
    ∙ quoted_or (slice_get texts number) (codes "?")
