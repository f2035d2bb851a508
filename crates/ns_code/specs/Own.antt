-- The selectors that the machine sends by itself.
use Rattle.std.specs.Prelude.{ℕ, List, [], ◌∷◌, codes}
use Rattle.ns_code.specs.declared.own.Own.{Own}
use Rattle.ns_code.specs.declared.own.Own.TheVariants.{PackageUsing, MainArgs, DoesNotUnderstand}

-- the text of such a selector
abbrev pub own_text : Own → List ℕ
own_text PackageUsing = codes "packageUsing:"
own_text MainArgs = codes "main:args:"
own_text DoesNotUnderstand = codes "doesNotUnderstand:"

-- the place of such a selector among their numbers
abbrev pub own_place : Own → ℕ
own_place PackageUsing = 0
own_place MainArgs = 1
own_place DoesNotUnderstand = 2

-- the texts in the order of their numbers
abbrev pub own_texts : List (List ℕ)
own_texts = own_text PackageUsing ∷ own_text MainArgs ∷ own_text DoesNotUnderstand ∷ []
