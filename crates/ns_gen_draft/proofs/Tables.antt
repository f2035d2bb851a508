-- The place of a text that was found.
use Rattle.std.proofs.Common.{◌≡◌, ℕ, List, length}
use Rattle.std.specs.Prelude.{Bool, true, false, cond, nat_lt, position, Some, None}
use Rattle.std.proofs.lemmas.Option.{same_Some}
use Rattle.std.specs.Str.{bytes_eq}
use Rattle.ns_base.specs.Names.{place_of}

pub placed : (names : List (List ℕ)) (text : List ℕ) (place : ℕ) → position (bytes_eq text) names ≡ Some place → place_of names text ≡ place
placed names text place e = tested (nat_lt (place_of names text) (length names)) e where
  tested : (found : Bool) → cond found (Some (place_of names text)) None ≡ Some place → place_of names text ≡ place
  tested true h = same_Some _ _ h
  tested false h = absurd (let f : None ≡ Some place = h in cc)
