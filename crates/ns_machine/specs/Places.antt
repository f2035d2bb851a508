-- The places that a machine keeps, which sites name by their numbers.
use Rattle.std.specs.Prelude.{◌≡◌, ℕ, ◌+◌, ◌≤◌, List, ◌++◌, length}
use Rattle.ns_base.specs.declared.place.Place.{Place as SourcePlace}
use Rattle.ns_code.specs.declared.program.CodeProgram.{CodeProgram}
use Rattle.ns_machine_plan.specs.Steps.{places_of, no_place}

-- what stands where no site has its place yet
abbrev pub spare_place : SourcePlace
spare_place = record { file = 0; line = 0; col = 0 }

-- First stand the places of the code; those behind them have numbers too.
pub record BeginsWithPlaces (code : CodeProgram) (places : List SourcePlace) : Type 0 where
  pub more : List SourcePlace
  pub is : places ≡ places_of code ++ more
  pub few : length (places_of code ++ more) ≤ no_place

-- Behind them stands one for the site of each frame that the limit on depth allows, and one for the site of what waits.
pub record HasPlaces (code : CodeProgram) (depth : ℕ) (places : List SourcePlace) : Type 0 where
  pub begins : BeginsWithPlaces code places
  pub many : length begins.more ≡ depth + 1
