-- What a machine sends by itself has the numbers of its code.
use Rattle.std.specs.Prelude.{◌≡◌, List, slice_get}
use Rattle.ns_base.specs.declared.place.Place.{Place as SourcePlace}
use Rattle.ns_code.specs.declared.program.CodeProgram.{CodeProgram}
use Rattle.ns_code.specs.Selector.{own_number}
use Rattle.ns_code.specs.declared.own.Own.TheVariants.{PackageUsing, MainArgs, DoesNotUnderstand}
use Rattle.ns_moves.specs.Steps.{opening_place}
use Rattle.ns_machine_core.specs.declared.own.OwnSends.{OwnSends}

-- These are the numbers of the code's own selectors, and of the place of its opening sends.
pub record AreOwn (code : CodeProgram) (places : List SourcePlace) (own : OwnSends) : Type 0 where
  pub package_using : own.package_using.0 ≡ own_number code PackageUsing
  pub main_args : own.main_args.0 ≡ own_number code MainArgs
  pub does_not_understand : own.does_not_understand.0 ≡ own_number code DoesNotUnderstand
  pub opening : slice_get places own.opening ≡ opening_place code
