-- What is said of images by the laws about them.
use Rattle.std.specs.Prelude.{◌≡◌, ℕ, List, Ok, Some}
use Rattle.ns_base.specs.declared.limits.Limits.{Limits}
use Rattle.ns_base.specs.Limits.{InRange}
use Rattle.ns_code.specs.Fits.{Fits}
use Rattle.ns_gen_code.specs.Code.{code_of}
use Rattle.ns_image.specs.Bytes.{bytes_of}
use Rattle.ns_image.specs.Reading.{read_image}
use Rattle.ns_run_code.specs.Run.{meant_run}
use Rattle.ns_resolved.specs.Classes.{meant}
use Rattle.ns_resolved.specs.Program.{Meant}
use Rattle.ns_scope.specs.Whole.{IsWhole}
use Rattle.ns_scope.specs.declared.program.Program.{Program}
use Rattle.ns_verify.specs.Verify.{IsSound}
use Rattle.ns_run_code.specs.Build.{built_of, image}
use Rattle.ns_run_code.specs.Exec.{executed}

-- A program was built into an image of these bytes: its code is admitted, and fits its fields.
pub record WasBuilt (program : Meant) (bytes : List ℕ) : Type 0 where
  pub image : built_of program ≡ image bytes
  pub sound : IsSound (code_of program)
  pub fits : Fits (code_of program)

-- Then the image is that of the program's code, and this is read from it again.
pub record HoldsCode (program : Meant) (bytes : List ℕ) : Type 0 where
  pub is : bytes ≡ bytes_of (code_of program)
  pub read : read_image bytes ≡ Ok (code_of program)

abbrev pub BuiltIsRead : Type 0
BuiltIsRead = (program : Meant) (bytes : List ℕ) → WasBuilt program bytes → HoldsCode program bytes

-- Its run is the run that the source means, at all limits and with all arguments.
abbrev pub BuiltRunsAsMeant : Type 0
BuiltRunsAsMeant =
    (program : Program) (bytes : List ℕ) (limits : Limits) (arguments : List (List ℕ)) → IsWhole program → WasBuilt (meant program) bytes → InRange limits
    → executed bytes limits arguments ≡ Some (meant_run (meant program) limits arguments)
