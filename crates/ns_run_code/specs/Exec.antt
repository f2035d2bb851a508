-- What becomes of the bytes of an image: they are read, the code is verified, and where it is admitted it can be run.
use Rattle.std.specs.Prelude.{ℕ, List, Option, Some, None, Result, Ok, Err}
use Rattle.ns_base.specs.declared.limits.Limits.{Limits}
use Rattle.ns_code.specs.declared.program.CodeProgram.{CodeProgram}
use Rattle.ns_image.specs.Reading.{read_image}
use Rattle.ns_image.specs.declared.fault.ImageFault.{ImageFault}
use Rattle.ns_run_code.specs.Machine.{machine_run}
use Rattle.ns_run_code.specs.declared.run.Ran.{Ran}
use Rattle.ns_verify.specs.Verify.{fault_of}
use Rattle.ns_verify.specs.declared.fault.Fault.{Fault}
use Rattle.ns_verify.specs.declared.fault.VerifyCause.{VerifyCause}
use Rattle.ns_verify.specs.declared.fault.Where.{Where}

-- bytes that are no image, code that isn't admitted, or code that is
pub data ImageCode : Type 0 where
  refused_image : (fault : ImageFault) → ImageCode
  refused_code : (cause : VerifyCause) (at : Where) → ImageCode
  admitted : (code : CodeProgram) → ImageCode

-- code, of which this is the first fault
abbrev pub of_code : CodeProgram → Option Fault → ImageCode
of_code code (Some fault) = refused_code fault.cause fault.at
of_code code None = admitted code

-- the code that was read
abbrev pub of_read : Result CodeProgram ImageFault → ImageCode
of_read (Err fault) = refused_image fault
of_read (Ok code) = of_code code (fault_of code)

-- the code of an image of these bytes
abbrev pub image_code : List ℕ → ImageCode
image_code bytes = of_read (read_image bytes)

-- the run of the code of an image within these limits with these arguments, where it is admitted
abbrev pub run_of : ImageCode → Limits → List (List ℕ) → Option Ran
run_of (refused_image fault) limits arguments = None
run_of (refused_code cause at) limits arguments = None
run_of (admitted code) limits arguments = Some (machine_run code limits arguments)

-- the run of an image of these bytes
abbrev pub executed : List ℕ → Limits → List (List ℕ) → Option Ran
executed bytes limits arguments = run_of (image_code bytes) limits arguments
