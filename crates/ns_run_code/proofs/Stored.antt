-- What was built is read again, and its run is the run that the source means.
use Rattle.std.proofs.Common.{◌≡◌, ℕ, List, length, Option, Some, None, Ok, Bool, true, false, if◌then◌else◌, ap, ◌∙◌}
use Rattle.std.specs.Prelude.{nat_lt}
use Rattle.ns_base.specs.declared.limits.Limits.{Limits}
use Rattle.ns_code.specs.declared.program.CodeProgram.{CodeProgram}
use Rattle.ns_run_code.specs.Build.{image, image_too_large, most_bytes, of_size}
use Rattle.ns_run_code.specs.Exec.{of_code, of_read, executed, run_of}
use Rattle.ns_run_code.specs.ImageLaws.{WasBuilt, HoldsCode}
use Rattle.ns_gen_code.specs.Code.{code_of}
use Rattle.ns_gen_code.specs.Sizes.{size_fault}
use Rattle.ns_gen_code.specs.declared.size.SizeKind.{SizeKind}
use Rattle.ns_image.specs.Bytes.{bytes_of}
use Rattle.ns_image.specs.Reading.{read_image}
use Rattle.ns_run_code.specs.Machine.{machine_run}
use Rattle.ns_run_code.specs.Run.{meant_run}
use Rattle.ns_resolved.specs.Program.{Meant}

-- the bytes of an image that isn't too large are those of the code
bytes_are : (code : CodeProgram) (size : Option SizeKind) (bytes : List ℕ) → of_size code size ≡ image bytes → bytes ≡ bytes_of code
bytes_are code (Some kind) bytes e = absurd (cc)
bytes_are code None bytes e = measured (nat_lt most_bytes (length (bytes_of code))) e
  where
    measured : (b : Bool) → (if b then image_too_large else image (bytes_of code)) ≡ image bytes → bytes ≡ bytes_of code
    measured true e = absurd (cc)
    measured false e = cc

pub holds_code : (program : Meant) (bytes : List ℕ) → read_image (bytes_of (code_of program)) ≡ Ok (code_of program) →
    WasBuilt program bytes
    → HoldsCode program bytes
holds_code program bytes read built =
    let is = bytes_are (code_of program) (size_fault (code_of program)) bytes built.image in
    record { is = is; read = ap read_image is ∙ read }

pub runs_so : (program : Meant) (bytes : List ℕ) (limits : Limits) (arguments : List (List ℕ)) → WasBuilt program bytes →
    HoldsCode program bytes
    → machine_run (code_of program) limits arguments ≡ meant_run program limits arguments
    → executed bytes limits arguments ≡ Some (meant_run program limits arguments)
runs_so program bytes limits arguments built holds same =
    ap (λ read. run_of (of_read read) limits arguments) holds.read
    ∙ (ap (λ fault. run_of (of_code (code_of program) fault) limits arguments) built.sound ∙ ap Some same)
