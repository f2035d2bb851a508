-- What `build` makes of a program without static faults.
use Rattle.std.specs.Prelude.{ℕ, List, length, Option, Some, None, nat_lt, if◌then◌else◌}
use Rattle.ns_code.specs.declared.program.CodeProgram.{CodeProgram}
use Rattle.ns_gen_code.specs.Code.{code_of}
use Rattle.ns_gen_code.specs.Sizes.{size_fault}
use Rattle.ns_gen_code.specs.declared.size.SizeKind.{SizeKind}
use Rattle.ns_image.specs.Bytes.{bytes_of}
use Rattle.ns_resolved.specs.Program.{Meant}

-- an image, or what of the program is too large
pub data Built : Type 0 where
  image : (bytes : List ℕ) → Built
  too_large : (kind : SizeKind) → Built
  image_too_large : Built

-- the most bytes of an image
abbrev pub most_bytes : ℕ
most_bytes = 134217728

-- the image of these bytes, where they aren't too many
abbrev pub of_bytes : List ℕ → Built
of_bytes bytes = if nat_lt most_bytes (length bytes) then image_too_large else image bytes

-- the image of code, of which this size is too large
abbrev pub of_size : CodeProgram → Option SizeKind → Built
of_size code (Some kind) = too_large kind
of_size code None = of_bytes (bytes_of code)

-- the image of a program: the sizes of its code come first, then that of the image
abbrev pub built_of : Meant → Built
built_of meant = of_size (code_of meant) (size_fault (code_of meant))
