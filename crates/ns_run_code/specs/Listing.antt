-- What `list` makes of the bytes of an image: they are read, and the code is listed.
use Rattle.std.specs.Prelude.{ℕ, List, Result, Ok, Err}
use Rattle.ns_code.specs.declared.program.CodeProgram.{CodeProgram}
use Rattle.ns_run_code.specs.declared.listing.ListFault.{ListFault}
use Rattle.ns_run_code.specs.declared.listing.ListFault.TheVariants as told
use Rattle.ns_image.specs.Reading.{read_image}
use Rattle.ns_image.specs.declared.fault.ImageFault.{ImageFault}
use Rattle.ns_image.specs.declared.fault.ImageFault.TheVariants.{NotAnImage, BadVersion, Truncated, BadField, Trailing, Memory}
use Rattle.ns_image_list.specs.Listing.{listing}

-- bytes that are no image, or the lines of a listing
pub data ListedCode : Type 0 where
  unlisted : (fault : ImageFault) → ListedCode
  lines : (bytes : List ℕ) → ListedCode

-- the listing of what was read
abbrev pub of_read : Result CodeProgram ImageFault → ListedCode
of_read (Err fault) = unlisted fault
of_read (Ok code) = lines (listing code)

-- the listing of the code of an image, admitted or not
abbrev pub listed : List ℕ → ListedCode
listed bytes = of_read (read_image bytes)

-- the fault of an image, apart from want of memory
abbrev pub told_fault : ImageFault → ListFault
told_fault NotAnImage = told.Image NotAnImage
told_fault BadVersion = told.Image BadVersion
told_fault Truncated = told.Image Truncated
told_fault (BadField at) = told.Image (BadField at)
told_fault Trailing = told.Image Trailing
told_fault Memory = told.Memory
