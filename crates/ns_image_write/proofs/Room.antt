-- Code that fits has room in an image.
use Rattle.std.proofs.Common.{All, arith}
use Rattle.ns_code.specs.declared.program.CodeProgram.{CodeProgram}
use Rattle.ns_code.specs.declared.body.BodyCode.{BodyCode}
use Rattle.ns_code.specs.Fits.{Fits, BodyFits, IsShort}
use Rattle.ns_image_write.specs.Room.{ImageHasRoom}

pub files_are_short : (code : CodeProgram) → Fits code → All IsShort code.files
files_are_short code fits = λ k d lt. (fits.files k d lt).short

pub names_are_short : (code : CodeProgram) → Fits code → All IsShort code.names
names_are_short code fits = λ k d lt. (fits.names k d lt).short

room_of : (code : CodeProgram) (body : BodyCode) → BodyFits code body → ImageHasRoom body
room_of code body fits = record {
  parent = fits.parent;
  instr_count = omega (arith, fits.instr_count);
  local_names = λ k d lt. (fits.local_names k d lt).short;
  place_count = fits.place_count;
}

pub bodies_have_room : (code : CodeProgram) → Fits code → All ImageHasRoom code.bodies
bodies_have_room code fits = λ k d lt. room_of code _ (fits.bodies k d lt)
