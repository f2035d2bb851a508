use Rattle.ns_image.proofs.Images.{written_again}
use Rattle.ns_image.proofs.laws.image_is_written_again.Goals as goal

pub returns : goal.returns
returns c = written_again
