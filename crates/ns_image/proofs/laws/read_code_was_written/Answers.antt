use Rattle.ns_image.proofs.Images.{read_was_written}
use Rattle.ns_image.proofs.laws.read_code_was_written.Goals as goal

pub returns : goal.returns
returns c = read_was_written
