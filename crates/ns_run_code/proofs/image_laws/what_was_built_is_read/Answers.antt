use Rattle.ns_gen_code.specs.Code.{code_of}
use Rattle.ns_run_code.proofs.Stored.{holds_code}
use Rattle.ns_run_code.proofs.image_laws.what_was_built_is_read.Goals as goal

pub returns : goal.returns
returns c program bytes built = holds_code program bytes (c.written_code_is_read.ensures (code_of program) built.fits) built
