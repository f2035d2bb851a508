use Rattle.ns_audit.proofs.Tops.{modules_declared}
use Rattle.ns_audit.proofs.laws.modules_are_declared.Goals as goal

pub returns : goal.returns
returns c = λ code sound. modules_declared code (c.sound_code_has_no_cause.ensures.there code sound)
