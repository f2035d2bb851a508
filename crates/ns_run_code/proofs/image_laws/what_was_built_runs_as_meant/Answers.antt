use Rattle.ns_resolved.specs.Classes.{meant}
use Rattle.ns_run_code.proofs.Stored.{runs_so}
use Rattle.ns_run_code.proofs.image_laws.what_was_built_runs_as_meant.Goals as goal

pub returns : goal.returns
returns c program bytes limits arguments whole built range =
    runs_so (meant program) bytes limits arguments built (c.what_was_built_is_read.ensures (meant program) bytes built)
    (c.code_runs_as_meant.ensures (meant program) limits arguments
    (record { first = c.whole_programs_begin.ensures program whole; sound = built.sound; fits = built.fits; range = range }))
