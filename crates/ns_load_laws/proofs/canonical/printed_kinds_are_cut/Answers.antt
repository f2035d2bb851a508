use Rattle.ns_print.specs.Printed.{printed}
use Rattle.ns_load_laws.proofs.CanonicalSources.{printed_spaced}
use Rattle.ns_load_laws.proofs.canonical.printed_kinds_are_cut.Goals as goal

pub returns : goal.returns
returns c = λ wanted told. c.spaced_texts_are_cut.ensures (printed wanted) wanted (printed_spaced wanted (λ kind. (c.kinds_are_spelled.ensures kind).0) told)
