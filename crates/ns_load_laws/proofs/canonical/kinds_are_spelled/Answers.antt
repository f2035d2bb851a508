use Rattle.ns_print.specs.Printed.{spell}
use Rattle.ns_load_laws.proofs.Spelled.{spelled}
use Rattle.ns_load_laws.proofs.canonical.kinds_are_spelled.Goals as goal

pub returns : goal.returns
returns c = λ kind. (spelled kind, c.tokens_have_texts.ensures.each (spell kind) kind)
