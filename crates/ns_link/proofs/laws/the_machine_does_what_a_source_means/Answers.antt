use Rattle.ns_resolved.specs.Classes.{meant}
use Rattle.ns_link.proofs.laws.the_machine_does_what_a_source_means.Goals as goal

pub returns : goal.returns
returns c program whole = c.the_machine_does_what_is_meant.ensures.ends (meant program) (c.whole_programs_begin.ensures program whole)
