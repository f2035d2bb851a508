use Rattle.ns_resolved.specs.Program.{Meant}
use Rattle.ns_resolved.specs.Tables.{tables}
use Rattle.ns_gen_code.specs.Code.{code_of}
use Rattle.ns_model.specs.Tables.{MeansTheSame}
use Rattle.ns_link.proofs.OverTables.{same_tables, over_tables, reported}
use Rattle.ns_link.proofs.laws.the_machine_does_what_is_meant.Goals.{After-the_meaning_reads_tables_alone}
use Rattle.ns_link.proofs.laws.the_machine_does_what_is_meant.Goals as goal

same : After-the_meaning_reads_tables_alone → (meant : Meant) → MeansTheSame meant (code_of meant) (tables meant)
same c meant = c.the_meaning_reads_tables_alone.ensures meant (code_of meant) (tables meant) (same_tables meant (c.code_has_the_tables.ensures meant))

pub returns-clause-ends : goal.returns-clause-ends
returns-clause-ends c meant = over_tables meant (c.returns_go_home.ensures meant (code_of meant)) (c.runs_end.ensures meant (code_of meant)) (same c meant)

pub returns-clause-reported : goal.returns-clause-reported
returns-clause-reported c meant = reported meant (same c meant)
