use Rattle.std.proofs.Common.{ap, Some}
use Rattle.ns_session_files.specs.Making.{one_file}
use Rattle.ns_session_files.proofs.text.code_of_text.Goals as goal

pub returns-clause-told : goal.returns-clause-told
returns-clause-told c = λ grants. c.code_of_files.ensures.told grants (one_file c.args.name.now c.args.text.now) (ap Some c.in_ok-shelf.ensures)
