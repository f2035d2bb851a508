use Rattle.ns_run_words.specs.Line.{asked_seen}
use Rattle.ns_session_files.specs.Making.{granted}
use Rattle.ns_session_files.proofs.source.code_of.Goals as goal

pub returns-clause-told : goal.returns-clause-told
returns-clause-told g c = λ files e. c.code_of_files.ensures.told (granted (asked_seen c.args.asked)) files e

pub returns-clause-texts : goal.returns-clause-texts
returns-clause-texts g c = c.code_of_files.ensures.texts (granted (asked_seen c.args.asked))
