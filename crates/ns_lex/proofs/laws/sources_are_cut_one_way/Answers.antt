use Rattle.ns_lex.specs.laws.Cutting.{scan_lexes}
use Rattle.ns_lex.specs.lemmas.OneCut.{lexes_whole, one_lexes}
use Rattle.ns_lex.specs.lemmas.OneStop.{one_stop}
use Rattle.ns_lex.specs.laws.Scanned.{cut_or_stopped, lexes_scanned, stop_scanned, scanned_stop}
use Rattle.ns_lex.proofs.laws.sources_are_cut_one_way.Goals as goal

pub returns-clause-some : goal.returns-clause-some
returns-clause-some c = cut_or_stopped

pub returns-clause-one : goal.returns-clause-one
returns-clause-one c = one_lexes

pub returns-clause-one_stop : goal.returns-clause-one_stop
returns-clause-one_stop c = one_stop

pub returns-clause-no_stop : goal.returns-clause-no_stop
returns-clause-no_stop c = lexes_whole

pub returns-clause-scanned : goal.returns-clause-scanned
returns-clause-scanned c = λ source tokens. (lexes_scanned source tokens, scan_lexes source tokens)

pub returns-clause-stopped : goal.returns-clause-stopped
returns-clause-stopped c = λ source at cause. (stop_scanned source at cause, scanned_stop source at cause)
