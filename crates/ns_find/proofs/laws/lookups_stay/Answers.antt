use Rattle.ns_find.proofs.Later.{start_lasts, found_lasts, private_lasts, right_lasts, all_right_last}
use Rattle.ns_find.proofs.laws.lookups_stay.Goals as goal

pub returns-clause-starts : goal.returns-clause-starts
returns-clause-starts c = start_lasts

pub returns-clause-found : goal.returns-clause-found
returns-clause-found c = found_lasts

pub returns-clause-private : goal.returns-clause-private
returns-clause-private c = private_lasts

pub returns-clause-kept : goal.returns-clause-kept
returns-clause-kept c = right_lasts

pub returns-clause-memos : goal.returns-clause-memos
returns-clause-memos c = all_right_last
