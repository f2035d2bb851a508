use Rattle.ns_run_words.proofs.application.+are_few.Given as goal

-- Each name but the last leaves room for one less.
abbrev pub decreases-are_few : goal.decreases-are_few
decreases-are_few l = l.most
