use Rattle.std.proofs.Common.{None, sym}
use Rattle.std.proofs.lemmas.Str.Pattern.{strip_prefix_char}
use Rattle.ns_run_words.proofs.ApplicationLaws.{begins_not, without_none}
use Rattle.ns_run_words.proofs.application.letter.Goals as goal

pub returns-in-None-clause-is : goal.returns-in-None-clause-is
returns-in-None-clause-is c =
    sym (begins_not c.args.letter c.args.text.now (strip_prefix_char c.args.letter c.args.text.now None c.in-None.ensures.cases c.requires))

pub returns-in-None-clause-rest : goal.returns-in-None-clause-rest
returns-in-None-clause-rest c =
    sym (without_none c.args.letter c.args.text.now (strip_prefix_char c.args.letter c.args.text.now None c.in-None.ensures.cases c.requires))
