use Rattle.std.proofs.Common.{codes}
use Rattle.ns_run_words.proofs.OwnLaws.{stripped}
use Rattle.ns_run_words.proofs.options.text_in.Goals as goal

pub returns : goal.returns
returns c = stripped (codes "--text=") c.args.option.now c.strip_prefix.result c.strip_prefix.ensures.cases
